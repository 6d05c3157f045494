-- What a pass of a rule over a set of marks does, in place, and the candidates of a project.
-- Assumes nothing.
use Rattle.std.specs.Prelude.{◌≡◌, Bool, true, false, ◌&&◌, List, ℕ, ◌≤◌, ◌<◌, length}
use Rattle.lists.specs.Words.{zeros, marks_of}
use Rattle.walk.specs.Close.{Within, Closed, Bits}
use Rattle.tables.specs.Project.{Project}
use Rattle.tables.specs.Readings.{modules}
use Rattle.eligibility.specs.Eligible.{eligible}
use Rattle.wrap_rules.specs.Plan.{reached}

-- From s to t: it only adds; every closed set that holds s holds t; where it says that nothing changed s was closed, and else fewer are out.
pub record Passed (rule : List ℕ → ℕ → Bool) (s t : List ℕ) (changed : Bool) : Type 0 where
  pub len : length t ≡ length s
  pub bits : Bits t
  pub grows : Within s t
  pub sound : (u : List ℕ) → length u ≡ length s → Closed rule u → Within s u → Within t u
  pub fewer : zeros t ≤ zeros s
  pub still : changed ≡ false → (t ≡ s) × Closed rule s
  pub falls : changed ≡ true → zeros t < zeros s

-- a plan of a project's modules
pub record Marked (p : Project) (plan : List ℕ) : Type 0 where
  pub size : length plan ≡ modules p
  pub bits : Bits plan

-- the marks of the reached eligible modules
abbrev pub candidate_marks : Project → List ℕ
candidate_marks p = marks_of (λ (m : ℕ). eligible p m && reached p m) (modules p)
