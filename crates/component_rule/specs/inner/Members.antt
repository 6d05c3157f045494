-- What the pass of rule (ii) looks for and asks, over the columns that it reads, and adds, at a project.
-- Assumes nothing.
use Rattle.std.specs.Prelude.{◌≡◌, ℕ, ◌<◌, ◌≤◌, Bool, true, List, length, get_or, slice_index, slice_index_or}
use Rattle.lists.specs.Words.{has}
use Rattle.tables.specs.Project.{Project, missing}
use Rattle.tables.specs.Refusal.{module_limit, chunk_limit}
use Rattle.tables.specs.Accepted.{Below}
use Rattle.chunk_cycles.specs.Cycles.{labels_of}
use Rattle.sensitivity.specs.Marks.{sensitive}
use Rattle.eligibility.specs.Eligible.{eligible}
use Rattle.marks.specs.Steps.{Added}
use Rattle.wrap_rules.specs.Rules.{component_asks}

-- m is a member of a chunk that has the label of a planned module's chunk
pub record Together (chunk member_chunk member labels S : List ℕ) (m : ℕ) : Type 0 where
  pub row : ℕ
  pub there : row < length member
  pub named : get_or member row 0 ≡ m
  pub planned : ℕ
  pub inside : planned < length chunk
  pub holds : has S planned ≡ true
  pub same : get_or labels (slice_index member_chunk row) missing ≡ slice_index_or labels (slice_index chunk planned) missing
  pub labelled : get_or labels (slice_index chunk planned) missing < length labels

-- a project's columns fit each other and these sets, over n modules
pub record Members (p : Project) (labels sensitive eligible : List ℕ) (n : ℕ) : Type 0 where
  pub few : n ≤ module_limit
  pub chunks : length p.chunk ≡ n
  pub rows : length p.member_chunk ≡ length p.member
  pub inside : Below (length labels) p.member_chunk
  pub members : Below n p.member
  pub few_labels : length labels ≤ chunk_limit
  pub sensitives : length sensitive ≡ n
  pub eligibles : length eligible ≡ n

-- what a pass leaves: just what the rule asks for with the plan as it was is added
abbrev pub ComponentPassed : Project → List ℕ → List ℕ → Bool → Type 0
ComponentPassed p plan plan' changed = Added (λ (m : ℕ). component_asks (sensitive p) (eligible p) (labels_of p) p plan m ≡ true) plan plan' changed
