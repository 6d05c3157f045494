-- Marks of what is visited and reached.
-- Assumes nothing.
use Rattle.std.specs.Prelude.{ℕ, List, [], ◌∷◌}
use Rattle.lists.specs.Words.{elem, marks_of}
use Rattle.walk.specs.Walk.{St, everywhere, Visits}
use Rattle.strong_connection.specs.Cycles.{reached_from}

-- a walk's state with marks alone
abbrev pub marking : List ℕ → St (Unit {0})
marking marks = record { marks = marks; made = tt }

abbrev pub nothing : Unit {0} → ℕ → Unit {0}
nothing made m = made

-- what a visit of m does to the marks
abbrev pub Marked : (ℕ → List ℕ) → List ℕ → ℕ → List ℕ → Type 0
Marked succ marks m marks' = Visits succ everywhere nothing (marking marks) (m ∷ []) (marking marks')

-- the marks of those of n chunks that c reaches
abbrev pub reach_marks : ℕ → (ℕ → List ℕ) → ℕ → List ℕ
reach_marks n succ c = marks_of (λ (d : ℕ). elem d (reached_from n succ c)) n
