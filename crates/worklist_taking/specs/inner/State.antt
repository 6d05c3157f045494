-- What holds of a worklist between two takings, at a project.
-- Assumes nothing.
use Rattle.std.specs.Prelude.{◌≡◌, Bool, true, ◌⊎◌, ℕ, ◌≤◌, ◌<◌, length, get_or, take}
use mathlib.Core.List.{List, Memᴰ}
use Rattle.lists.specs.Words.{has}
use Rattle.walk.specs.Reach.{Reach⁺}
use Rattle.tables.specs.Project.{Project}
use Rattle.tables.specs.Readings.{modules}
use Rattle.chunk_cycles.specs.Cycles.{labels_of}
use Rattle.expected_visit.specs.OfProject.{expected_of}
use Rattle.sensitivity.specs.Marks.{sensitive_marks}
use Rattle.eligibility.specs.Eligible.{eligible_marks}
use Rattle.wrap_rules.specs.Plan.{roots, orders_of, asked, start}
use Rattle.suffix_rule.specs.inner.Suffix.{Settling}
use Rattle.takings.specs.Taking.{set_of, Taking}
use Rattle.strong_connection.specs.inner.Graph.{EdgeColumns, successors}
use Rattle.request_queue.specs.inner.Growing.{Listing, Listed, Along}
use Rattle.request_graph.specs.inner.Requests.{RequestEdge}
use Rattle.suffix_places.specs.inner.Places.{never, Stands}
use Rattle.worklist_step.specs.inner.Step.{nodes}

-- the four rules, and the eligible seeds
abbrev pub rule_of : Project → List ℕ → ℕ → Bool
rule_of p = asked (orders_of p) (labels_of p) p

abbrev pub start_of : Project → List ℕ → List ℕ
start_of p seeds = start (orders_of p) (labels_of p) p seeds

-- the edges of a graph are those of the project's request graph
pub record GraphOf (p : Project) (g : EdgeColumns) : Type 0 where
  pub places : g.places ≡ nodes
  pub there : (u v : ℕ) → RequestEdge p u v → Memᴰ v (successors g u)
  pub back : (u v : ℕ) → Memᴰ v (successors g u) → RequestEdge p u v

-- what is noted for rule (i): the settled roots, and of each module the number of takings after which the rule asks for it, or `never`
pub record RuleNotes : Type 0 where
  pub settled : List ℕ
  pub asked : List ℕ

-- the notes are right for the takings up to `end`
pub record Batch (p : Project) (placed : List ℕ) (notes : RuleNotes) (end : ℕ) : Type 0 where
  pub settling : Settling p notes.settled placed
  pub len : length notes.asked ≡ modules p
  pub sound : (m : ℕ) → m < modules p → get_or notes.asked m 0 < never
      → (root x : ℕ) × Memᴰ root (roots p) × Stands (expected_of p root) (sensitive_marks p) x m × (has placed x ≡ true) × (get_or notes.asked m 0 ≡ get_or placed x 0)
  pub all : (root x m : ℕ) → Memᴰ root (roots p) → Stands (expected_of p root) (sensitive_marks p) x m → has placed x ≡ true → get_or placed x 0 ≤ end → has (eligible_marks p) m ≡ true
      → (has placed m ≡ true) ⊎ (get_or notes.asked m 0 ≤ get_or placed x 0)

-- the modules that are taken, as a set
abbrev pub taken_of : Project → List ℕ → List ℕ → ℕ → List ℕ
taken_of p seeds list k = set_of (length (start_of p seeds)) (take k list)

-- after k takings of a list: the statement of 02, and the places of the graph that the taken ones lead to
pub record State (p : Project) (seeds : List ℕ) (g : EdgeColumns) (met list : Listing) (k : ℕ) : Type 0 where
  pub size : length list.marks ≡ modules p
  pub places : length met.marks ≡ nodes
  pub known : Listed met.marks met.list
  pub along : Along (successors g) met.marks
  pub led : (v : ℕ) → has met.marks v ≡ true → (x : ℕ) × (has (taken_of p seeds list.list k) x ≡ true) × Reach⁺ (successors g) x v
  pub full : (x v : ℕ) → has (taken_of p seeds list.list k) x ≡ true → Reach⁺ (successors g) x v → has met.marks v ≡ true
  pub listed : Listed list.marks list.list
  pub taking : Taking (rule_of p) (start_of p seeds) list.list k
