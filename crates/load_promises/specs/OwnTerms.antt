-- Demand 2 at the terms that the operations promise: ECMA-262's order, strong connection, and rule (iii)'s "reached" and "leads to" as paths.
-- Assumes nothing.
use Rattle.std.specs.Prelude.{◌≡◌, ◌↔◌, Bool, true, List, ℕ, ◌≤◌, ◌<◌, length, get_or, None}
use Rattle.lists.specs.Words.{has}
use Rattle.walk.specs.Walk.{everywhere}
use Rattle.tables.specs.Project.{Project, missing}
use Rattle.tables.specs.Readings.{modules, chunks, is_normal, is_analysed}
use Rattle.tables.specs.Refusal.{refusal}
use Rattle.expected_visit.specs.OfProject.{expected_of}
use Rattle.evaluation.specs.Premises.{evaluate_from, Premises}
use Rattle.chunk_cycles.specs.Cycles.{label_at, reaches_cycle_of}
use Rattle.chunk_cycles.specs.Paths.{Path*, Path⁺, Lowest}
use Rattle.wrap_rules.specs.Rules.{leads}
use Rattle.wrap_rules.specs.Plan.{reached}

-- under 01's premises, what module evaluation executes is the expected order, for every fuel from the module count on
unfoldable pub EvaluationExecutesTheExpectedOrder : Type 0
EvaluationExecutesTheExpectedOrder =
    (p : Project) (root k : ℕ) → Premises p root → modules p ≤ k → (evaluate_from p k root).executed ≡ expected_of p root

-- labels and chunk reach, by paths over import rows
pub record StronglyConnected (p : Project) : Type 0 where
  -- two chunks have the same label, and not the mark, exactly if one or more rows lead from each to the other
  pub same : (c d : ℕ) → c < chunks p → d < chunks p → ((label_at p c ≡ label_at p d) × (label_at p c ≡ missing → ⊥)) ↔ (Path⁺ p c d × Path⁺ p d c)
  -- a label that isn't the mark is the lowest chunk row of the component
  pub lowest : (c : ℕ) → c < chunks p → (label_at p c ≡ missing → ⊥) → Lowest p c (label_at p c)
  -- chunk reach: zero or more rows lead to a chunk from which one or more lead back to it
  pub reach : (c : ℕ) → c < chunks p → (reaches_cycle_of p c ≡ true) ↔ ((d : ℕ) × Path* p c d × Path⁺ p d d)

unfoldable pub LabelsAreStrongConnection : Type 0
LabelsAreStrongConnection = (p : Project) → refusal p ≡ None → StronglyConnected p

-- a kind 0 record from m to t, where t passes
pub record ImportRow (p : Project) (passes : ℕ → Bool) (m t : ℕ) : Type 0 where
  pub row : ℕ
  pub there : row < length p.record_module
  pub from : get_or p.record_module row 0 ≡ m
  pub kind : get_or p.record_kind row 0 ≡ 0
  pub to : get_or p.record_target row 0 ≡ t
  pub present : t ≡ missing → ⊥
  pub passed : passes t ≡ true

-- a path of zero or more kind 0 records over modules that pass
pub data RecordPath (p : Project) (passes : ℕ → Bool) : ℕ → ℕ → Type 0 where
  stay : {m x : ℕ} → x ≡ m → RecordPath p passes m x
  go : {m y x : ℕ} → ImportRow p passes m y → RecordPath p passes y x → RecordPath p passes m x

-- (iii) "reached by kind 0 records over normal modules from an analysed entry, the entry itself counted"
unfoldable pub ReachedIsAPath : Type 0
ReachedIsAPath =
    (p : Project) → refusal p ≡ None → (m : ℕ) → (reached p m ≡ true) ↔ ((root : ℕ) × (is_analysed p root ≡ true) × RecordPath p (is_normal p.normal) root m)

-- (iii) "is planned or leads to a planned module by kind 0 records", with any set of modules planned
unfoldable pub LeadsIsAPath : Type 0
LeadsIsAPath =
    (p : Project) → refusal p ≡ None → (S : List ℕ) (t : ℕ) → t < modules p
    → (leads p S t ≡ true) ↔ ((x : ℕ) × RecordPath p everywhere t x × (has S x ≡ true))
