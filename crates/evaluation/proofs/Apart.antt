-- Outside the premises the two part: for each premise a project of two modules that passes the tests, what evaluation executes from module 0
-- where every record target is requested, and the expected order of module 0.
-- Assumes nothing.
use Rattle.std.specs.Prelude.{None}
use mathlib.Core.Path.{◌≡◌, refl}
use mathlib.Core.List.{List, [], ◌∷◌, flat_map}
use Prim.Native.Nat.{ℕ}
use Rattle.lists.specs.Words.{keep}
use Rattle.walk.specs.Walk.{visit, walk, everywhere, post_order}
use Rattle.tables.specs.Project.{Project, missing}
use Rattle.tables.specs.Readings.{modules, flagged, rows_of, is_import, resolved, normal_target, targets_of}
use Rattle.tables.specs.Refusal.{refusal}
use Rattle.evaluation.specs.Evaluation.{pop, inner_module_evaluation, evaluate}
use Rattle.evaluation.proofs.Witness.{tested}
use Rattle.evaluation.specs.Premises.{requested_of, evaluate_from}

-- module 0, the runtime too, is normal and included, and has one record, of a kind and with a target; module 1 is normal or not, included or not
abbrev pub pair : ℕ → ℕ → ℕ → ℕ → Project
pair normal included kind target = record {
  runtime = 0;
  dynamic = 0;
  normal = 1 ∷ normal ∷ [];
  included = 1 ∷ included ∷ [];
  sensitive = 0 ∷ 0 ∷ [];
  reads = 0 ∷ 0 ∷ [];
  exports = 1 ∷ 1 ∷ [];
  wrap = 0 ∷ 0 ∷ [];
  chunk = missing ∷ missing ∷ [];
  newer = missing ∷ missing ∷ [];
  record_module = 0 ∷ [];
  record_kind = kind ∷ [];
  record_target = target ∷ [];
  dependency_module = [];
  dependency = [];
  statement_module = [];
  statement_included = [];
  use_statement = [];
  use_record = [];
  owner = [];
  canonical = [];
  chain_symbol = [];
  chain_link = [];
  reference_statement = [];
  reference_form = [];
  reference_symbol = [];
  depended_reference = [];
  depended = [];
  order = [];
  member_chunk = [];
  member = [];
  import_chunk = [];
  imports = [];
  entry = [];
  entry_chunk = [];
  seed = [];
}

-- a project, what is executed and what is expected
abbrev Row : Type 0
Row = Project × List ℕ × List ℕ

-- the project is accepted, and gives the two lists
abbrev Gives : Row → Type 0
Gives (p, executed, expected) =
    (refusal p ≡ None)
    × ((evaluate_from p 2 0).executed ≡ executed)
    × (keep (flagged p.included) (post_order (targets_of is_import normal_target p.normal p.record_module p.record_kind p.record_target) everywhere (modules p) (0 ∷ [])) ≡ expected)

abbrev All : List Row → Type 0
All [] = Unit {0}
All (row ∷ rows) = Gives row × All rows

abbrev pub rows : List Row
rows =
    -- within the premises the two are one
    (pair 1 1 0 1, 1 ∷ 0 ∷ [], 1 ∷ 0 ∷ [])
    -- an external target is executed, and not listed
    ∷ (pair 0 1 0 1, 1 ∷ 0 ∷ [], 0 ∷ [])
    -- so is a module that is not included
    ∷ (pair 1 0 0 1, 1 ∷ 0 ∷ [], 0 ∷ [])
    -- so is the target of a require
    ∷ (pair 1 1 1 1, 1 ∷ 0 ∷ [], 0 ∷ [])
    -- so is the target of a dynamic import
    ∷ (pair 1 1 2 1, 1 ∷ 0 ∷ [], 0 ∷ [])
    -- a missing target is no module, and both pass it over; in the standard such a module does not link, and is never evaluated
    ∷ (pair 1 1 0 missing, 0 ∷ [], 0 ∷ [])
    ∷ []

pub evaluation-and-expected-order-part : All rows
unfolding tested evaluate inner_module_evaluation pop requested_of rows_of post_order walk visit targets_of resolved flat_map
evaluation-and-expected-order-part = ((refl, refl, refl), ((refl, refl, refl), ((refl, refl, refl), ((refl, refl, refl), ((refl, refl, refl), ((refl, refl, refl), tt))))))
