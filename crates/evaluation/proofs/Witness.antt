-- A project that passes the tests and meets the premises: a cycle of three modules and a request repeated, beside modules that are not
-- reached and break every premise. What module evaluation executes there is computed.
-- Assumes nothing.
use Rattle.std.specs.Prelude.{Option, None}
use Rattle.tables.specs.declared.Refusal.{Refusal}
use mathlib.Core.Path.{◌≡◌, refl, sym, subst, ◌∙◌}
use mathlib.Core.Bool.{Bool, true, not, ◌&&◌, true≢false}
use mathlib.Core.List.{List, [], ◌∷◌, zip, Memᴰ}
use Prim.Native.Nat.{ℕ}
use native.Mathlib.Omega.{arith}
use lib.ListN.{get_or}
use lib.Dec.{eqb}
use borrow.Author.Tests.{eqb-true, eq-eqb}
use Rattle.lists.specs.Words.{every, elem, keep}
use Rattle.lists.proofs.Laws.{and_parts, every-mem, elem_mem, not-true}
use Rattle.walk.specs.Walk.{everywhere, post_order}
use Rattle.walk.specs.Reach.{Reach, here, step}
use Rattle.tables.specs.Project.{Project, missing}
use Rattle.tables.specs.Readings.{modules, is_normal, flagged, rows_of, is_import, normal_target, targets_of}
use Rattle.tables.specs.Refusal.{refusal, sized, sizes_fit, values_fit, rows_rise, rows_agree, below, below_or_missing, rises, all_normal, uses_own, depended_resolved, plain_symbols, entries_once, imports_once, newer_fits}
use Rattle.evaluation.specs.Evaluation.{pop, inner_module_evaluation, evaluate}
use Rattle.evaluation.specs.Premises.{requested_of, evaluate_from, Reached, Premises}
use Rattle.evaluation.proofs.Expected.{evaluation-gives-the-expected-order}

-- what is reached from a member of a closed set is a member
reach-among : (succ : ℕ → List ℕ) (among : List ℕ) → every (λ (x : ℕ). every (λ (y : ℕ). elem y among) (succ x)) among ≡ true
    → {m x : ℕ} → Memᴰ m among → Reach succ m x → Memᴰ x among
reach-among succ among c i (here e) = subst (λ (y : ℕ). Memᴰ y among) (sym e) i
reach-among succ among c i (step {m} {y} s p) =
    reach-among succ among c (elem_mem y among (every-mem (λ (z : ℕ). elem z among) (succ m) (every-mem (λ (x : ℕ). every (λ (z : ℕ). elem z among) (succ x)) among c i) s)) p

-- the premises of one module, as a test
abbrev fits-row : Project → ℕ → Bool
fits-row p row = eqb (get_or p.record_kind row 0) 0 && not (eqb (get_or p.record_target row 0) missing)

abbrev fits : Project → ℕ → Bool
fits p x = is_normal p.normal x && (flagged p.included x && every (fits-row p) (rows_of p.record_module x))

-- a closed set with the root whose members all pass it shows the premises
pub meets-premises : (p : Project) (root : ℕ) (among : List ℕ) → elem root among ≡ true → every (λ (x : ℕ). every (λ (y : ℕ). elem y among) (requested_of p x)) among ≡ true
    → every (fits p) among ≡ true → Premises p root
meets-premises p root among r c f = record {
  normal = λ x q. (passes x q).0;
  included = λ x q. (rest x q).0;
  kinds = λ x row q i. eqb-true (get_or p.record_kind row 0) 0 (row_fits x row q i).0;
  targets = λ x row q i e. true≢false (sym (eq-eqb (get_or p.record_target row 0) missing e) ∙ not-true (eqb (get_or p.record_target row 0) missing) (row_fits x row q i).1);
}
  where
    passes : (x : ℕ) → Reached p root x → (is_normal p.normal x ≡ true) × ((flagged p.included x && every (fits-row p) (rows_of p.record_module x)) ≡ true)
    passes x q = and_parts (is_normal p.normal x) _ (every-mem (fits p) among f (reach-among (requested_of p) among c (elem_mem root among r) q))

    rest : (x : ℕ) → Reached p root x → (flagged p.included x ≡ true) × (every (fits-row p) (rows_of p.record_module x) ≡ true)
    rest x q = and_parts (flagged p.included x) _ (passes x q).1

    row_fits : (x row : ℕ) → Reached p root x → Memᴰ row (rows_of p.record_module x) → (eqb (get_or p.record_kind row 0) 0 ≡ true) × (not (eqb (get_or p.record_target row 0) missing) ≡ true)
    row_fits x row q i = and_parts (eqb (get_or p.record_kind row 0) 0) _ (every-mem (fits-row p) (rows_of p.record_module x) (rest x q).1 i)

-- 1 imports 2 and 3, 2 imports 3, and 3 imports 1 and twice 2. The runtime is 0; 4 is external; 5 isn't included, and requires 4 and imports what is missing
abbrev pub ring : Project
ring = record {
  runtime = 0;
  dynamic = 0;
  normal = 1 ∷ 1 ∷ 1 ∷ 1 ∷ 0 ∷ 1 ∷ [];
  included = 1 ∷ 1 ∷ 1 ∷ 1 ∷ 0 ∷ 0 ∷ [];
  sensitive = 0 ∷ 1 ∷ 1 ∷ 1 ∷ 0 ∷ 0 ∷ [];
  reads = 0 ∷ 0 ∷ 0 ∷ 0 ∷ 0 ∷ 0 ∷ [];
  exports = 1 ∷ 1 ∷ 1 ∷ 1 ∷ 0 ∷ 1 ∷ [];
  wrap = 0 ∷ 0 ∷ 0 ∷ 0 ∷ 0 ∷ 0 ∷ [];
  chunk = 0 ∷ 0 ∷ 0 ∷ 0 ∷ missing ∷ missing ∷ [];
  newer = missing ∷ missing ∷ missing ∷ missing ∷ missing ∷ missing ∷ [];
  record_module = 1 ∷ 1 ∷ 2 ∷ 3 ∷ 3 ∷ 3 ∷ 5 ∷ 5 ∷ [];
  record_kind = 0 ∷ 0 ∷ 0 ∷ 0 ∷ 0 ∷ 0 ∷ 1 ∷ 0 ∷ [];
  record_target = 2 ∷ 3 ∷ 3 ∷ 1 ∷ 2 ∷ 2 ∷ 4 ∷ missing ∷ [];
  dependency_module = [];
  dependency = [];
  statement_module = [];
  statement_included = [];
  use_statement = [];
  use_record = [];
  owner = [];
  canonical = [];
  chain_symbol = [];
  chain_link = [];
  reference_statement = [];
  reference_form = [];
  reference_symbol = [];
  depended_reference = [];
  depended = [];
  order = 0 ∷ [];
  member_chunk = 0 ∷ 0 ∷ 0 ∷ 0 ∷ [];
  member = 0 ∷ 1 ∷ 2 ∷ 3 ∷ [];
  import_chunk = [];
  imports = [];
  entry = 1 ∷ [];
  entry_chunk = 0 ∷ [];
  seed = [];
}

-- what refuses a project, with all that it is made of open
unfoldable pub tested : Project → Option Refusal
unfolding refusal sized sizes_fit values_fit rows_rise rows_agree below below_or_missing rises all_normal uses_own depended_resolved plain_symbols entries_once imports_once newer_fits zip
tested p = refusal p

pub ring-passes : refusal ring ≡ None
unfolding tested
ring-passes = refl

pub ring-meets : Premises ring 1
unfolding requested_of rows_of
ring-meets = meets-premises ring 1 (1 ∷ 2 ∷ 3 ∷ []) refl refl refl

pub ring-executes : (evaluate_from ring 6 1).executed ≡ 3 ∷ 2 ∷ 1 ∷ []
unfolding evaluate inner_module_evaluation pop requested_of rows_of
ring-executes = refl

-- and so its expected order, at the expression of the theorem
pub ring-expects : keep (flagged ring.included) (post_order (targets_of is_import normal_target ring.normal ring.record_module ring.record_kind ring.record_target) everywhere (modules ring) (1 ∷ [])) ≡ 3 ∷ 2 ∷ 1 ∷ []
ring-expects = sym (evaluation-gives-the-expected-order ring 1 ring-meets 6 (omega arith)).executes ∙ ring-executes
