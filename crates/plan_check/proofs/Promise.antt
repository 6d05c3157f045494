-- A plan that fits, and what an accepted call answers.
-- Assumes nothing.
use Rattle.std.specs.Prelude.{◌≡◌, ℕ, ◌<◌, ◌≤◌, true, eqb, leb, List, length, get_or, None, Ok}
use mathlib.Core.Path.{refl}
use native.Mathlib.Omega.{arith}
use lib.ListN.{get_or-eq_default}
use native.Mathlib.Decide.{dec_lt}
use borrow.Author.Tests.{eqb-true, leb-true}
use Rattle.lists.specs.Words.{every}
use Rattle.lists.proofs.Laws.{and_parts, every-mem}
use Rattle.lists.proofs.Members.{get_d-mem}
use Rattle.walk.specs.Close.{Bits}
use Rattle.tables.specs.Project.{Project}
use Rattle.tables.specs.Readings.{modules}
use Rattle.tables.proofs.Answering.{answer-accepted}
use Rattle.table.specs.Table.{Lent}
use Rattle.wrap_rules.specs.inner.Passes.{Marked}
use Rattle.seeds.specs.Seeds.{seeds_fit}
use Rattle.plan_conditions.specs.Form.{plan_fits}
use Rattle.plan_conditions.specs.Conditions.{judged}
use Rattle.plan_check.specs.Promise.{check_verdict, judgement}

-- a plan that fits has a mark for each module
pub plan-marked : (p : Project) (plan : List ℕ) → plan_fits (modules p) plan ≡ true → Marked p plan
unfolding Bits
plan-marked p plan e = record { size = eqb-true (length plan) (modules p) r.0; bits = λ i. go i (dec_lt i (length plan)) }
  where
    r : (eqb (length plan) (modules p) ≡ true) × (every (λ (mark : ℕ). leb mark 1) plan ≡ true)
    r = and_parts (eqb (length plan) (modules p)) (every (λ (mark : ℕ). leb mark 1) plan) e

    go : (i : ℕ) → Dec (i < length plan) → get_or plan i 0 ≤ 1
    go i (yes l) = leb-true (get_or plan i 0) 1 (every-mem (λ (mark : ℕ). leb mark 1) plan r.1 (get_d-mem plan i l))
    go i (no l) = let z : get_or plan i 0 ≡ 0 = get_or-eq_default plan 0 (omega arith) in omega arith

module _ (t : Lent) (seeds plan : List ℕ) where
  pub plan-judged : t.refused ≡ None → seeds_fit (modules t.project) seeds ≡ true → plan_fits (modules t.project) plan ≡ true → Ok (judged t.project seeds plan) ≡ judgement t seeds plan
  unfolding judgement
  plan-judged accepts fits form = answer-accepted {v = check_verdict t seeds plan} (rw (accepts, fits, form) refl) refl
