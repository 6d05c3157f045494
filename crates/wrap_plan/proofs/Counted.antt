-- What the operation promises of a call that counts.
-- Assumes nothing.
use Rattle.std.specs.Prelude.{◌≡◌, ℕ, ◌≤◌, true, leb, List, ◌++◌, length, drop, None, Ok}
use mathlib.Core.Path.{sym, ap, ◌∙◌}
use borrow.Author.Tests.{le-leb}
use Rattle.lists.specs.Words.{ones}
use Rattle.tables.specs.Readings.{modules}
use Rattle.tables.proofs.Answering.{verdict-none, answer-accepted, after-accepted}
use Rattle.table.specs.Table.{Lent}
use Rattle.seeds.specs.Seeds.{seeds_fit}
use Rattle.wrap_plan.specs.Promise.{plan_of, plan_verdict, PlanFromSeeds}
use Rattle.wrap_plan.proofs.Promise.{length-plan}

-- an accepted call with seeds that fit, and room, counts the plan that it writes
pub plan-counted : (t : Lent) (seeds marks : List ℕ) → t.refused ≡ None → seeds_fit (modules t.project) seeds ≡ true → modules t.project ≤ length marks → (made : List ℕ) (count : ℕ)
    → made ≡ plan_of t.project seeds → count ≡ ones (plan_of t.project seeds) → PlanFromSeeds t seeds marks (Ok count) (made ++ drop (modules t.project) marks)
plan-counted t seeds marks accepts fits l made count e c =
    let z : plan_verdict t seeds (length marks) ≡ None = verdict-none (seeds_fit (modules t.project) seeds) (leb (modules t.project) (length marks)) accepts fits (le-leb (modules t.project) (length marks) l) in
    record {
      answered = answer-accepted z c;
      written = after-accepted marks (plan_of t.project seeds) z
          (ap (λ (xs : List ℕ). xs ++ drop (modules t.project) marks) e ∙ ap (λ (i : ℕ). plan_of t.project seeds ++ drop i marks) (sym (length-plan t.project seeds)));
    }
