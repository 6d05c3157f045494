-- When a plan is one mark, 0 or 1, for each of n modules.
-- Assumes nothing.
use Rattle.std.specs.Prelude.{◌≡◌, ℕ, ◌≤◌, ◌↔◌, Bool, true, false, ◌&&◌, leb, List, length, IsTrue, EachIndex, slice_index, get_or}
use mathlib.Core.Path.{refl, sym, ap, ◌∙◌}
use mathlib.Core.Logic.{⊎_elim}
use native.Mathlib.Omega.{arith}
use borrow.Author.Tests.{eq-eqb, le-leb, leb-true}
use Rattle.lists.specs.Words.{every}
use Rattle.lists.proofs.Laws.{both}
use Rattle.lists.proofs.Tests.{every-at}
use Rattle.tables.proofs.Scan.{rows_pass}
use Rattle.plan_conditions.specs.Form.{plan_fits}

abbrev small : ℕ → Bool
small mark = leb mark 1

-- where there are n marks, the marks decide
pub fits-all : (n : ℕ) (plan : List ℕ) (b : Bool) → length plan ≡ n → (IsTrue b ↔ EachIndex plan (λ (k : ℕ). slice_index plan k ≤ 1)) → b ≡ plan_fits n plan
fits-all n plan b e h = same b h ∙ sym (ap (λ (c : Bool). c && every small plan) (eq-eqb (length plan) n e))
  where
    same : (b : Bool) → (IsTrue b ↔ EachIndex plan (λ (k : ℕ). slice_index plan k ≤ 1)) → b ≡ every small plan
    same true h = rows_pass small plan (length plan) (omega arith) (λ k l. le-leb (get_or plan k 0) 1 (h.0 refl k l))
    same false h = ⊎_elim (λ q. h.1 (λ k l. leb-true (get_or plan k 0) 1 (every-at small plan 0 q k l)) ∙ sym q) sym (both (every small plan))
