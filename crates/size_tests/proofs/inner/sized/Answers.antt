-- The other columns, one by one.
-- Assumes nothing.
use Rattle.std.specs.Prelude.{◌≡◌, ℕ, ◌&&◌, nat_eq, nat_le, ◌↔◌, Bool, true, false, IsTrue, EachIndex, List, length, slice_index, get_or}
use Rattle.std.proofs.Common.{rules}
use mathlib.Core.Path.{refl, sym, ap, ◌∙◌}
use mathlib.Core.Logic.{⊎_elim}
use native.Mathlib.Omega.{arith}
use borrow.Author.Tests.{eq-eqb, eqb-true}
use Rattle.lists.specs.Words.{every}
use Rattle.lists.proofs.Laws.{both}
use Rattle.lists.proofs.Tests.{every-at}
use Rattle.tables.proofs.Scan.{rows_pass}
use Rattle.size_tests.proofs.inner.sized.Goals as goal

module _ (size : ℕ) (others : List ℕ) where
  same : (b : Bool) → (IsTrue b ↔ EachIndex others (λ (k : ℕ). slice_index others k ≡ size)) → b ≡ every (λ (other : ℕ). nat_eq other size) others
  same true h = rows_pass (λ (other : ℕ). nat_eq other size) others (length others) (omega arith) (λ k l. eq-eqb (get_or others k 0) size (h.0 refl k l))
  same false h = ⊎_elim (λ q. h.1 (λ k l. eqb-true (get_or others k 0) size (every-at (λ (other : ℕ). nat_eq other size) others 0 q k l)) ∙ sym q) sym (both (every (λ (other : ℕ). nat_eq other size) others))

pub returns : goal.returns
returns c =
    let others = c.args.others.now in
    let h : IsTrue c.all.result ↔ EachIndex others (λ (k : ℕ). slice_index others k ≡ c.args.size) = search rules in
    ap (λ (b : Bool). nat_le c.args.size c.args.limit && b) (same c.args.size others c.all.result h)
