-- Places of the sensitive members of an order, written one by one.
-- Assumes nothing.
use Rattle.std.specs.Prelude.{◌≡◌, ℕ, zero, suc, ◌+◌, ◌<◌, ◌≤◌, Bool, true, false, cond, eqb, List, [], ◌∷◌, length, get_or, take, set, replicate}
use mathlib.Core.Path.{refl, sym, ap, subst, ◌∙◌}
use mathlib.Core.Logic.{⊎_elim}
use mathlib.Core.List.Memᴰ
use mathlib.Core.List.{Memᴰ}
use native.Mathlib.Nat.{not-suc-le-zero}
use native.Mathlib.Numerals.{add-one}
use native.Mathlib.Decide.{ℕ_discrete}
use native.Mathlib.Omega.{arith}
use lib.ListN.{length-set, length-append, get_or-replicate}
use lib.Seq.{get_or-set_same, get_or-set_other, take_all}
use borrow.Author.Tests.{eq-eqb, ne_eqb}
use Rattle.lists.specs.Words.{keep, elem, Distinct}
use Rattle.lists.proofs.Laws.{both, mem-keep, elem_mem, length-keep}
use Rattle.lists.proofs.Members.{get_d-mem}
use Rattle.risk_of_orders.specs.inner.Early.{rank}
use Rattle.risk_of_orders.specs.inner.Steps.{Ranked}
use Rattle.risk_of_orders.proofs.Early.{rank-snoc}
use Rattle.risk_of_orders.proofs.Running.{keep-in, keep_out}

-- the member at place k of a list without repeats isn't among the first k
once-before : (xs : List ℕ) (k : ℕ) → Distinct xs → k < length xs → Memᴰ (get_or xs k 0) (take k xs) → ⊥
unfolding Distinct
once-before [] k d l h = not-suc-le-zero l
once-before (x ∷ xs) zero d l h = Memᴰ.not-nil h
once-before (x ∷ xs) (suc k) d l h =
    ⊎_elim (λ e. d.0 (subst (λ (z : ℕ). Memᴰ z xs) e (get_d-mem xs k (omega arith)))) (once-before xs k d.1 (omega arith)) (Memᴰ.cases_cons h)

-- the sensitive ones among the first k have their places, and there are `count` of them
pub record Placed (s : ℕ → Bool) (order : List ℕ) (n k count : ℕ) (places : List ℕ) : Type 0 where
  pub within : k ≤ length order
  pub size : length places ≡ n
  pub counted : count ≡ length (keep s (take k order))
  pub ranked : Ranked (keep s (take k order)) places

module _ (s : ℕ → Bool) (order : List ℕ) (n : ℕ) where
  pub placed-start : (places : List ℕ) → length places ≡ n → places ≡ replicate (length places) 0 → Placed s order n 0 0 places
  unfolding Ranked rank
  placed-start places l e = record {
    within = omega arith;
    size = l;
    counted = refl;
    ranked = λ m h. ap (λ (p : List ℕ). get_or p m 0) e ∙ get_or-replicate (length places) m 0 0 h;
  }

  module _ (k count : ℕ) (places : List ℕ) (p : Placed s order n k count places) where
    pub placed-few : count ≤ k
    placed-few = omega (arith, p.counted, length-keep s (take k order), shorter order k)
      where
        shorter : (xs : List ℕ) (j : ℕ) → length (take j xs) ≤ j
        shorter [] zero = omega arith
        shorter [] (suc j) = omega arith
        shorter (x ∷ xs) zero = omega arith
        shorter (x ∷ xs) (suc j) = let h = shorter xs j in omega arith

    pub placed-out : k < length order → s (get_or order k 0) ≡ false → Placed s order n (k + 1) count places
    placed-out l e =
        let same = keep_out s order k l e in
        record {
          within = omega arith;
          size = p.size;
          counted = p.counted ∙ ap length (sym same);
          ranked = subst (λ (xs : List ℕ). Ranked xs places) (sym same) p.ranked;
        }

    pub placed-in : k < length order → Distinct order → get_or order k 0 < n → s (get_or order k 0) ≡ true
        → Placed s order n (k + 1) (count + 1) (set places (get_or order k 0) (count + 1))
    unfolding Ranked
    placed-in l d b e =
        let more = keep-in s order k l e in
        record {
          within = omega arith;
          size = length-set places x (count + 1) ∙ p.size;
          counted = add-one count ∙ ap suc p.counted ∙ sym (add-one (length xs)) ∙ sym (length-append xs (x ∷ [])) ∙ ap length (sym more);
          ranked = λ m h. go m (rw (length-set places x (count + 1)) at h) (ℕ_discrete m x) ∙ sym (rank-snoc xs x m fresh) ∙ ap (λ (ys : List ℕ). rank ys m) (sym more);
        }
      where
        x : ℕ
        x = get_or order k 0

        xs : List ℕ
        xs = keep s (take k order)

        fresh : elem x xs ≡ false
        fresh = ⊎_elim (λ q. absurd (once-before order k d l (mem-keep s (take k order) (elem_mem x xs q)).0)) (λ q. q) (both (elem x xs))

        go : (m : ℕ) → m < length places → Dec (m ≡ x) → get_or (set places x (count + 1)) m 0 ≡ cond (eqb m x) (suc (length xs)) (rank xs m)
        go m h (yes q) =
            rw (eq-eqb m x q)
            (ap (λ (j : ℕ). get_or (set places x (count + 1)) j 0) q
            ∙ get_or-set_same places x (count + 1) 0 (omega (arith, p.size))
            ∙ add-one count
            ∙ ap suc p.counted)
        go m h (no q) = rw (ne_eqb m x q) (get_or-set_other places x m (count + 1) 0 q ∙ p.ranked m h)

    pub placed_end : length order ≤ k → Ranked (keep s order) places
    placed_end h = subst (λ (xs : List ℕ). Ranked (keep s xs) places) (take_all k order h) p.ranked
