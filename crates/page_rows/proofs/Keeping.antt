-- Members of an order that pass a test, listed one by one, and places of all of them.
-- Assumes nothing.
use Rattle.std.specs.Prelude.{◌≡◌, ℕ, suc, ◌+◌, ◌<◌, ◌≤◌, Bool, true, false, List, [], ◌∷◌, ◌++◌, length, get_or, take, drop, set}
use mathlib.Core.Path.{refl, sym, ap, ◌∙◌}
use native.Mathlib.Numerals.{add-one}
use native.Mathlib.Omega.{arith}
use lib.ListN.{take-append-drop, length-append}
use lib.Seq.{take_all, length-take-le}
use Rattle.lists.specs.Words.{keep}
use Rattle.lists.proofs.Laws.{keep_append, length-keep, front-more}
use Rattle.risk_of_orders.proofs.Running.{keep-in, keep_out}
use Rattle.page_rows.specs.inner.Steps.{Listed}

-- those of the first k that pass stand in the slice, and there are `count` of them
pub record Kept (f : ℕ → Bool) (order old : List ℕ) (k count : ℕ) (kept : List ℕ) : Type 0 where
  pub within : k ≤ length order
  pub counted : count ≡ length (keep f (take k order))
  pub made : kept ≡ keep f (take k order) ++ drop count old

-- the first k have no more that pass than all
kept-fewer : (f : ℕ → Bool) (order : List ℕ) (k : ℕ) → length (keep f (take k order)) ≤ length (keep f order)
kept-fewer f order k =
    omega (arith, ap (λ (xs : List ℕ). length (keep f xs)) (sym (take-append-drop k order)), ap length (keep_append f (take k order) (drop k order)), length-append (keep f (take k order)) (keep f (drop k order)))

module _ (f : ℕ → Bool) (order old : List ℕ) where
  pub kept-start : Kept f order old 0 0 old
  kept-start = record { within = omega arith; counted = refl; made = refl }

  module _ (room : length (keep f order) ≤ length old) (k count : ℕ) (kept : List ℕ) (p : Kept f order old k count kept) where
    abbrev so_far : List ℕ
    so_far = keep f (take k order)

    pub kept-few : count ≤ k
    kept-few = omega (arith, p.counted, length-keep f (take k order), length-take-le k order p.within)

    pub kept_out : k < length order → f (get_or order k 0) ≡ false → Kept f order old (k + 1) count kept
    kept_out l e =
        let same = keep_out f order k l e in
        record { within = omega arith; counted = p.counted ∙ ap length (sym same); made = p.made ∙ ap (λ (xs : List ℕ). xs ++ drop count old) (sym same) }

    module _ (l : k < length order) (e : f (get_or order k 0) ≡ true) where
      abbrev x : ℕ
      x = get_or order k 0

      more : keep f (take (k + 1) order) ≡ so_far ++ (x ∷ [])
      more = keep-in f order k l e

      longer : length (keep f (take (k + 1) order)) ≡ suc (length so_far)
      longer = ap length more ∙ length-append so_far (x ∷ []) ∙ add-one (length so_far)

      pub kept-room : count < length old
      kept-room = omega (arith, p.counted, longer, kept-fewer f order (k + 1))

      pub kept_in : Kept f order old (k + 1) (count + 1) (set kept count x)
      kept_in = record {
        within = omega arith;
        counted = add-one count ∙ ap suc p.counted ∙ sym longer;
        made =
            ap (λ (xs : List ℕ). set xs count x) p.made
            ∙ front-more so_far old count x (sym p.counted) kept-room
            ∙ ap (λ (xs : List ℕ). xs ++ drop (count + 1) old) (sym more);
      }

    pub kept-end : length order ≤ k → Listed (keep f order) old kept count
    kept-end h =
        let all : take k order ≡ order = take_all k order h in
        record { count = p.counted ∙ ap (λ (xs : List ℕ). length (keep f xs)) all; written = p.made ∙ ap (λ (xs : List ℕ). keep f xs ++ drop count old) all }
