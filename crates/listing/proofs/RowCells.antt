-- A list's values one following the other, and its rows, are the same text. Assumes nothing.
use Rattle.std.specs.Prelude.{◌≡◌, ℕ, zero, suc, ◌≤◌, List, [], ◌∷◌, ◌++◌, length}
use native.Mathlib.Omega.{arith}
use mathlib.Core.Path.{refl, sym, ap, ap₂, ◌∙◌}
use mathlib.Core.List.{append_assoc, flatten, flat_map}
use borrow.Author.Tests.{ne_eqb}
use Rattle.form.specs.Form.{field, row}
use Rattle.form.specs.Parse.{Fit, none, more}
use Rattle.form.proofs.Rows.{Rows, no_row, a-row}
use Rattle.text_rows.specs.inner.Cells.{ender, following, cells, ends, Whole}

ender-last : ender 0 ≡ 10
unfolding ender
ender-last = refl

ender-more : (k : ℕ) → ender (suc k) ≡ 32
unfolding ender
ender-more k = simp (ne_eqb (suc k) 0 (omega arith))

following-last : (last : ℕ) → following last 0 ≡ last
unfolding following
following-last last = refl

following-more : (last k : ℕ) → following last (suc k) ≡ k
unfolding following
following-more last k = simp (ne_eqb (suc k) 0 (omega arith)) (omega arith)

-- a row and what follows it
row-cells : (last left : ℕ) (r vs : List ℕ) → length r ≡ suc left → cells last left (r ++ vs) ≡ row r ++ cells last last vs
unfolding cells row
row-cells last left [] vs e = absurd (omega arith)
row-cells last left (v ∷ []) vs e = at left (omega arith)
  where
    at : (n : ℕ) → n ≡ 0 → field v ++ ender n ∷ cells last (following last n) vs ≡ (field v ++ 10 ∷ []) ++ cells last last vs
    at n q = rw q (rw (ender-last, following-last) (sym (append_assoc (field v) (10 ∷ []) (cells last last vs))))
row-cells last zero (v ∷ u ∷ us) vs e = absurd (omega arith)
row-cells last (suc left) (v ∷ u ∷ us) vs e =
    ap₂ (λ (b n : ℕ). field v ++ b ∷ cells last n ((u ∷ us) ++ vs)) (ender-more left) (following-more last left)
    ∙ ap (λ (x : List ℕ). field v ++ 32 ∷ x) (row-cells last left (u ∷ us) vs (omega arith))
    ∙ sym (append_assoc (field v) (32 ∷ row (u ∷ us)) (cells last last vs))

pub rows-cells : (last : ℕ) (t : List (List ℕ)) → Rows (suc last) t → cells last last (flatten t) ≡ flat_map row t
unfolding cells flat_map flatten
rows-cells last [] no_row = refl
rows-cells last (r ∷ t) (a-row l f s) = row-cells last last r (flatten t) l ∙ ap (λ (x : List ℕ). row r ++ x) (rows-cells last t s)

ends-row : (last left : ℕ) (r vs : List ℕ) → length r ≡ suc left → ends last left (r ++ vs) ≡ ends last last vs
unfolding ends
ends-row last left [] vs e = absurd (omega arith)
ends-row last left (v ∷ []) vs e = at left (omega arith)
  where
    at : (n : ℕ) → n ≡ 0 → ends last (following last n) vs ≡ ends last last vs
    at n q = rw q (rw following-last refl)
ends-row last zero (v ∷ u ∷ us) vs e = absurd (omega arith)
ends-row last (suc left) (v ∷ u ∷ us) vs e =
    ap (λ (n : ℕ). ends last n ((u ∷ us) ++ vs)) (following-more last left) ∙ ends-row last left (u ∷ us) vs (omega arith)

fit_append : (xs ys : List ℕ) → Fit xs → Fit ys → Fit (xs ++ ys)
fit_append [] ys none g = g
fit_append (x ∷ xs) ys (more h f) g = more h (fit_append xs ys f g)

-- the values of rows are whole rows
pub rows_whole : (last : ℕ) (t : List (List ℕ)) → Rows (suc last) t → Whole last (flatten t)
unfolding ends flatten
rows_whole last [] no_row = record { fit = none; whole = refl }
rows_whole last (r ∷ t) (a-row l f s) =
    let ih = rows_whole last t s in
    record { fit = fit_append r (flatten t) f ih.fit; whole = ends-row last last r (flatten t) l ∙ ih.whole }

-- the rows of values that end in the row that is begun
record Cut (last left : ℕ) (vs : List ℕ) : Type 0 where
  first : List ℕ
  others : List (List ℕ)
  size : length first ≡ suc left
  fits : Fit first
  good : Rows (suc last) others
  whole : vs ≡ first ++ flatten others

cut : (last left : ℕ) (v : ℕ) (vs : List ℕ) → left ≤ last → Fit (v ∷ vs) → ends last left (v ∷ vs) ≡ last → Cut last left (v ∷ vs)
unfolding ends flatten
cut last zero v [] h (more hv f) e =
    record { first = v ∷ []; others = []; size = refl; fits = more hv none; good = no_row; whole = refl }
cut last zero v (u ∷ us) h (more hv f) e =
    let k = cut last last u us (omega arith) f (rw following-last at e) in
    record {
      first = v ∷ [];
      others = k.first ∷ k.others;
      size = refl;
      fits = more hv none;
      good = a-row k.size k.fits k.good;
      whole = ap (λ (x : List ℕ). v ∷ x) k.whole;
    }
cut last (suc left) v [] h (more hv f) e =
    let q : left ≡ last = sym (following-more last left) ∙ e in absurd (omega arith)
cut last (suc left) v (u ∷ us) h (more hv f) e =
    let k = cut last left u us (omega arith) f (rw following-more at e) in
    record {
      first = v ∷ k.first;
      others = k.others;
      size = ap suc k.size;
      fits = more hv k.fits;
      good = k.good;
      whole = ap (λ (x : List ℕ). v ∷ x) k.whole;
    }

-- and whole rows are the values of rows
pub whole-rows : (last : ℕ) (vs : List ℕ) → Whole last vs → (t : List (List ℕ)) × Rows (suc last) t × (vs ≡ flatten t)
unfolding flatten
whole-rows last [] w = ([], no_row, refl)
whole-rows last (v ∷ vs) w =
    let k = cut last last v vs (omega arith) w.fit w.whole in
    (k.first ∷ k.others, a-row k.size k.fits k.good, k.whole)
