-- A field, a row, the rows of a list and a list are read in one way only.
-- Assumes nothing.
use Prim.Native.Nat.{ℕ, zero, suc, ◌≤◌, ◌<◌}
use Prim.Native.String.{String}
use native.Mathlib.Omega.{arith}
use mathlib.Core.Path.{◌≡◌, refl, sym, ap, ap₂, ◌∙◌}
use mathlib.Core.Bool.{true, ◌&&◌}
use mathlib.Core.List.{List, [], ◌∷◌, ◌++◌, append_assoc, append_cancel_left, map, flat_map}
use lib.ListN.{length, get_or, length-map}
use lib.Dec.{eqb, leb}
use borrow.Author.Tests.{eqb-true, leb-true}
use Rattle.lists.specs.Words.{every, up_to}
use Rattle.lists.proofs.Laws.{and_parts}
use Rattle.lists.proofs.Tests.{every-head, every-at}
use Rattle.tables.specs.Project.{missing}
use Rattle.form.specs.Form.{bytes, field, row, transpose, row_count, rows_of, section, even}
use Rattle.form.specs.Parse.{ok, bad, front, Fit, none, more}
use Rattle.form.proofs.Fields.{front-field}
use Rattle.form.proofs.Transposing.{transpose-twice}

-- one field and the byte behind it
pub field-once : (v u e f : ℕ) (x y : List ℕ) → v ≤ missing → u ≤ missing → e < 48 → f < 48 → field v ++ e ∷ x ≡ field u ++ f ∷ y
    → (v ≡ u) × (x ≡ y)
field-once v u e f x y hv hu he hf q =
    let r : ok v (e ∷ x) ≡ ok u (f ∷ y) = sym (front-field v e x hv he) ∙ ap front q ∙ front-field u f y hu hf in
    (cc, cc)

-- a field is no line end
pub field-not-end : (v e : ℕ) (x y : List ℕ) → v ≤ missing → e < 48 → field v ++ e ∷ x ≡ 10 ∷ y → ⊥
unfolding front
field-not-end v e x y h he q =
    let r : ok v (e ∷ x) ≡ bad = sym (front-field v e x h he) ∙ ap front q in
    let z : ◌≡◌ {A = ℕ} 0 1 = cc in omega arith

pub row-once : (r q x y : List ℕ) → length r ≡ length q → Fit r → Fit q → row r ++ x ≡ row q ++ y → (r ≡ q) × (x ≡ y)
unfolding row
row-once [] [] x y l f g e = (refl, cc)
row-once [] (u ∷ us) x y l f g e = absurd (omega arith)
row-once (v ∷ vs) [] x y l f g e = absurd (omega arith)
row-once (v ∷ []) (u ∷ []) x y l (more hv f) (more hu g) e =
    let o = field-once v u 10 10 x y hv hu (omega arith) (omega arith) (sym (append_assoc (field v) (10 ∷ []) x) ∙ e ∙ append_assoc (field u) (10 ∷ []) y) in
    (ap (λ (n : ℕ). n ∷ []) o.0, o.1)
row-once (v ∷ []) (u ∷ u₁ ∷ us) x y l f g e = absurd (omega arith)
row-once (v ∷ v₁ ∷ vs) (u ∷ []) x y l f g e = absurd (omega arith)
row-once (v ∷ v₁ ∷ vs) (u ∷ u₁ ∷ us) x y l (more hv f) (more hu g) e =
    let o =
    field-once v u 32 32 (row (v₁ ∷ vs) ++ x) (row (u₁ ∷ us) ++ y) hv hu (omega arith) (omega arith)
    (sym (append_assoc (field v) (32 ∷ row (v₁ ∷ vs)) x) ∙ e ∙ append_assoc (field u) (32 ∷ row (u₁ ∷ us)) y) in
    let i = row-once (v₁ ∷ vs) (u₁ ∷ us) x y (omega arith) f g o.1 in
    (ap₂ (λ (n : ℕ) (r : List ℕ). n ∷ r) o.0 i.0, i.1)

-- a row that has a field is no empty line
row-not-end : (r x y : List ℕ) → 0 < length r → Fit r → row r ++ x ≡ 10 ∷ y → ⊥
unfolding row
row-not-end [] x y h f e = omega arith
row-not-end (v ∷ []) x y h (more hv f) e = field-not-end v 10 x y hv (omega arith) (sym (append_assoc (field v) (10 ∷ []) x) ∙ e)
row-not-end (v ∷ u ∷ us) x y h (more hv f) e =
    field-not-end v 32 (row (u ∷ us) ++ x) y hv (omega arith) (sym (append_assoc (field v) (32 ∷ row (u ∷ us)) x) ∙ e)

-- rows of w values each
pub data Rows : ℕ → List (List ℕ) → Type 0 where
  no_row : {w : ℕ} → Rows w []
  a-row : {w : ℕ} {r : List ℕ} {t : List (List ℕ)} → length r ≡ w → Fit r → Rows w t → Rows w (r ∷ t)

pub rows-once : (w : ℕ) (t u : List (List ℕ)) (x y : List ℕ) → Rows (suc w) t → Rows (suc w) u
    → flat_map row t ++ 10 ∷ x ≡ flat_map row u ++ 10 ∷ y → (t ≡ u) × (x ≡ y)
unfolding flat_map
rows-once w [] [] x y a b e = (refl, cc)
rows-once w [] (q ∷ u) x y a (a-row l f b) e =
    absurd (row-not-end q (flat_map row u ++ 10 ∷ y) x (omega arith) f (sym (append_assoc (row q) (flat_map row u) (10 ∷ y)) ∙ sym e))
rows-once w (r ∷ t) [] x y (a-row l f a) b e =
    absurd (row-not-end r (flat_map row t ++ 10 ∷ x) y (omega arith) f (sym (append_assoc (row r) (flat_map row t) (10 ∷ x)) ∙ e))
rows-once w (r ∷ t) (q ∷ u) x y (a-row l f a) (a-row m g b) e =
    let o =
    row-once r q (flat_map row t ++ 10 ∷ x) (flat_map row u ++ 10 ∷ y) (l ∙ sym m) f g
    (sym (append_assoc (row r) (flat_map row t) (10 ∷ x)) ∙ e ∙ append_assoc (row q) (flat_map row u) (10 ∷ y)) in
    let i = rows-once w t u x y a b o.1 in
    (ap₂ (λ (s : List ℕ) (v : List (List ℕ)). s ∷ v) o.0 i.0, i.1)

-- what a test of columns says: their length, and their numbers
every-fit : (c : List ℕ) → every (λ (x : ℕ). leb x missing) c ≡ true → Fit c
every-fit [] e = none
every-fit (x ∷ xs) e =
    let h = every-head (λ (y : ℕ). leb y missing) x xs e in
    more (leb-true x missing h.0) (every-fit xs h.1)

module _ (columns : List (List ℕ)) (e : even columns ≡ true) where
  column-test : (k : ℕ) → k < length columns
      → (eqb (length (get_or columns k [])) (row_count columns) ≡ true) × (every (λ (x : ℕ). leb x missing) (get_or columns k []) ≡ true)
  unfolding even
  column-test k h =
      and_parts _ _ (every-at (λ (c : List ℕ). eqb (length c) (row_count columns) && every (λ (x : ℕ). leb x missing) c) columns [] e k h)

  pub column-length : (k : ℕ) → k < length columns → length (get_or columns k []) ≡ row_count columns
  column-length k h = eqb-true _ _ (column-test k h).0

  pub column-fit : (k : ℕ) → k < length columns → Fit (get_or columns k [])
  column-fit k h = every-fit _ (column-test k h).1

pub fit_at : (c : List ℕ) (i : ℕ) → Fit c → get_or c i 0 ≤ missing
fit_at [] i f = omega arith
fit_at (x ∷ xs) zero (more h f) = h
fit_at (x ∷ xs) (suc i) (more h f) = fit_at xs i f

-- the rows of columns that fit
row-fit : (columns : List (List ℕ)) (i : ℕ) → ((k : ℕ) → k < length columns → Fit (get_or columns k [])) → Fit (map (λ (c : List ℕ). get_or c i 0) columns)
row-fit [] i h = none
row-fit (c ∷ cs) i h = more (fit_at c i (h 0 (omega arith))) (row-fit cs i (λ k l. h (suc k) (omega arith)))

rows_fit : (columns : List (List ℕ)) (is : List ℕ) → ((k : ℕ) → k < length columns → Fit (get_or columns k []))
    → Rows (length columns) (map (λ (i : ℕ). map (λ (c : List ℕ). get_or c i 0) columns) is)
rows_fit columns [] h = no_row
rows_fit columns (i ∷ is) h = a-row (length-map columns (λ (c : List ℕ). get_or c i 0)) (row-fit columns i h) (rows_fit columns is h)

pub even-rows : (columns : List (List ℕ)) → even columns ≡ true → Rows (length columns) (rows_of columns)
unfolding transpose
even-rows columns e = rows_fit columns (up_to (row_count columns)) (column-fit columns e)

-- columns are settled by their rows
pub even-columns : (columns : List (List ℕ)) → even columns ≡ true → transpose (length columns) (rows_of columns) ≡ columns
even-columns columns e = transpose-twice (row_count columns) columns (column-length columns e)

-- a list
pub section-once : (name : String) (a b : List (List ℕ)) (x y : List ℕ) → length a ≡ length b → 0 < length a → even a ≡ true → even b ≡ true
    → section name a ++ x ≡ section name b ++ y → (a ≡ b) × (x ≡ y)
unfolding section
section-once name a b x y l h ea eb q =
    let o = once (length a) refl h in
    (sym (even-columns a ea) ∙ ap₂ transpose l o.0 ∙ even-columns b eb, o.1)
  where
    apart : (c : List (List ℕ)) (z : List ℕ)
        → (bytes name ++ 10 ∷ (flat_map row (rows_of c) ++ 10 ∷ [])) ++ z ≡ bytes name ++ 10 ∷ (flat_map row (rows_of c) ++ 10 ∷ z)
    apart c z =
        append_assoc (bytes name) (10 ∷ (flat_map row (rows_of c) ++ 10 ∷ [])) z
        ∙ ap (λ (r : List ℕ). bytes name ++ 10 ∷ r) (append_assoc (flat_map row (rows_of c)) (10 ∷ []) z)

    body : 10 ∷ (flat_map row (rows_of a) ++ 10 ∷ x) ≡ 10 ∷ (flat_map row (rows_of b) ++ 10 ∷ y)
    body = append_cancel_left (bytes name) _ _ (sym (apart a x) ∙ q ∙ apart b y)

    tails : {c d : List ℕ} → 10 ∷ c ≡ 10 ∷ d → c ≡ d
    tails e = cc

    once : (w : ℕ) → length a ≡ w → 0 < w → (rows_of a ≡ rows_of b) × (x ≡ y)
    once zero e g = absurd (omega arith)
    once (suc w) e g = rows-once w (rows_of a) (rows_of b) x y (rw e at (even-rows a ea)) (rw (sym l ∙ e) at (even-rows b eb)) (tails body)
