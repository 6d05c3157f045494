-- From the values of lists, row by row, to their columns, and back.
-- Assumes nothing.
use Rattle.std.specs.Prelude.{◌≡◌, ℕ, zero, suc, ◌+◌, ◌-◌, ◌*◌, ◌/◌, ◌<◌, ◌≤◌, true, ◌&&◌, eqb, leb, List, [], ◌∷◌, ◌++◌, map, length, get_or}
use Prim.Native.String.{String}
use native.Mathlib.Omega.{arith}
use native.Mathlib.Nat.{suc-mul, zero-mul, mul-div_cancel}
use mathlib.Core.Path.{refl, sym, ap, ap₂, ◌∙◌}
use mathlib.Core.List.{append_assoc, flatten}
use lib.ListN.{length-append, length-map, get_or-append}
use lib.Seq.{get_or-append-add}
use borrow.Author.Tests.{eq-eqb, le-leb}
use Rattle.lists.specs.Words.{up_to, every}
use Rattle.lists.proofs.Tests.{every-head, every-cons}
use Rattle.lists.proofs.Maps.{map-up_to-cong}
use Rattle.tables.specs.Project.{missing}
use Rattle.form.specs.Form.{bytes, transpose, row_count, rows_of, section, sections, even}
use Rattle.form.proofs.Rows.{Rows, no_row, a-row, even-rows, even-columns, fit_at}
use Rattle.form.proofs.Transposing.{transpose-length, transpose-twice}
use Rattle.text_rows.specs.inner.Cells.{Whole, body, head, heads_of, listed, texts, Wholes, stops}
use Rattle.text_rows.specs.inner.Cells as specs
use Rattle.listing.specs.inner.Columns.{stripe, stripes, cut, Climbs, at-end, step}
use Rattle.listing.proofs.RowCells.{rows-cells, rows_whole, whole-rows}

-- the values of columns, row by row
abbrev pub row_values : List (List ℕ) → List ℕ
row_values c = flatten (rows_of c)

-- columns as many as the widths say, at least one for each list
pub data Shaped : List ℕ → List (List (List ℕ)) → Type 0 where
  no-list : Shaped [] []
  a-list : {w : ℕ} {ws : List ℕ} {c : List (List ℕ)} {cs : List (List (List ℕ))} → 0 < w → length c ≡ w → Shaped ws cs → Shaped (w ∷ ws) (c ∷ cs)

-- rows with their values one after the other
module _ (w : ℕ) where
  pub rows-size : (t : List (List ℕ)) → Rows w t → length (flatten t) ≡ length t * w
  unfolding flatten
  rows-size [] no_row = sym (zero-mul w)
  rows-size (r ∷ t) (a-row l f s) = length-append r (flatten t) ∙ ap₂ ◌+◌ l (rows-size t s) ∙ omega (arith, suc-mul (length t) w)

  rows-wide : (t : List (List ℕ)) → Rows w t → (k : ℕ) → k < length t → length (get_or t k []) ≡ w
  rows-wide [] no_row k h = absurd (omega arith)
  rows-wide (r ∷ t) (a-row l f s) zero h = l
  rows-wide (r ∷ t) (a-row l f s) (suc k) h = rows-wide t s k (omega arith)

  -- a column stands w apart in them
  rows-stripe : (t : List (List ℕ)) → Rows w t → (k p : ℕ) (pre post : List ℕ) → k < w → p ≡ length pre + k
      → stripe w p (length t) (pre ++ (flatten t ++ post)) ≡ map (λ (r : List ℕ). get_or r k 0) t
  unfolding stripe flatten
  rows-stripe [] no_row k p pre post h e = refl
  rows-stripe (r ∷ t) (a-row l f s) k p pre post h e =
      ap₂ (λ (x : ℕ) (xs : List ℕ). x ∷ xs)
      (ap (λ (i : ℕ). get_or (pre ++ ((r ++ flatten t) ++ post)) i 0) e
      ∙ get_or-append-add pre ((r ++ flatten t) ++ post) k 0
      ∙ ap (λ (x : List ℕ). get_or x k 0) (append_assoc r (flatten t) post)
      ∙ get_or-append r (flatten t ++ post) 0 k (omega arith))
      (ap (λ (x : List ℕ). stripe w (p + w) (length t) x)
      (ap (λ (x : List ℕ). pre ++ x) (append_assoc r (flatten t) post) ∙ sym (append_assoc pre r (flatten t ++ post)))
      ∙ rows-stripe t s k (p + w) (pre ++ r) post h (omega (arith, length-append pre r, e, l)))

  rows-stripes : (t : List (List ℕ)) → Rows w t → (p : ℕ) (pre post : List ℕ) → p ≡ length pre
      → stripes w p (length t) (pre ++ (flatten t ++ post)) (up_to w) ≡ transpose w t
  unfolding stripes transpose
  rows-stripes t s p pre post q = map-up_to-cong _ _ w (λ k g. rows-stripe t s k (p + k) pre post g (omega (arith, q)))

-- the columns of rows
column_fits : {w : ℕ} (k : ℕ) (t : List (List ℕ)) → Rows w t → every (λ (x : ℕ). leb x missing) (map (λ (r : List ℕ). get_or r k 0) t) ≡ true
column_fits k [] no_row = refl
column_fits k (r ∷ t) (a-row l f s) =
    every-cons (λ (x : ℕ). leb x missing) (get_or r k 0) (map (λ (q : List ℕ). get_or q k 0) t) (le-leb (get_or r k 0) missing (fit_at r k f)) (column_fits k t s)

module _ (last : ℕ) (t : List (List ℕ)) (s : Rows (suc last) t) where
  columns-count : row_count (transpose (suc last) t) ≡ length t
  unfolding transpose
  columns-count = length-map t (λ (r : List ℕ). get_or r 0 0)

  columns-even : even (transpose (suc last) t) ≡ true
  unfolding even transpose
  columns-even = each (up_to (suc last))
    where
      each : (ks : List ℕ)
          → every (λ (c : List ℕ). eqb (length c) (row_count (transpose (suc last) t)) && every (λ (x : ℕ). leb x missing) c)
          (map (λ (k : ℕ). map (λ (r : List ℕ). get_or r k 0) t) ks) ≡ true
      each [] = refl
      each (k ∷ ks) =
          every-cons (λ (c : List ℕ). eqb (length c) (row_count (transpose (suc last) t)) && every (λ (x : ℕ). leb x missing) c)
          (map (λ (r : List ℕ). get_or r k 0) t) (map (λ (i : ℕ). map (λ (r : List ℕ). get_or r i 0) t) ks)
          (ap₂ ◌&&◌ (eq-eqb _ _ (length-map t (λ (r : List ℕ). get_or r k 0) ∙ sym columns-count)) (column_fits k t s))
          (each ks)

  columns-rows : rows_of (transpose (suc last) t) ≡ t
  columns-rows = ap (λ (n : ℕ). transpose n (transpose (suc last) t)) columns-count ∙ transpose-twice (suc last) t (rows-wide (suc last) t s)

-- columns, and the values of whole rows
module _ (w : ℕ) (h : 0 < w) where
  to-rows : (c : List (List ℕ)) → length c ≡ w → even c ≡ true → Rows (suc (w - 1)) (rows_of c)
  to-rows c l e = rw (l ∙ positive w h) at (even-rows c e)
    where
      positive : (w : ℕ) → 0 < w → w ≡ suc (w - 1)
      positive w h = omega arith

  to_whole : (c : List (List ℕ)) → length c ≡ w → even c ≡ true → Whole (w - 1) (row_values c)
  to_whole c l e = rows_whole (w - 1) (rows_of c) (to-rows c l e)

  to-text : (name : String) (c : List (List ℕ)) → length c ≡ w → even c ≡ true → listed (head (bytes name) (w - 1)) (row_values c) ≡ section name c
  unfolding listed body section
  to-text name c l e = ap (λ (x : List ℕ). bytes name ++ 10 ∷ (x ++ 10 ∷ [])) (rows-cells (w - 1) (rows_of c) (to-rows c l e))

  from-whole : (vs : List ℕ) → Whole (w - 1) vs → (c : List (List ℕ)) × (length c ≡ w) × (even c ≡ true) × (vs ≡ row_values c)
  from-whole vs v =
      let r = whole-rows (w - 1) vs v in (
        transpose (suc (w - 1)) r.0,
        transpose-length (suc (w - 1)) r.0 ∙ omega arith,
        columns-even (w - 1) r.0 r.1,
        r.2 ∙ ap flatten (sym (columns-rows (w - 1) r.0 r.1)),
      )

-- several lists
pub all-wholes : (ns : List String) (ws : List ℕ) (cs : List (List (List ℕ))) → length ns ≡ length ws → Shaped ws cs → every even cs ≡ true
    → Wholes (heads_of ns ws) (map row_values cs) × (texts (heads_of ns ws) (map row_values cs) ≡ sections ns cs)
unfolding texts sections
all-wholes [] [] [] n no-list e = (specs.Wholes.none, refl)
all-wholes [] (w ∷ ws) (c ∷ cs) n (a-list h l s) e = absurd (omega arith)
all-wholes (m ∷ ns) [] [] n no-list e = absurd (omega arith)
all-wholes (m ∷ ns) (w ∷ ws) (c ∷ cs) n (a-list h l s) e =
    let f = every-head even c cs e in
    let i = all-wholes ns ws cs (omega arith) s f.1 in
    (specs.Wholes.more (to_whole w h c l f.0) i.0, ap₂ ◌++◌ (to-text w h m c l f.0) i.1)
all-wholes [] [] (c ∷ cs) n never e = elim never [ ]
all-wholes [] (w ∷ ws) [] n never e = elim never [ ]
all-wholes (m ∷ ns) [] (c ∷ cs) n never e = elim never [ ]
all-wholes (m ∷ ns) (w ∷ ws) [] n never e = elim never [ ]

pub data Positive : List ℕ → Type 0 where
  all : Positive []
  over : {w : ℕ} {ws : List ℕ} → 0 < w → Positive ws → Positive (w ∷ ws)

pub from-wholes : (ns : List String) (ws : List ℕ) (vss : List (List ℕ)) → length ns ≡ length ws → Positive ws → Wholes (heads_of ns ws) vss
    → (cs : List (List (List ℕ))) × Shaped ws cs × (every even cs ≡ true) × (vss ≡ map row_values cs)
from-wholes [] [] vss n p specs.Wholes.none = ([], no-list, refl, refl)
from-wholes [] (w ∷ ws) vss n p v = absurd (omega arith)
from-wholes (m ∷ ns) [] vss n p v = absurd (omega arith)
from-wholes (m ∷ ns) (w ∷ ws) vss n (over h p) (specs.Wholes.more {vs = vs} {vss = us} v r) =
    let c = from-whole w h vs v in
    let i = from-wholes ns ws us (omega arith) p r in (
      c.0 ∷ i.0,
      a-list h c.1 i.1,
      every-cons even c.0 i.0 c.2 i.2,
      ap₂ (λ (x : List ℕ) (xs : List (List ℕ)). x ∷ xs) c.3 i.3,
    )

-- the columns cut from the values are the columns
pub cut-columns : (ws : List ℕ) (cs : List (List (List ℕ))) (p : ℕ) (pre post : List ℕ) → Shaped ws cs → every even cs ≡ true → p ≡ length pre
    → cut ws (stops p (map row_values cs)) p (pre ++ (flatten (map row_values cs) ++ post)) ≡ flatten cs
unfolding cut stops flatten
cut-columns [] [] p pre post no-list e q = refl
cut-columns (w ∷ ws) (c ∷ cs) p pre post (a-list h l s) e q =
    ap₂ ◌++◌ here (ap (cut ws (stops (p + length v) (map row_values cs)) (p + length v)) whole ∙ cut-columns ws cs (p + length v) (pre ++ v) post s f.1 (omega (arith, q, length-append pre v)))
  where
    v : List ℕ
    v = row_values c

    f : (even c ≡ true) × (every even cs ≡ true)
    f = every-head even c cs e

    t : Rows w (rows_of c)
    t = rw l at (even-rows c f.0)

    rest : List ℕ
    rest = flatten (map row_values cs) ++ post

    all : List ℕ
    all = pre ++ ((v ++ flatten (map row_values cs)) ++ post)

    inner : all ≡ pre ++ (v ++ rest)
    inner = ap (λ (x : List ℕ). pre ++ x) (append_assoc v (flatten (map row_values cs)) post)

    whole : all ≡ (pre ++ v) ++ rest
    whole = inner ∙ sym (append_assoc pre v rest)

    count : (p + length v - p) / w ≡ length (rows_of c)
    count = ap (λ (n : ℕ). n / w) {x = p + length v - p} {y = length (rows_of c) * w} (omega (arith, rows-size w (rows_of c) t)) ∙ mul-div_cancel (length (rows_of c)) h

    here : stripes w p ((p + length v - p) / w) all (up_to w) ≡ c
    here =
        ap₂ (λ (n : ℕ) (x : List ℕ). stripes w p n x (up_to w)) count inner
        ∙ rows-stripes w (rows_of c) t p pre rest q
        ∙ ap (λ (n : ℕ). transpose n (rows_of c)) (sym l)
        ∙ even-columns c f.0
cut-columns [] (c ∷ cs) p pre post never e q = elim never [ ]
cut-columns (w ∷ ws) [] p pre post never e q = elim never [ ]

pub stops-climb : (p : ℕ) (vss : List (List ℕ)) (limit : ℕ) → p + length (flatten vss) ≤ limit → Climbs p (stops p vss) limit
unfolding stops flatten
stops-climb p [] limit h = at-end {p = p} {limit = limit} (omega arith)
stops-climb p (vs ∷ vss) limit h = step {p = p} {e = p + length vs} (omega arith) (stops-climb (p + length vs) vss limit (omega (arith, length-append vs (flatten vss))))

pub stops-length : (p : ℕ) (vss : List (List ℕ)) → length (stops p vss) ≡ length vss
unfolding stops
stops-length p [] = refl
stops-length p (vs ∷ vss) = ap suc (stops-length (p + length vs) vss)
