-- The columns of list after list.
-- Assumes nothing.
use Rattle.std.specs.Prelude.{◌≡◌, ℕ, suc, ◌+◌, ◌-◌, ◌*◌, ◌/◌, ◌<◌, ◌≤◌, List, [], ◌∷◌, ◌++◌, length, get_or, drop}
use native.Mathlib.Omega.{arith}
use native.Mathlib.Nat.{mul-suc, mul-zero, add-zero, div-mul-le_self}
use native.Mathlib.Numerals.{add-one}
use mathlib.Core.Path.{refl, sym, ap, ap₂, ◌∙◌}
use mathlib.Core.List.{append_assoc, flatten}
use lib.ListN.{length-append, length-map}
use lib.Seq.{sets, drop-cons}
use Rattle.lists.specs.Words.{up_to}
use Rattle.lists.proofs.Laws.{length-count_from}
use Rattle.form.proofs.Runs.{sets-append, sets-size}
use Rattle.text_rows.specs.inner.Cells.{widths}
use Rattle.text_rows.proofs.Names.{narrow}
use Rattle.listing.specs.inner.Columns.{stripe, stripes, cut, Climbs, at-end, step}
use Rattle.listing.specs.Reading.{tails}
use Rattle.listing.proofs.Stripes.{stripe-length}

pub flatten-append : {A : Type 0} (xs ys : List (List A)) → flatten (xs ++ ys) ≡ flatten xs ++ flatten ys
unfolding flatten
flatten-append [] ys = refl
flatten-append (x ∷ xs) ys = ap (λ r. x ++ r) (flatten-append xs ys) ∙ sym (append_assoc x (flatten xs) (flatten ys))

pub tails-length : (at : ℕ) (cs : List (List ℕ)) → length (tails at cs) ≡ length cs
unfolding tails
tails-length at [] = refl
tails-length at (c ∷ cs) = ap suc (tails-length (at + length c) cs)

tails-append : (at : ℕ) (cs ds : List (List ℕ)) → tails at (cs ++ ds) ≡ tails at cs ++ tails (at + length (flatten cs)) ds
unfolding tails flatten
tails-append at [] ds = ap (λ (k : ℕ). tails k ds) (sym (add-zero at))
tails-append at (c ∷ cs) ds =
    ap (λ (r : List ℕ). (at + length c) ∷ r)
    (tails-append (at + length c) cs ds
    ∙ ap (λ (k : ℕ). tails (at + length c) cs ++ tails k ds) {x = at + length c + length (flatten cs)} {y = at + length (c ++ flatten cs)}
    (omega (arith, length-append c (flatten cs))))

stripes-size : (w p n : ℕ) (vs ks : List ℕ) → length (flatten (stripes w p n vs ks)) ≡ n * length ks
unfolding stripes flatten
stripes-size w p n vs [] = sym (mul-zero n)
stripes-size w p n vs (k ∷ ks) =
    length-append (stripe w (p + k) n vs) (flatten (stripes w p n vs ks))
    ∙ ap₂ ◌+◌ (stripe-length w (p + k) n vs) (stripes-size w p n vs ks)
    ∙ omega (arith, mul-suc n (length ks))

-- how many columns there are
unfoldable pub total : List ℕ → ℕ
total [] = 0
total (w ∷ ws) = w + total ws

climbs-limit : {p limit : ℕ} {es : List ℕ} → Climbs p es limit → p ≤ limit
climbs-limit (at-end h) = h
climbs-limit (step h c) = omega (arith, climbs-limit c)

climbs-head : {p e limit : ℕ} {es : List ℕ} → Climbs p (e ∷ es) limit → (p ≤ e) × Climbs e es limit
climbs-head (step h c) = (h, c)

-- the columns of all lists but the first
abbrev all : List ℕ → List ℕ → List (List ℕ)
all rows ends = cut (drop 1 widths) (drop 1 ends) 2 rows

-- l lists have been passed, behind the first bound: what is left to do gives the whole
pub record Cutting (rows ends values₀ bounds₀ values bounds : List ℕ) (l first to j : ℕ) : Type 0 where
  pub below : l ≤ 15
  pub climbs : Climbs first (drop l ends) 32768
  pub back : to ≤ first
  pub wide : j + total (drop l widths) ≡ 34
  pub put : sets values to (flatten (cut (drop l widths) (drop l ends) first rows)) ≡ sets values₀ 0 (flatten (all rows ends))
  pub noted : sets bounds (j + 1) (tails to (cut (drop l widths) (drop l ends) first rows)) ≡ sets bounds₀ 1 (tails 0 (all rows ends))

module _ (rows ends values₀ bounds₀ : List ℕ) where
  pub cutting : Climbs 2 (drop 1 ends) 32768 → Cutting rows ends values₀ bounds₀ values₀ bounds₀ 1 2 0 0
  unfolding total
  cutting h = record { below = omega arith; climbs = h; back = omega arith; wide = refl; put = refl; noted = refl }

module _ {rows ends values₀ bounds₀ values bounds : List ℕ} {l first to j : ℕ} (g : Cutting rows ends values₀ bounds₀ values bounds l first to j) where
  pub cut-sizes : (length values ≡ length values₀) × (length bounds ≡ length bounds₀)
  cut-sizes =
      let left : List (List ℕ) = cut (drop l widths) (drop l ends) first rows in (
        sets-size values values₀ to 0 (flatten left) (flatten (all rows ends)) g.put,
        sets-size bounds bounds₀ (j + 1) 1 (tails to left) (tails 0 (all rows ends)) g.noted,
      )

  pub cut-end : 15 ≤ l → (values ≡ sets values₀ 0 (flatten (all rows ends))) × (bounds ≡ sets bounds₀ 1 (tails 0 (all rows ends)))
  unfolding cut flatten tails
  cut-end h =
      let e : l ≡ 15 = omega (arith, g.below) in (
        ap (λ (i : ℕ). sets values to (flatten (cut (drop i widths) (drop l ends) first rows))) (sym e) ∙ g.put,
        ap (λ (i : ℕ). sets bounds (j + 1) (tails to (cut (drop i widths) (drop l ends) first rows))) (sym e) ∙ g.noted,
      )

  module _ (t : l < 15) (size : length ends ≡ 15) {w : ℕ} (ew : w ≡ get_or widths l 0) {e : ℕ} (ee : e ≡ get_or ends l 0) where
    climb : Climbs first (e ∷ drop (l + 1) ends) 32768
    climb =
        let q : drop l ends ≡ e ∷ drop (l + 1) ends =
        drop-cons ends l 0 (omega arith) ∙ ap₂ (λ (x i : ℕ). x ∷ drop i ends) (sym ee) (sym (add-one l)) in
        rw q at g.climbs

    pub cut_up : first ≤ e
    cut_up = (climbs-head climb).0

    pub cut-wide : (0 < w) × (w < 9) × (j + w < 35)
    unfolding total
    cut-wide =
        let n = narrow l t in
        let q : total (drop l widths) ≡ get_or widths l 0 + total (drop (suc l) widths) = ap total (drop-cons widths l 0 t) in
        (omega (arith, n.0, ew), omega (arith, n.1, ew), omega (arith, q, g.wide, ew))

    pub cut-room : (first + (e - first) / w * w ≤ 32768) × (to + (e - first) / w * w ≤ 32768)
    cut-room =
        let m : (e - first) / w * w ≤ e - first = div-mul-le_self (e - first) w in
        let k : e ≤ 32768 = climbs-limit (climbs-head climb).1 in
        (omega (arith, cut_up), omega (arith, cut_up, g.back))

    pub cut-more : (values' bounds' : List ℕ) (to' : ℕ) → to' ≡ to + (e - first) / w * w
        → values' ≡ sets values to (flatten (stripes w first ((e - first) / w) rows (up_to w)))
        → bounds' ≡ sets bounds (j + 1) (tails to (stripes w first ((e - first) / w) rows (up_to w)))
        → Cutting rows ends values₀ bounds₀ values' bounds' (l + 1) e to' (j + w)
    unfolding cut total stripes
    cut-more values' bounds' to' et ev eb =
        record {
          below = omega arith;
          climbs = (climbs-head climb).1;
          back = omega (arith, et, div-mul-le_self (e - first) w, cut_up, g.back);
          wide = omega (arith, ap total (drop-cons widths l 0 t), ap (λ (i : ℕ). total (drop i widths)) (add-one l), g.wide, ew);
          put =
              ap₂ (λ (x : List ℕ) (i : ℕ). sets x i (flatten rest)) ev place
              ∙ sets-append values to (flatten now) (flatten rest)
              ∙ ap (sets values to) (sym (flatten-append now rest))
              ∙ ap (λ (cs : List (List ℕ)). sets values to (flatten cs)) (sym whole)
              ∙ g.put;
          noted =
              ap₂ (λ (x : List ℕ) (i : ℕ). sets x (j + w + 1) (tails i rest)) eb place
              ∙ ap (λ (i : ℕ). sets (sets bounds (j + 1) (tails to now)) i (tails (to + length (flatten now)) rest)) {x = j + w + 1} {y = j + 1 + length (tails to now)}
              (omega (arith, tails-length to now, count))
              ∙ sets-append bounds (j + 1) (tails to now) (tails (to + length (flatten now)) rest)
              ∙ ap (sets bounds (j + 1)) (sym (tails-append to now rest))
              ∙ ap (λ (cs : List (List ℕ)). sets bounds (j + 1) (tails to cs)) (sym whole)
              ∙ g.noted;
        }
      where
        now : List (List ℕ)
        now = stripes w first ((e - first) / w) rows (up_to w)

        rest : List (List ℕ)
        rest = cut (drop (l + 1) widths) (drop (l + 1) ends) e rows

        count : length now ≡ w
        count = length-map (up_to w) (λ (k : ℕ). stripe w (first + k) ((e - first) / w) rows) ∙ length-count_from 0 w

        place : to' ≡ to + length (flatten now)
        place = et ∙ ap (λ (i : ℕ). to + i) (ap (λ (i : ℕ). (e - first) / w * i) (sym (length-count_from 0 w)) ∙ sym (stripes-size w first ((e - first) / w) rows (up_to w)))

        whole : cut (drop l widths) (drop l ends) first rows ≡ now ++ rest
        whole =
            ap₂ (λ (ws es : List ℕ). cut ws es first rows)
            (drop-cons widths l 0 t ∙ ap₂ (λ (x i : ℕ). x ∷ drop i widths) (sym ew) (sym (add-one l)))
            (drop-cons ends l 0 (omega arith) ∙ ap₂ (λ (x i : ℕ). x ∷ drop i ends) (sym ee) (sym (add-one l)))
