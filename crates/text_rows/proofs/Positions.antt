-- What `further` and `front` do at a position of a text. Assumes nothing.
use Prim.Native.Nat.{ℕ, ◌+◌, ◌-◌, ◌*◌, ◌≤◌, ◌<◌}
use native.Mathlib.Omega.{arith}
use native.Mathlib.Numerals.{add-one}
use mathlib.Core.Path.{◌≡◌, refl, sym, ap, ap₂, ◌∙◌}
use mathlib.Core.List.{List, ◌∷◌}
use mathlib.Core.Logic.{◌⊎◌, ⊎_elim}
use lib.ListN.{length, take, drop, get_or, drop_of_length-le, length-drop}
use lib.Seq.{drop-length}
use lib.Seq.{drop-cons, get_or-drop}
use Rattle.std.proofs.lemmas.List.{take_rest}
use borrow.Author.Tests.{lt-ltb, le-ltb, le-leb, lt-leb, eq-eqb, ne_eqb}
use Rattle.tables.specs.Project.{missing}
use Rattle.form.specs.Parse.{ok, bad, further, front}

further-in : (v d : ℕ) (r : List ℕ) → 48 ≤ d → d ≤ 57 → v * 10 + (d - 48) < missing → further v (d ∷ r) ≡ further (v * 10 + (d - 48)) r
unfolding further
further-in v d r l g b = simp (le-ltb d 48 l, le-ltb 57 d g, lt-leb missing (v * 10 + (d - 48)) b)

module _ (s : List ℕ) (i d : ℕ) (h : i < length s) (e : d ≡ get_or s i 0) where
  pub here : drop i s ≡ d ∷ drop (i + 1) s
  here = drop-cons s i 0 h ∙ ap₂ (λ (x : ℕ) (n : ℕ). x ∷ drop n s) (sym e) (sym (add-one i))

  at_low : (v : ℕ) → d < 48 → further v (drop i s) ≡ ok v (drop i s)
  unfolding further
  at_low v l = rw here (simp (lt-ltb d 48 l))

  at_high : (v : ℕ) → 48 ≤ d → 57 < d → further v (drop i s) ≡ ok v (drop i s)
  unfolding further
  at_high v l g = rw here (simp (le-ltb d 48 l, lt-ltb 57 d g))

  at-none : (v : ℕ) → d < 48 ⊎ (48 ≤ d × 57 < d) → further v (drop i s) ≡ ok v (drop i s)
  at-none v = ⊎_elim (at_low v) (λ g. at_high v g.0 g.1)

  at-big : (v : ℕ) → 48 ≤ d → d ≤ 57 → missing ≤ v * 10 + (d - 48) → further v (drop i s) ≡ bad
  unfolding further
  at-big v l g b = rw here (simp (le-ltb d 48 l, le-ltb 57 d g, le-leb missing (v * 10 + (d - 48)) b))

  at_more : (v : ℕ) → 48 ≤ d → d ≤ 57 → v * 10 + (d - 48) < missing → further v (drop i s) ≡ further (v * 10 + (d - 48)) (drop (i + 1) s)
  at_more v l g b = ap (further v) here ∙ further-in v d (drop (i + 1) s) l g b

  pub front-dash : d ≡ 45 → front (drop i s) ≡ ok missing (drop (i + 1) s)
  unfolding front
  front-dash q = rw here (simp (eq-eqb d 45 q))

  pub front-nought : (d ≡ 45 → ⊥) → d ≡ 48 → front (drop i s) ≡ ok 0 (drop (i + 1) s)
  unfolding front
  front-nought n q = rw here (simp (ne_eqb d 45 n, eq-eqb d 48 q))

  pub front_low : (d ≡ 45 → ⊥) → (d ≡ 48 → ⊥) → d < 49 → front (drop i s) ≡ bad
  unfolding front
  front_low n m l = rw here (simp (ne_eqb d 45 n, ne_eqb d 48 m, lt-ltb d 49 l))

  pub front-high : 57 < d → front (drop i s) ≡ bad
  unfolding front
  front-high g = rw here (simp (ne_eqb d 45 (omega arith), ne_eqb d 48 (omega arith), le-ltb d 49 (omega arith), lt-ltb 57 d g))

  pub front-digits : 49 ≤ d → d ≤ 57 → front (drop i s) ≡ further (d - 48) (drop (i + 1) s)
  unfolding front
  front-digits l g = rw here (simp (ne_eqb d 45 (omega arith), ne_eqb d 48 (omega arith), le-ltb d 49 l, le-ltb 57 d g))

pub front-end : (s : List ℕ) (i : ℕ) → length s ≤ i → front (drop i s) ≡ bad
unfolding front
front-end s i h = rw (drop_of_length-le s h) refl

-- the same at the k-th byte of the part from `from` on
module _ (s : List ℕ) (from k v : ℕ) where
  abbrev pub part : List ℕ
  part = take (length s - from) (drop from s)

  pub part-over : length part ≤ k → further v (drop (from + k) s) ≡ ok v (drop (length s) s)
  unfolding further
  part-over h =
      let l : length s ≤ from + k = omega (arith, h, ap length (take_rest s from), length-drop from s) in
      rw (drop_of_length-le s l, drop-length s) refl

  module _ (h : k < length part) where
    pub inside : from + k < length s
    inside = omega (arith, h, ap length (take_rest s from), length-drop from s)

    byte : get_or part k 0 ≡ get_or s (from + k) 0
    byte = ap (λ (x : List ℕ). get_or x k 0) (take_rest s from) ∙ get_or-drop from s k 0

    pub part-none : get_or part k 0 < 48 ⊎ (48 ≤ get_or part k 0 × 57 < get_or part k 0) → further v (drop (from + k) s) ≡ ok v (drop (from + k) s)
    part-none = at-none s (from + k) (get_or part k 0) inside byte v

    pub part-big : 48 ≤ get_or part k 0 → get_or part k 0 ≤ 57 → missing ≤ v * 10 + (get_or part k 0 - 48) → further v (drop (from + k) s) ≡ bad
    part-big = at-big s (from + k) (get_or part k 0) inside byte v

    pub part-more : 48 ≤ get_or part k 0 → get_or part k 0 ≤ 57 → v * 10 + (get_or part k 0 - 48) < missing
        → further v (drop (from + k) s) ≡ further (v * 10 + (get_or part k 0 - 48)) (drop (from + (k + 1)) s)
    part-more l g b =
        at_more s (from + k) (get_or part k 0) inside byte v l g b
        ∙ ap (λ (n : ℕ). further (v * 10 + (get_or part k 0 - 48)) (drop n s)) {x = from + k + 1} {y = from + (k + 1)} (omega arith)
