-- A line of names at a position of a text. Assumes nothing.
use Prim.Native.Nat.{ℕ, ◌+◌, ◌-◌, ◌≤◌, ◌<◌}
use native.Mathlib.Omega.{arith}
use mathlib.Core.Path.{◌≡◌, refl, sym, ap, ◌∙◌}
use mathlib.Core.List.{List, ◌∷◌, ◌++◌, append_cancel_left}
use mathlib.Core.Bool.{false}
use lib.ListN.{length, take, drop, get_or, length-append, length-drop}
use lib.Dec.{eqb}
use lib.Seq.{drop-cons, drop_at}
use Rattle.std.proofs.lemmas.List.{drop-drop}
use lib.Pointwise.{pointwise}
use Rattle.std.specs.Prelude.{Some, None}
use Rattle.std.proofs.lemmas.List.{take_rest}
use Rattle.std.proofs.lemmas.Bool.Decides.{Decides-eqb}
use Rattle.std.proofs.lemmas.Slice.Eq.{strip_prefix_is}
use Rattle.text_rows.specs.inner.Steps.{LineIs}

module _ (s : List ℕ) (at : ℕ) (name : List ℕ) where
  -- the line lies ahead
  pub line_on : (next : ℕ) → LineIs s at name (Some next) → at ≤ next
  line_on next l =
      let e : length s - at ≡ length name + length (10 ∷ drop next s) = sym (length-drop at s) ∙ ap length l.0 ∙ length-append name (10 ∷ drop next s) in
      omega (arith, l.1, length-drop next s)

  -- no such line, where the name does not stand there
  pub line-differs : pointwise eqb (take (length name) (take (length s - at) (drop at s))) name ≡ false → LineIs s at name None
  line-differs h rest =
      strip_prefix_is Decides-eqb (drop at s) name None (rw take_rest at h) (10 ∷ rest)

  -- behind the name stands x
  module _ (x : List ℕ) (m : drop at s ≡ name ++ x) where
    pub line-short : length x ≤ 0 → LineIs s at name None
    line-short h rest q =
        let e : x ≡ 10 ∷ rest = append_cancel_left name x (10 ∷ rest) (sym m ∙ q) in omega (arith, ap length e)

    pub line-unended : (get_or x 0 0 ≡ 10 → ⊥) → LineIs s at name None
    line-unended n rest q =
        let e : x ≡ 10 ∷ rest = append_cancel_left name x (10 ∷ rest) (sym m ∙ q) in n (ap (λ (y : List ℕ). get_or y 0 0) e)

    pub line-met : 0 < length x → get_or x 0 0 ≡ 10 → LineIs s at name (Some (at + length name + 1))
    line-met h b =
        let y : x ≡ 10 ∷ drop 1 x = drop-cons x 0 0 h ∙ ap (λ (n : ℕ). n ∷ drop 1 x) b in
        let z : drop (length name) (drop at s) ≡ x = ap (drop (length name)) m ∙ drop_at name x (length name) refl in
        let w : drop 1 x ≡ drop (at + length name + 1) s =
        ap (drop 1) (sym z ∙ drop-drop (length name) at s) ∙ drop-drop 1 (at + length name) s in
        (m ∙ ap (λ (l : List ℕ). name ++ l) (y ∙ ap (λ (l : List ℕ). 10 ∷ l) w), omega (arith, h, ap length m, length-drop at s, length-append name x))
