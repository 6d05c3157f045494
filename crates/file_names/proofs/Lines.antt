-- The lines of an input, and the last of them as it grows.
-- Assumes nothing.
use mathlib.Core.Path.{◌≡◌, refl, sym, ap, ◌∙◌}
use mathlib.Core.Bool.{Bool, true, false, cond, ◌||◌}
use mathlib.Core.List.{List, [], ◌∷◌, ◌++◌}
use Prim.Native.Nat.{ℕ, zero, suc}
use lib.Dec.{eqb, eqb-zero-suc, eqb-suc-zero}
use borrow.Author.Tests.{ne_eqb}
use Rattle.lists.specs.Words.{elem}
use Rattle.lists.proofs.Laws.{any_append}
use Rattle.file_names.specs.Asked.{opened, lines_of}

-- a line: bytes without an LF
pub data Plain : List ℕ → Type 0 where
  none : Plain []
  more : {b : ℕ} {l : List ℕ} → (b ≡ 10 → ⊥) → Plain l → Plain (b ∷ l)

pub plain-last : {l : List ℕ} {b : ℕ} → Plain l → (b ≡ 10 → ⊥) → Plain (l ++ (b ∷ []))
plain-last none n = more n none
plain-last (more m p) n = more m (plain-last p n)

-- an LF ends it
pub line-ends : {l : List ℕ} (s : List ℕ) → Plain l → lines_of (l ++ 10 ∷ s) ≡ l ∷ lines_of s
unfolding lines_of
line-ends s none = refl
line-ends s (more {b} {l} n p) = rw (ne_eqb b 10 n) (ap (opened b) (line-ends s p))

-- and so does the end of the input
pub line-last : {b : ℕ} {l : List ℕ} → Plain (b ∷ l) → lines_of (b ∷ l) ≡ (b ∷ l) ∷ []
unfolding lines_of
line-last (more {b} n none) = rw (ne_eqb b 10 n) refl
line-last (more {b} n (more m p)) = rw (ne_eqb b 10 n) (ap (opened b) (line-last (more m p)))

-- whether a line holds a byte 0
pub zero-last : (l : List ℕ) (b : ℕ) → elem 0 (l ++ (b ∷ [])) ≡ (elem 0 l || eqb b 0)
zero-last l b = any_append (eqb 0) l (b ∷ []) ∙ ap (λ (x : Bool). elem 0 l || x) (one b)
  where
    one : (b : ℕ) → cond (eqb 0 b) true false ≡ eqb b 0
    one zero = refl
    one (suc n) = ap (λ (x : Bool). cond x true false) (eqb-zero-suc n) ∙ sym (eqb-suc-zero n)
