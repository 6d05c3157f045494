-- What is written, one run after another.
-- Assumes nothing.
use Prim.Native.Nat.{ℕ}
use native.Mathlib.Omega.{arith}
use mathlib.Core.Path.{◌≡◌, refl, ap, ap₂, ◌∙◌}
use mathlib.Core.List.{List, [], ◌∷◌, ◌++◌, append_assoc}
use lib.ListN.{length}
use lib.Seq.{sets, length-sets}
use Rattle.form.specs.Form.{spaced, line}
use Rattle.lines.specs.declared.lines.Writer.{Writer}
use Rattle.lines.specs.Lines.{PutAt}
use Rattle.lines.specs.Writing.{Put}
use Rattle.lines.proofs.Puts as puts
use Rattle.lines.proofs.Printing.{spaced-append}

-- a run behind a run
pub put_then : {xs ys : List ℕ} {w w₁ w₂ : Writer} → Put xs w w₁ → Put ys w₁ w₂ → Put (xs ++ ys) w w₂
put_then a b = record { slice = b.slice ∙ a.slice; put = puts.put_then a.put b.put }

pub put_as : {xs ys : List ℕ} {w w' : Writer} → xs ≡ ys → Put xs w w' → Put ys w w'
put_as e a = rw e at a

pub put-none : (w : Writer) → Put [] w w
put-none w = record { slice = refl; put = puts.put-none w.out.now w.at }

-- the slice keeps its length
pub kept : {xs : List ℕ} {w w' : Writer} → Put xs w w' → length w'.out.now ≡ length w.out.now
kept {xs} {w} {w'} a = ap length a.put.put ∙ length-sets w.out.now w.at xs

-- a slice is as the writer of it leaves it
pub ended : {out out' xs : List ℕ} {w w' : Writer} {r : ℕ} → (w.at ≡ 0) × (w.out.now ≡ out) → Put xs w w' → r ≡ w'.at → out' ≡ w'.out.now
    → PutAt out 0 xs out' r
ended {xs = xs} s p e f =
    record {
      next = omega (arith, s.0, p.put.next);
      put = f ∙ p.put.put ∙ ap₂ (λ (d : List ℕ) (at : ℕ). sets d at xs) s.1 s.0;
    }

-- a whole line
pub put_whole : {word : List ℕ} (xs ys : List ℕ) {w w₁ w₂ w₃ w₄ : Writer} → Put word w w₁ → Put (spaced xs) w₁ w₂ → Put (spaced ys) w₂ w₃ → Put (10 ∷ []) w₃ w₄
    → Put (line word (xs ++ ys)) w w₄
unfolding line
put_whole xs ys a b c e = rw (spaced-append, append_assoc) (put_then a (put_then b (put_then c e)))
