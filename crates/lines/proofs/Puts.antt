-- What is put, one run after another.
-- Assumes nothing.
use Prim.Native.Nat.{ℕ, ◌+◌, ◌<◌, ◌≤◌, ◌/◌, ◌%◌}
use native.Mathlib.Omega.{arith}
use mathlib.Core.Path.{◌≡◌, refl, sym, ap, ap₂, ◌∙◌}
use mathlib.Core.List.{List, [], ◌∷◌, ◌++◌}
use lib.ListN.{length, length-append, set}
use lib.Seq.{sets}
use Rattle.form.specs.Form.{number}
use Rattle.form.proofs.Fields.{number_short, number-long}
use Rattle.form.proofs.Runs.{sets-append}
use Rattle.lines.specs.Lines.{PutAt}

-- a run behind a run
pub put_then : {d : List ℕ} {at : ℕ} {xs d₁ : List ℕ} {p : ℕ} {ys d₂ : List ℕ} {q : ℕ} → PutAt d at xs d₁ p → PutAt d₁ p ys d₂ q → PutAt d at (xs ++ ys) d₂ q
put_then {d} {at} {xs} {d₁} {p} {ys} {d₂} {q} a b =
    record {
      next = omega (arith, a.next, b.next, length-append xs ys);
      put = b.put ∙ ap₂ (λ (x : List ℕ) (k : ℕ). sets x k ys) a.put a.next ∙ sets-append d at xs ys;
    }

pub put_as : {d : List ℕ} {at : ℕ} {xs ys d' : List ℕ} {p : ℕ} → xs ≡ ys → PutAt d at xs d' p → PutAt d at ys d' p
put_as e a = rw e at a

pub put-none : (d : List ℕ) (at : ℕ) → PutAt d at [] d at
put-none d at = record { next = omega arith; put = refl }

-- one digit, stored
pub put-short : (d : List ℕ) (at n b : ℕ) → n < 10 → b ≡ 48 + n → PutAt d at (number n) (set d at b) (at + 1)
put-short d at n b h e =
    record {
      next = omega (arith, ap length (number_short n h));
      put = ap (set d at) e ∙ ap (sets d at) (sym (number_short n h));
    }

-- the last digit, stored behind the others
pub put-long : (d : List ℕ) (at n : ℕ) (d' : List ℕ) (p b : ℕ) → 10 ≤ n → PutAt d at (number (n / 10)) d' p → b ≡ 48 + n % 10
    → PutAt d at (number n) (set d' p b) (p + 1)
put-long d at n d' p b h q e =
    record {
      next = omega (arith, ap length (number-long n h), length-append (number (n / 10)) ((48 + n % 10) ∷ []), q.next);
      put =
          ap (set d' p) e
          ∙ ap (λ (x : List ℕ). set x p (48 + n % 10)) q.put
          ∙ ap (λ (k : ℕ). set (sets d at (number (n / 10))) k (48 + n % 10)) q.next
          ∙ sets-append d at (number (n / 10)) ((48 + n % 10) ∷ [])
          ∙ ap (sets d at) (sym (number-long n h));
    }
