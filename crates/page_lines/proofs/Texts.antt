-- The parts of a line: how long they are, and what they are made of.
-- Assumes nothing.
use Rattle.std.specs.Prelude.{◌≡◌, ℕ, zero, suc, ◌+◌, ◌-◌, ◌/◌, ◌<◌, ◌≤◌, Bool, true, false, cond, List, ◌∷◌, ◌++◌, length, take, replicate, ℤ, pos, negsuc, ◌-ℤ◌, nat_abs}
use mathlib.Core.Path.{refl, ap}
use mathlib.Core.Bool.{true≢false}
use mathlib.Core.Logic.{⊎_elim}
use native.Mathlib.Omega.{arith}
use lib.ListN.{length-append, length-replicate}
use lib.Signed.{mag, lt_z}
use borrow.Author.Tests.{ltb-true}
use Rattle.form.specs.Form.{bytes, number}
use Rattle.form.proofs.Fields.{split}
use Rattle.lines.proofs.Printing.{long-length, short-length}
use Rattle.page_lines.specs.Line.{right, signed, place_by, shift_by, line_by}
use Rattle.page_lines.proofs.Places.{mag-sub}

-- spaces, cut from more of them
pub take-spaces : (k n : ℕ) → k ≤ n → take {A = ℕ} k (replicate n 32) ≡ replicate k 32
take-spaces zero n h = refl
take-spaces (suc k) zero h = absurd (omega arith)
take-spaces (suc k) (suc n) h = ap (λ (l : List ℕ). 32 ∷ l) (take-spaces k n (omega arith))

-- a number below 10,000 has 4 digits at most
two_digits : (n : ℕ) → n < 100 → length (number n) ≤ 2
two_digits n h = ⊎_elim (λ l. omega (arith, short-length n l)) (λ l. omega (arith, long-length n l, short-length (n / 10) (omega arith))) (split n 10)

three-digits : (n : ℕ) → n < 1000 → length (number n) ≤ 3
three-digits n h = ⊎_elim (λ l. omega (arith, short-length n l)) (λ l. omega (arith, long-length n l, two_digits (n / 10) (omega arith))) (split n 10)

pub four-digits : (n : ℕ) → n < 10000 → length (number n) ≤ 4
four-digits n h = ⊎_elim (λ l. omega (arith, short-length n l)) (λ l. omega (arith, long-length n l, three-digits (n / 10) (omega arith))) (split n 10)

-- what is right-aligned in 8 has 8 places where it has no more
pub right-length : (text : List ℕ) → length text ≤ 8 → length (right text) ≡ 8
unfolding right
right-length text h = omega (arith, length-append (replicate (8 - length text) 32) text, length-replicate {A = ℕ} (8 - length text) 32)

pub right_is : (text : List ℕ) (k : ℕ) → k ≡ 8 - length text → replicate k 32 ++ text ≡ right text
unfolding right
right_is text k e = ap (λ (i : ℕ). replicate i 32 ++ text) e

-- a difference by its sign

pub signed_below : (z : ℤ) → lt_z z (pos 0) ≡ true → signed z ≡ bytes "-" ++ number (nat_abs z)
unfolding signed
signed_below (pos n) h = let k : n < 0 = ltb-true n 0 h in absurd (omega arith)
signed_below (negsuc n) h = refl

pub signed-else : (z : ℤ) → lt_z z (pos 0) ≡ false → signed z ≡ number (nat_abs z)
unfolding signed
signed-else (pos n) h = refl
signed-else (negsuc n) h = absurd (true≢false h)

-- a shift by the places that are there

pub shift-unexpected : (expected actual : ℕ) → expected ≡ 0 → shift_by expected actual ≡ bytes "-"
unfolding shift_by
shift-unexpected zero actual e = refl
shift-unexpected (suc expected) actual e = absurd (omega arith)

pub shift-absent : (expected actual : ℕ) → actual ≡ 0 → shift_by expected actual ≡ bytes "-"
unfolding shift_by
shift-absent zero actual e = refl
shift-absent (suc expected) zero e = refl
shift-absent (suc expected) (suc actual) e = absurd (omega arith)

pub shift-both : (expected actual i j : ℕ) → expected ≡ i + 1 → actual ≡ j + 1 → shift_by expected actual ≡ signed (pos j -ℤ pos i)
unfolding shift_by
shift-both zero actual i j e f = absurd (omega arith)
shift-both (suc expected) zero i j e f = absurd (omega arith)
shift-both (suc expected) (suc actual) i j e f =
    let a : actual ≡ j = omega arith in
    let b : expected ≡ i = omega arith in
    rw (a, b)

-- a place and a shift have 5 characters at most

-- each column has 8 places

pub number-eight : (m : ℕ) → m < 4096 → length (right (number m)) ≡ 8
number-eight m h = right-length (number m) (omega (arith, four-digits m (omega arith)))

pub place_none : place_by 0 ≡ bytes "-"
unfolding place_by
place_none = refl

pub place-some : (place k : ℕ) → place ≡ k + 1 → place_by place ≡ number k
unfolding place_by
place-some zero k e = absurd (omega arith)
place-some (suc place) k e = ap number (omega arith)

place-few : (place : ℕ) → place ≤ 4096 → length (place_by place) ≤ 8
unfolding place_by
place-few zero h = omega arith
place-few (suc place) h = omega (arith, four-digits place (omega arith))

pub signed-few : (z : ℤ) → mag z < 4096 → length (signed z) ≤ 8
unfolding signed
signed-few (pos n) h = omega (arith, four-digits n (omega arith))
signed-few (negsuc n) h = omega (arith, length-append (bytes "-") (number (suc n)), four-digits (suc n) (omega arith))

shift-few : (expected actual : ℕ) → expected ≤ 4096 → actual ≤ 4096 → length (shift_by expected actual) ≤ 8
unfolding shift_by
shift-few zero actual h k = omega arith
shift-few (suc expected) zero h k = omega arith
shift-few (suc expected) (suc actual) h k = signed-few (pos actual -ℤ pos expected) (mag-sub actual expected (omega arith) (omega arith))

pub place-eight : (place : ℕ) → place ≤ 4096 → length (right (place_by place)) ≡ 8
place-eight place h = right-length (place_by place) (place-few place h)

pub shift-eight : (expected actual : ℕ) → expected ≤ 4096 → actual ≤ 4096 → length (right (shift_by expected actual)) ≡ 8
shift-eight expected actual h k = right-length (shift_by expected actual) (shift-few expected actual h k)

pub plan-length : (planned : Bool) → length (cond planned (bytes "yes") (bytes " no")) ≡ 3
plan-length true = refl
plan-length false = refl

-- every line has 41 bytes
pub line-length : (m expected actual : ℕ) (planned : Bool) → m < 4096 → expected ≤ 4096 → actual ≤ 4096 → length (line_by m expected actual planned) ≡ 41
unfolding line_by
line-length m expected actual planned hm he ha =
    simp (length-append)
    (omega (
      arith,
      number-eight m hm,
      place-eight expected he,
      place-eight actual ha,
      shift-eight expected actual he ha,
      plan-length planned,
      length-replicate {A = ℕ} 5 32,
    ))
