-- Numbers, fields and lines as they are measured and stored.
-- Assumes nothing.
use Prim.Native.Nat.{ℕ, zero, suc, ◌+◌, ◌*◌, ◌/◌, ◌%◌, ◌^◌, ◌≤◌, ◌<◌}
use native.Mathlib.Omega.{arith}
use native.Mathlib.Nat.{pow-zero, pow-suc, one-le-pow}
use native.Mathlib.Numerals.{add-one}
use mathlib.Core.Path.{◌≡◌, refl, sym, ap, ◌∙◌}
use mathlib.Core.Logic.{⊎_elim}
use mathlib.Core.List.{List, [], ◌∷◌, ◌++◌, append_assoc, append-nil}
use lib.ListN.{length, take, drop, get_or, length-append, take-append-drop}
use lib.Seq.{take-suc, take-length}
use borrow.Author.Tests.{lt-ltb, le-ltb, le-leb, lt-leb, eq-eqb, ne_eqb}
use Rattle.lists.proofs.Fronts.{sets-front}
use Rattle.tables.specs.Project.{missing}
use Rattle.form.specs.Form.{spell, number, field, spaced, line}
use Rattle.form.proofs.Fields.{split, number_short, number-long}
use Rattle.std.specs.Prelude.{Some, Ok, Err}
use Rattle.tables.specs.Answers.{answer, after}
use Rattle.tables.specs.declared.Refusal.TheVariants.{ShortSlice}
use Rattle.lines.specs.Lines.{line_of, line_refusal, PutAt}
use Rattle.lines.proofs.Answered.{refused-by, accepted-by}

pub long-length : (n : ℕ) → 10 ≤ n → length (number n) ≡ length (number (n / 10)) + 1
long-length n h = ap length (number-long n h) ∙ length-append (number (n / 10)) ((48 + n % 10) ∷ [])

pub short-length : (n : ℕ) → n < 10 → length (number n) ≡ 1
short-length n h = ap length (number_short n h)

-- a number has no more digits than its value and one
spell-length : (k n : ℕ) → length (spell k n) ≤ suc k
unfolding spell
spell-length zero n = omega arith
spell-length (suc k) n =
    ⊎_elim
    (λ h. simp (lt-ltb n 10 h) (omega arith))
    (λ h. simp (le-ltb n 10 h) (omega (arith, spell-length k (n / 10), length-append (spell k (n / 10)) ((48 + n % 10) ∷ []))))
    (split n 10)

pub number-length : (n : ℕ) → length (number n) ≤ suc n
unfolding number
number-length n = spell-length n n

-- a number from 10 ^ k on and below 10 ^ (k + 1) has k + 1 digits
pub power-length : (k n : ℕ) → 10 ^ k ≤ n → n < 10 * 10 ^ k → length (number n) ≡ k + 1
power-length zero n h l = short-length n (omega (arith, pow-zero 10))
power-length (suc k) n h l =
    let p : 10 ^ suc k ≡ 10 ^ k * 10 = pow-suc 10 k in
    long-length n (omega (arith, p, one-le-pow k 10 (omega arith)))
    ∙ ap (λ (i : ℕ). i + 1) (power-length k (n / 10) (omega (arith, p)) (omega (arith, p)))
    ∙ ap (λ (i : ℕ). i + 1) (add-one k)

pub field-mark : (v : ℕ) → v ≡ missing → field v ≡ 45 ∷ []
unfolding field
field-mark v e = simp (eq-eqb v missing e)

pub field-other : (v : ℕ) → (v ≡ missing → ⊥) → field v ≡ number v
unfolding field
field-other v n = simp (ne_eqb v missing n)

-- how many digits a number has
pub ruleset sizes = (short-length, power-length)

-- a field is the mark or a number
pub ruleset field_cases = (field-mark, field-other)

-- numbers in a line
pub spaced-append : (xs ys : List ℕ) → spaced (xs ++ ys) ≡ spaced xs ++ spaced ys
unfolding spaced
spaced-append [] ys = refl
spaced-append (x ∷ xs) ys =
    ap (λ (r : List ℕ). 32 ∷ field x ++ r) (spaced-append xs ys) ∙ sym (append_assoc (32 ∷ field x) (spaced xs) (spaced ys))

spaced-one : (v : ℕ) → spaced (v ∷ []) ≡ 32 ∷ field v
unfolding spaced
spaced-one v = append-nil (32 ∷ field v)

module _ (vals : List ℕ) (j : ℕ) (h : j < length vals) where
  pub spaced-more : (spaced (take j vals) ++ (32 ∷ [])) ++ field (get_or vals j 0) ≡ spaced (take (j + 1) vals)
  spaced-more =
      append_assoc (spaced (take j vals)) (32 ∷ []) (field (get_or vals j 0))
      ∙ ap (λ (r : List ℕ). spaced (take j vals) ++ r) (sym (spaced-one (get_or vals j 0)))
      ∙ sym (spaced-append (take j vals) (get_or vals j 0 ∷ []))
      ∙ ap spaced (sym (take-suc vals j 0 h) ∙ ap (λ (k : ℕ). take k vals) (sym (add-one j)))

  pub spaced-size : length (spaced (take (j + 1) vals)) ≡ length (spaced (take j vals)) + 1 + length (field (get_or vals j 0))
  spaced-size =
      omega (arith, length-append (spaced (take j vals) ++ (32 ∷ [])) (field (get_or vals j 0)), length-append (spaced (take j vals)) (32 ∷ []), ap length spaced-more)

  pub spaced-room : length (spaced (take j vals)) + 1 + length (field (get_or vals j 0)) ≤ length (spaced vals)
  spaced-room =
      let f : length (spaced vals) ≡ length (spaced (take (j + 1) vals)) + length (spaced (drop (j + 1) vals)) =
      ap (λ (r : List ℕ). length (spaced r)) (sym (take-append-drop (j + 1) vals))
      ∙ ap length (spaced-append (take (j + 1) vals) (drop (j + 1) vals))
      ∙ length-append (spaced (take (j + 1) vals)) (spaced (drop (j + 1) vals)) in
      omega (arith, spaced-size)

pub spaced-none : (vals : List ℕ) → spaced (take 0 vals) ≡ []
unfolding spaced
spaced-none vals = refl

pub spaced-all : (vals : List ℕ) (j : ℕ) → j ≡ length vals → spaced (take j vals) ≡ spaced vals
spaced-all vals j e = ap spaced (ap (λ (k : ℕ). take k vals) e ∙ take-length vals)

pub line-length : (word xs ys : List ℕ) → length (line word (xs ++ ys)) ≡ length word + 1 + length (spaced xs) + length (spaced ys)
unfolding line
line-length word xs ys =
    omega (arith, length-append word (spaced (xs ++ ys) ++ 10 ∷ []), length-append (spaced (xs ++ ys)) (10 ∷ []), ap length (spaced-append xs ys), length-append (spaced xs) (spaced ys))

-- the answers
module _ (out word entry numbers : List ℕ) where
  too_short : length out < length (line_of word entry numbers) → line_refusal out (line_of word entry numbers) ≡ Some ShortSlice
  too_short h = rw (lt-leb (length (line_of word entry numbers)) (length out) h)

  pub refused : length out < length (line_of word entry numbers)
      → (Err ShortSlice ≡ answer (line_refusal out (line_of word entry numbers)) (length (line_of word entry numbers))) × (out ≡ after (line_refusal out (line_of word entry numbers)) out (line_of word entry numbers))
  refused h = refused-by (line_refusal out (line_of word entry numbers)) (length (line_of word entry numbers)) out (line_of word entry numbers) (too_short h)

  pub written : (out' : List ℕ) (r : ℕ) → length (line_of word entry numbers) ≤ length out → PutAt out 0 (line_of word entry numbers) out' r
      → (Ok r ≡ answer (line_refusal out (line_of word entry numbers)) (length (line_of word entry numbers))) × (out' ≡ after (line_refusal out (line_of word entry numbers)) out (line_of word entry numbers))
  written out' r h p =
      accepted-by (line_refusal out (line_of word entry numbers)) (length (line_of word entry numbers)) out (line_of word entry numbers) r out'
      (rw (le-leb (length (line_of word entry numbers)) (length out) h)) (omega (arith, p.next)) (p.put ∙ sets-front out (line_of word entry numbers) h)
