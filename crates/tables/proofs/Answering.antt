-- What refuses a call in each of its cases, and what such a call answers and leaves.
-- Assumes nothing.
use Rattle.std.specs.Prelude.{◌≡◌, ℕ, zero, suc, Bool, true, false, List, ◌++◌, length, drop, Option, None, Some, Ok, Err}
use mathlib.Core.Path.{refl}
use Rattle.lists.specs.Words.{is_zero}
use Rattle.tables.specs.declared.Refusal.{Refusal}
use Rattle.tables.specs.declared.Refusal.TheVariants.{Argument, ShortSlice}
use Rattle.tables.specs.Answers.{verdict, answer, after, tested}

module _ {r : Option Refusal} (fits room : Bool) where
  -- the project is refused
  pub verdict-project : {e : Refusal} → r ≡ Some e → verdict r fits room ≡ Some e
  verdict-project h = rw h

  -- the arguments don't fit
  pub verdict-unfit : r ≡ None → fits ≡ false → verdict r fits room ≡ Some Argument
  verdict-unfit h f = rw (h, f)

  -- a slice is too short
  pub verdict-short : r ≡ None → fits ≡ true → room ≡ false → verdict r fits room ≡ Some ShortSlice
  verdict-short h f s = rw (h, f, s)

  pub verdict-none : r ≡ None → fits ≡ true → room ≡ true → verdict r fits room ≡ None
  verdict-none h f s = rw (h, f, s)

module _ {v : Option Refusal} where
  -- a refused call answers its refusal, and leaves a slice as it was
  pub answer-refused : {A : Type 0} {e : Refusal} (value : A) → v ≡ Some e → Err e ≡ answer v value
  answer-refused value h = rw h

  pub after-refused : {e : Refusal} (old new : List ℕ) → v ≡ Some e → old ≡ after v old new
  after-refused old new h = rw h

  -- an accepted call answers its value, and writes from place 0
  pub answer-accepted : {A : Type 0} {value n : A} → v ≡ None → n ≡ value → Ok n ≡ answer v value
  answer-accepted h e = rw (h, e)

  pub after-accepted : (old new : List ℕ) {left : List ℕ} → v ≡ None → left ≡ new ++ drop (length new) old → left ≡ after v old new
  after-accepted old new h e = rw (h, e)

-- what a test answers

pub tested-passed : (r : Option Refusal) → Ok tt ≡ tested r → r ≡ None
tested-passed None e = refl
tested-passed (Some x) e = cc

pub tested-refused : (r : Option Refusal) {e : Refusal} → Err e ≡ tested r → r ≡ Some e
tested-refused None h = cc
tested-refused (Some x) h = cc

pub not-zero : (n : ℕ) → (n ≡ 0 → ⊥) → is_zero n ≡ false
not-zero zero h = absurd (h refl)
not-zero (suc n) h = refl
