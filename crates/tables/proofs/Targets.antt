-- What a record row leads to by imports to normal modules.
-- Assumes nothing.
use Rattle.std.specs.Prelude.{◌≡◌, ℕ, ◌<◌, true, false, cond, eqb, ◌⊎◌, List, [], ◌∷◌, length, get_or}
use mathlib.Core.Path.{refl}
use mathlib.Core.Logic.{⊎_elim}
use native.Mathlib.Omega.{arith}
use native.Mathlib.Decide.{dec_lt}
use lib.ListN.{get_or-eq_default}
use borrow.Author.Tests.{eqb-true}
use Rattle.lists.proofs.Laws.{both}
use Rattle.tables.specs.Project.{missing}
use Rattle.tables.specs.Readings.{is_normal, is_import, resolved, any_target, normal_target, row_targets}
use denote.Enum.Declared.{tag_of}
use Rattle.tables.specs.contracts.Target.{the_type}
use Rattle.tables.specs.declared.Target.{Target}
use Rattle.tables.specs.declared.Target.TheVariants.{Missing, External, Normal}

-- a normal module has a row
pub normal-in : (normal : List ℕ) (m : ℕ) → is_normal normal m ≡ true → m < length normal
normal-in normal m e = go (dec_lt m (length normal))
  where
    go : Dec (m < length normal) → m < length normal
    go (yes h) = h
    go (no h) =
        let one = eqb-true (get_or normal m 0) 1 e in
        let none : get_or normal m 0 ≡ 0 = get_or-eq_default normal 0 (omega arith) in
        absurd (omega arith)

module _ (normal kind target : List ℕ) (row : ℕ) where
  -- a normal target has a row
  pub target-in : (t : ℕ) → resolved normal target row ≡ Normal t → t < length normal
  unfolding resolved
  target-in t e =
      ⊎_elim
      (λ p. nowhere (rw p at e))
      (λ p. ⊎_elim (λ q. inside q (rw q at (rw p at e))) (λ q. outside (rw q at (rw p at e))) (both (is_normal normal (get_or target row 0))))
      (both (eqb (get_or target row 0) missing))
    where
      nowhere : Missing ≡ Normal t → t < length normal
      nowhere q = let z : ◌≡◌ {A = ℕ} 0 1 = cc in absurd (omega arith)

      outside : External (get_or target row 0) ≡ Normal t → t < length normal
      outside q = let z : ◌≡◌ {A = ℕ} 0 1 = cc in absurd (omega arith)

      inside : is_normal normal (get_or target row 0) ≡ true → Normal (get_or target row 0) ≡ Normal t → t < length normal
      inside n q = let same : get_or target row 0 ≡ t = cc in rw (← same) (normal-in normal (get_or target row 0) n)

  abbrev pub led : List ℕ
  led = row_targets is_import normal_target normal kind target row

  -- another kind leads nowhere
  pub led-kind : is_import (get_or kind row 0) ≡ false → led ≡ []
  led-kind e = rw e

  -- an import leads to its normal target
  pub led-import : (t : Target) → is_import (get_or kind row 0) ≡ true → resolved normal target row ≡ t → led ≡ normal_target t
  led-import t e q = rw (e, q)

-- a target that isn't normal, told by its tag, leads nowhere
pub led-nowhere : (t : Target) → (tag_of the_type t ≡ 0) ⊎ (tag_of the_type t ≡ 1) → normal_target t ≡ []
led-nowhere Missing h = refl
led-nowhere (External m) h = refl
led-nowhere (Normal m) h = ⊎_elim (λ e. absurd (omega arith)) (λ e. absurd (omega arith)) h

-- the module of a target is there unless it is missing
pub any-resolved : (normal target : List ℕ) (row : ℕ) → any_target (resolved normal target row) ≡ cond (eqb (get_or target row 0) missing) [] (get_or target row 0 ∷ [])
unfolding resolved
any-resolved normal target row =
    ⊎_elim (λ e. rw e) (λ e. rw e (⊎_elim (λ q. rw q) (λ q. rw q) (both (is_normal normal (get_or target row 0))))) (both (eqb (get_or target row 0) missing))
