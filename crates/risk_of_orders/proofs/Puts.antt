-- What a flagged module puts at risk.
-- Assumes nothing.
use Rattle.std.specs.Prelude.{◌≡◌, ℕ, ◌<◌, ◌≤◌, Bool, true, false, ◌&&◌, eqb, List, length, get_or, set}
use mathlib.Core.Path.{refl, sym, ap, ◌∙◌}
use mathlib.Core.Logic.{⊎_elim}
use mathlib.Core.Bool.{true≢false}
use lib.ListN.{get_or-eq_default}
use borrow.Author.Tests.{eq-eqb, eqb-true}
use Rattle.lists.specs.Words.{has}
use Rattle.lists.proofs.Laws.{both, has-not, has-yes, get_d-in}
use Rattle.tables.specs.Project.{missing}
use Rattle.risk_of_orders.specs.inner.Blame.{blamed}
use Rattle.risk_of_orders.specs.inner.Steps.{join, puts}
use Rattle.risk_of_orders.proofs.Joins.{join-set, join-none, join-cong}

pub has-past : (s : List ℕ) (i : ℕ) → length s ≤ i → has s i ≡ false
has-past s i l = has-not s i (get_or-eq_default s 0 l)

eqb-turned : (x y : ℕ) → eqb x y ≡ eqb y x
eqb-turned x y =
    ⊎_elim (λ e. e ∙ sym (eq-eqb y x (sym (eqb-true x y e))))
    (λ e. e ∙ sym (⊎_elim (λ q. absurd (true≢false (sym (eq-eqb x y (sym (eqb-true y x q))) ∙ e))) (λ q. q) (both (eqb y x))))
    (both (eqb x y))

none : (b : Bool) → (b && false) ≡ false
none true = refl
none false = refl

module _ (eligible hosts : List ℕ) (x : ℕ) where
  abbrev whom : ℕ
  whom = blamed (has eligible) hosts x

  pub blamed-self : has eligible x ≡ true → whom ≡ x
  blamed-self e = rw e

  pub blamed-host : has eligible x ≡ false → whom ≡ get_or hosts x missing
  blamed-host e = rw e

  -- whom x blames is eligible, and alone at risk
  pub puts_one : has eligible whom ≡ true → (m : ℕ) → puts eligible hosts x m ≡ eqb m whom
  puts_one e m =
      ⊎_elim (λ q. ap (λ (b : Bool). b && eqb whom m) (sym (ap (has eligible) (eqb-true whom m q)) ∙ e) ∙ eqb-turned whom m)
      (λ q. ap (λ (b : Bool). has eligible m && b) q ∙ none (has eligible m) ∙ sym (sym (eqb-turned whom m) ∙ q))
      (both (eqb whom m))

  -- or isn't
  pub puts_none : has eligible whom ≡ false → (m : ℕ) → puts eligible hosts x m ≡ false
  puts_none e m =
      ⊎_elim (λ q. ap (λ (b : Bool). b && eqb whom m) (sym (ap (has eligible) (eqb-true whom m q)) ∙ e))
      (λ q. ap (λ (b : Bool). has eligible m && b) q ∙ none (has eligible m))
      (both (eqb whom m))

-- a set with what a flagged m puts at risk
module _ (eligible hosts out : List ℕ) (m : ℕ) where
  changed : (b : ℕ) → blamed (has eligible) hosts m ≡ b → b < length out → has eligible b ≡ true → set out b 1 ≡ join out (puts eligible hosts m)
  changed b w l h =
      join-set out b l ∙ join-cong out (λ (i : ℕ). eqb i b) (puts eligible hosts m) (λ i r. ap (eqb i) (sym w) ∙ sym (puts_one eligible hosts m (ap (has eligible) w ∙ h) i))

  -- itself
  pub flagged_self : m < length out → (get_or eligible m 0 ≡ 0 → ⊥) → set out m 1 ≡ join out (puts eligible hosts m)
  flagged_self l n = let h = has-yes eligible m n in changed m (blamed-self eligible hosts m h) l h

  module _ (noted : m < length hosts) (z : get_or eligible m 0 ≡ 0) where
    host : blamed (has eligible) hosts m ≡ get_or hosts m 0
    host = blamed-host eligible hosts m (has-not eligible m z) ∙ get_d-in hosts m missing 0 noted

    unchanged : has eligible (get_or hosts m 0) ≡ false → out ≡ join out (puts eligible hosts m)
    unchanged h = join-none out (puts eligible hosts m) (λ i l. puts_none eligible hosts m (ap (has eligible) host ∙ h) i)

    -- none, where its host isn't noted
    pub flagged_alone : length eligible ≤ get_or hosts m 0 → out ≡ join out (puts eligible hosts m)
    flagged_alone h = unchanged (has-past eligible (get_or hosts m 0) h)

    -- none, where its host isn't eligible
    pub flagged_none : get_or eligible (get_or hosts m 0) 0 ≡ 0 → out ≡ join out (puts eligible hosts m)
    flagged_none h = unchanged (has-not eligible (get_or hosts m 0) h)

    -- its host
    pub flagged_host : get_or hosts m 0 < length out → (get_or eligible (get_or hosts m 0) 0 ≡ 0 → ⊥) → set out (get_or hosts m 0) 1 ≡ join out (puts eligible hosts m)
    flagged_host l n = changed (get_or hosts m 0) host l (has-yes eligible (get_or hosts m 0) n)

pub ruleset flagged_puts = (flagged_self, flagged_alone, flagged_none, flagged_host)
