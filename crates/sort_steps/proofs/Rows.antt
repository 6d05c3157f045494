-- What a record row leads to in the sort.
-- Assumes nothing.
use Rattle.std.specs.Prelude.{◌≡◌, ℕ, ◌<◌, Bool, true, false, eqb, List, [], ◌∷◌, length, get_or}
use mathlib.Core.Path.{sym, ap, ◌∙◌}
use mathlib.Core.Logic.{⊎_elim}
use native.Mathlib.Omega.{arith}
use borrow.Author.Tests.{eqb-false}
use Rattle.lists.specs.Words.{is_zero}
use Rattle.lists.proofs.Laws.{both}
use Rattle.walk.specs.Walk.{St, Visits}
use Rattle.walk.proofs.Going.{none-visited, met-visited}
use Rattle.tables.specs.Project.{missing}
use Rattle.tables.specs.Readings.{is_normal, is_static, resolved, any_target, row_targets}
use Rattle.tables.specs.Accepted.{BelowOrMissing}
use Rattle.tables.specs.declared.Target.{Target}
use Rattle.tables.specs.declared.Target.TheVariants.{Missing, External, Normal}
use Rattle.sort_steps.specs.Steps.{unless_missing, unmet_of}

nowhere : {t : ℕ} → [] ≡ t ∷ [] → ⊥
nowhere q = let z : ◌≡◌ {A = ℕ} 0 1 = ap (λ (l : List ℕ). length l) q in omega arith

-- the mark, and any other
pub unless-missing : (t : ℕ) → eqb t missing ≡ true → unless_missing t ≡ []
unless-missing t e = rw e

pub unless-one : (t : ℕ) → eqb t missing ≡ false → unless_missing t ≡ t ∷ []
unless-one t e = rw e

abbrev fresh : List ℕ → ℕ → Bool
fresh marks m = is_zero (get_or marks m 1)

-- of one module: it, if it is not met
pub unmet-one : (marks : List ℕ) (t : ℕ) → fresh marks t ≡ true → unmet_of marks (t ∷ []) ≡ t ∷ []
unmet-one marks t e = rw e

pub unmet-none : (marks : List ℕ) (t : ℕ) → fresh marks t ≡ false → unmet_of marks (t ∷ []) ≡ []
unmet-none marks t e = rw e

-- a target leads to one module at most
target-few : (P : List ℕ → Type 0) → P [] → ((t : ℕ) → P (t ∷ [])) → (x : Target) → P (any_target x)
target-few P none one Missing = none
target-few P none one (External t) = one t
target-few P none one (Normal t) = one t

module _ (dynamic : ℕ) (normal kind target : List ℕ) (row : ℕ) where
  abbrev pub led : List ℕ
  led = row_targets (is_static dynamic) any_target normal kind target row

  -- another kind leads nowhere
  pub led-kind : is_static dynamic (get_or kind row 0) ≡ false → led ≡ []
  led-kind e = rw e

  -- a target that is there is the row's, and not the mark
  there : (t : ℕ) → any_target (resolved normal target row) ≡ t ∷ [] → (eqb (get_or target row 0) missing ≡ false) × (get_or target row 0 ≡ t)
  unfolding resolved
  there t e =
      ⊎_elim
      (λ p. absurd (nowhere (rw p at e)))
      (λ p. (p, ⊎_elim (λ q. same (rw q at (rw p at e))) (λ q. same (rw q at (rw p at e))) (both (is_normal normal (get_or target row 0)))))
      (both (eqb (get_or target row 0) missing))
    where
      same : get_or target row 0 ∷ [] ≡ t ∷ [] → get_or target row 0 ≡ t
      same q = cc

  -- a module that is led to has a row
  pub led-in : (n t : ℕ) → BelowOrMissing n target → row < length target → led ≡ t ∷ [] → t < n
  led-in n t within l e =
      ⊎_elim
      (λ q.
      let p = there t (rw q at e) in
      ⊎_elim (λ h. omega (arith, h, p.1)) (λ h. absurd (eqb-false (get_or target row 0) missing p.0 h)) (within row l))
      (λ q. absurd (nowhere (rw q at e)))
      (both (is_static dynamic (get_or kind row 0)))

  -- a row leads to one module at most
  pub few : (P : List ℕ → Type 0) → P [] → ((t : ℕ) → P (t ∷ [])) → P led
  few P none one = ⊎_elim (λ e. rw e (target-few P none one (resolved normal target row))) (λ e. rw e none) (both (is_static dynamic (get_or kind row 0)))

  -- so one that is not met is all that it leads to
  pub led-all : (marks : List ℕ) (t : ℕ) → unmet_of marks led ≡ t ∷ [] → led ≡ t ∷ []
  led-all marks t =
      few (λ (xs : List ℕ). unmet_of marks xs ≡ t ∷ [] → xs ≡ t ∷ []) (λ q. q)
      (λ x q. ⊎_elim (λ e. sym (unmet-one marks x e) ∙ q) (λ e. absurd (nowhere (sym (unmet-none marks x e) ∙ q))) (both (fresh marks x)))

  -- if none is, visits of all that it leads to change nothing
  pub led-met : (succ : ℕ → List ℕ) (gate : ℕ → Bool) {A : Type 0} (act : A → ℕ → A) (s : St A) → unmet_of s.marks led ≡ [] → Visits succ gate act s led s
  led-met succ gate act s =
      few (λ (xs : List ℕ). unmet_of s.marks xs ≡ [] → Visits succ gate act s xs s) (λ q. none-visited succ gate act s)
      (λ x q. ⊎_elim (λ e. absurd (nowhere (sym q ∙ unmet-one s.marks x e))) (λ e. met-visited succ gate act s x e) (both (fresh s.marks x)))
