-- When a plan is accepted, and what a broken condition names.
-- Assumes nothing.
use Rattle.std.specs.Prelude.{◌≡◌, ℕ, suc, ◌+◌, ◌⊎◌, List, [], ◌∷◌, ◌++◌, map, length, Option, None, Some}
use mathlib.Core.Path.{refl, sym, ap, ◌∙◌}
use mathlib.Core.Logic.{⊎_elim}
use Rattle.std.proofs.Common.{inl, inr}
use mathlib.Core.List.Memᴰ
use mathlib.Core.List.{Memᴰ}
use native.Mathlib.Omega.{arith}
use Rattle.wrap_rules.specs.Plan.{suffix_rule, component_rule, import_rule, read_rule}
use Rattle.plan_conditions.specs.declared.Judgement.{Judgement}
use Rattle.plan_conditions.specs.declared.Judgement.TheVariants.{Accepted, Broken}
use Rattle.plan_conditions.specs.Conditions.{Condition, only_eligible, holds_seeds, closed_under, conditions, first_broken}

-- every condition is judged
pub judged-all : (c : Condition) → Memᴰ c conditions
judged-all only_eligible = Memᴰ.head refl
judged-all holds_seeds = Memᴰ.tail (Memᴰ.head refl)
judged-all (closed_under suffix_rule) = Memᴰ.tail (Memᴰ.tail (Memᴰ.head refl))
judged-all (closed_under component_rule) = Memᴰ.tail (Memᴰ.tail (Memᴰ.tail (Memᴰ.head refl)))
judged-all (closed_under import_rule) = Memᴰ.tail (Memᴰ.tail (Memᴰ.tail (Memᴰ.tail (Memᴰ.head refl))))
judged-all (closed_under read_rule) = Memᴰ.tail (Memᴰ.tail (Memᴰ.tail (Memᴰ.tail (Memᴰ.tail (Memᴰ.head refl)))))

apart : {i m : ℕ} {j : Judgement} → j ≡ Broken i m → j ≡ Accepted → ⊥
apart {i} {m} {j} p q = let z : ◌≡◌ {A = ℕ} 0 1 = cc in omega arith

-- a condition is kept, or broken by a module
kept_or_broken : (o : Option ℕ) → (o ≡ None) ⊎ ((m : ℕ) × (o ≡ Some m))
kept_or_broken None = inl refl
kept_or_broken (Some m) = inr (m, refl)

-- the first of a list is passed over, or named

later : (i : ℕ) (o : Option ℕ) (ms : List (Option ℕ)) → o ≡ None → first_broken i (o ∷ ms) ≡ first_broken (suc i) ms
later i o ms h = rw h

here : (i m : ℕ) (o : Option ℕ) (ms : List (Option ℕ)) → o ≡ Some m → first_broken i (o ∷ ms) ≡ Broken i m
here i m o ms h = rw h

-- by the module that breaks each condition, if one does
module _ (f : Condition → Option ℕ) where
  pub accepted-each : (i : ℕ) (cs : List Condition) → first_broken i (map f cs) ≡ Accepted → (c : Condition) → Memᴰ c cs → f c ≡ None
  accepted-each i [] e c h = absurd (Memᴰ.not-nil h)
  accepted-each i (x ∷ cs) e c h =
      ⊎_elim
      (λ q. ⊎_elim (λ y. ap f y ∙ q) (accepted-each (suc i) cs (sym (later i (f x) (map f cs) q) ∙ e) c) (Memᴰ.cases_cons h))
      (λ q. absurd (apart (here i q.0 (f x) (map f cs) q.1) e))
      (kept_or_broken (f x))

  pub each-accepted : (i : ℕ) (cs : List Condition) → ((c : Condition) → Memᴰ c cs → f c ≡ None) → first_broken i (map f cs) ≡ Accepted
  each-accepted i [] h = refl
  each-accepted i (x ∷ cs) h = later i (f x) (map f cs) (h x (Memᴰ.head refl)) ∙ each-accepted (suc i) cs (λ c m. h c (Memᴰ.tail m))

  -- the condition that is named stands at its number, its module is named, and those before it are kept
  pub record Named (i : ℕ) (cs : List Condition) (j m : ℕ) : Type 0 where
    pub before : List Condition
    pub condition : Condition
    pub rest : List Condition
    pub place : cs ≡ before ++ (condition ∷ rest)
    pub numbered : j ≡ i + length before
    pub module' : f condition ≡ Some m
    pub earlier : (c : Condition) → Memᴰ c before → f c ≡ None

  pub broken-named : (i : ℕ) (cs : List Condition) (j m : ℕ) → first_broken i (map f cs) ≡ Broken j m → Named i cs j m
  broken-named i [] j m e = absurd (apart e refl)
  broken-named i (x ∷ cs) j m e =
      ⊎_elim (λ q. passed q (broken-named (suc i) cs j m (sym (later i (f x) (map f cs) q) ∙ e))) (λ q. named q.0 q.1 (sym (here i q.0 (f x) (map f cs) q.1) ∙ e)) (kept_or_broken (f x))
    where
      named : (k : ℕ) → f x ≡ Some k → Broken i k ≡ Broken j m → Named i (x ∷ cs) j m
      named k q h =
          let n : i ≡ j = cc in
          let z : f x ≡ Some m = cc in
          record { before = []; condition = x; rest = cs; place = refl; numbered = omega arith; module' = z; earlier = λ c h. absurd (Memᴰ.not-nil h) }

      passed : f x ≡ None → Named (suc i) cs j m → Named i (x ∷ cs) j m
      passed q n = record {
        before = x ∷ n.before;
        condition = n.condition;
        rest = n.rest;
        place = ap (λ (ys : List Condition). x ∷ ys) n.place;
        numbered = omega (arith, n.numbered);
        module' = n.module';
        earlier = λ c h. ⊎_elim (λ y. ap f y ∙ q) (n.earlier c) (Memᴰ.cases_cons h);
      }
