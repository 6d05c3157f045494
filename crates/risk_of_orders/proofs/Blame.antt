-- The order risk holds the eligible ones among those that a flagged module of either sensitive order blames.
-- Assumes nothing.
use Rattle.std.specs.Prelude.{◌≡◌, ℕ, Bool, true, false, not, ◌&&◌, ◌||◌, eqb, List, ◌++◌, get_or}
use mathlib.Core.Path.{refl, ap, subst}
use mathlib.Core.Logic.{⊎_elim}
use mathlib.Core.List.Memᴰ
use mathlib.Core.List.{Memᴰ}
use borrow.Author.Tests.{eq-eqb, eqb-true}
use Rattle.lists.specs.Words.{any, elem}
use Rattle.lists.proofs.Laws.{both, not-true, iff-eq, and_parts, and-join, or_parts, or_left, or_right, any-mem, mem-any, elem_mem}
use Rattle.tables.specs.Project.{missing}
use Rattle.risk_of_orders.specs.Risk.{just_one, expected_sensitive, actual_sensitive, is_flagged, order_risk}
use Rattle.risk_of_orders.specs.inner.Blame.{blamed}

just-some : (a b : Bool) → just_one a b ≡ true → (a || b) ≡ true
just-some true b e = refl
just-some false b e = e

module _ (sensitive eligible : ℕ → Bool) (expected actual hosts : List ℕ) where
  abbrev E : List ℕ
  E = expected_sensitive sensitive eligible expected actual hosts

  abbrev A : List ℕ
  A = actual_sensitive sensitive eligible expected actual hosts

  abbrev Flagged : ℕ → Bool
  Flagged = is_flagged sensitive eligible expected actual hosts

  -- a flagged module stands in one of the orders
  pub flagged-listed : (m : ℕ) → Flagged m ≡ true → Memᴰ m (E ++ A)
  unfolding is_flagged
  flagged-listed m e =
      ⊎_elim
      (λ j. ⊎_elim (λ h. Memᴰ.append_left A (elem_mem m E h)) (λ h. Memᴰ.append_right E (elem_mem m A h)) (or_parts (elem m E) (elem m A) (just-some (elem m E) (elem m A) j)))
      (λ h. Memᴰ.append_left A (elem_mem m E (and_parts (elem m E) _ h).0))
      (or_parts (just_one (elem m E) (elem m A)) _ e)

  -- x is flagged and blames m
  abbrev pub blames : ℕ → ℕ → Bool
  blames m x = Flagged x && eqb (blamed eligible hosts x) m

  pub risk-blamed : (m : ℕ) → order_risk sensitive eligible expected actual hosts m ≡ (eligible m && any (blames m) (E ++ A))
  unfolding order_risk
  risk-blamed m = iff-eq _ (eligible m && any (blames m) (E ++ A)) there back
    where
      there : (eligible m && (Flagged m || any (λ (x : ℕ). Flagged x && (not (eligible x) && eqb (get_or hosts x missing) m)) (E ++ A))) ≡ true → (eligible m && any (blames m) (E ++ A)) ≡ true
      there e =
          let a = and_parts (eligible m) _ e in
          and-join (eligible m) _ a.0
          (⊎_elim
          (λ f. mem-any (blames m) (E ++ A) (flagged-listed m f) (and-join (Flagged m) _ f (rw a.0 (eq-eqb m m refl))))
          (λ h.
          let r = any-mem (λ (x : ℕ). Flagged x && (not (eligible x) && eqb (get_or hosts x missing) m)) (E ++ A) h in
          let b = and_parts (Flagged r.0) _ r.2 in
          let c = and_parts (not (eligible r.0)) _ b.1 in
          mem-any (blames m) (E ++ A) r.1 (and-join (Flagged r.0) _ b.0 (rw (not-true (eligible r.0) c.0) c.1)))
          (or_parts (Flagged m) _ a.1))

      back : (eligible m && any (blames m) (E ++ A)) ≡ true → (eligible m && (Flagged m || any (λ (x : ℕ). Flagged x && (not (eligible x) && eqb (get_or hosts x missing) m)) (E ++ A))) ≡ true
      back e =
          let a = and_parts (eligible m) _ e in
          let r = any-mem (blames m) (E ++ A) a.1 in
          let b = and_parts (Flagged r.0) _ r.2 in
          and-join (eligible m) _ a.0
          (⊎_elim
          (λ g. or_left (Flagged m) _ (subst (λ (x : ℕ). Flagged x ≡ true) (eqb-true r.0 m (rw g at b.1)) b.0))
          (λ g. or_right (Flagged m) _ (mem-any (λ (x : ℕ). Flagged x && (not (eligible x) && eqb (get_or hosts x missing) m)) (E ++ A) r.1 (and-join (Flagged r.0) _ b.0 (and-join (not (eligible r.0)) _ (ap not g) (rw g at b.1)))))
          (both (eligible r.0)))
