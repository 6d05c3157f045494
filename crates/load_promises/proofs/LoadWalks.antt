-- Two walks that agree on a set of places: each lists the set's places in the same order.
-- Assumes nothing.
use mathlib.Core.Path.{◌≡◌, refl, sym, ap, subst, ◌∙◌}
use mathlib.Core.Logic.{⊎_elim}
use mathlib.Core.Bool.{Bool, true, false, cond, true≢false}
use mathlib.Core.List.{List, [], ◌∷◌, ◌++◌, foldl, append-nil, Memᴰ}
use Prim.Native.Nat.{ℕ, zero, suc, ◌≤◌}
use native.Mathlib.Omega.{arith}
use native.Mathlib.Decide.{ℕ_discrete}
use lib.ListN.{get_or, set}
use lib.Seq.{get_or-set_other}
use Rattle.lists.specs.Words.{is_zero, zeros, keep}
use Rattle.lists.proofs.Laws.{both, keep_append}
use Rattle.walk.specs.Walk.{St, fresh, enter, leave, visit, snoc}
use Rattle.walk.proofs.Visits.{none-fresh, set_self, set-zeros, visit-old, visit-new, visit-met, visit-enters, enters-true, visit-grown}

module _ (P : ℕ → Bool) where
  -- two states of walks in which the set's places are met alike and listed in the same order
  pub record Like (s t : St (List ℕ)) : Type 0 where
    pub met : (x : ℕ) → P x ≡ true → fresh s x ≡ fresh t x
    pub kept : keep P s.made ≡ keep P t.made

  pub like-refl : (s : St (List ℕ)) → Like s s
  like-refl s = record { met = λ x e. refl; kept = refl }

  pub like-trans : {s t u : St (List ℕ)} → Like s t → Like t u → Like s u
  like-trans a b = record { met = λ x e. a.met x e ∙ b.met x e; kept = a.kept ∙ b.kept }

  pub like-sym : {s t : St (List ℕ)} → Like s t → Like t s
  like-sym a = record { met = λ x e. sym (a.met x e); kept = sym a.kept }

  -- a place outside the set is entered and left
  like-enter : (s : St (List ℕ)) (m : ℕ) → P m ≡ false → Like s (enter m s)
  like-enter s m e = record {
    met = λ x q. sym (ap is_zero (get_or-set_other s.marks m x 1 1 (λ o. true≢false (sym q ∙ ap P o ∙ e))));
    kept = refl;
  }

  like-leave : (s : St (List ℕ)) (m : ℕ) → P m ≡ false → Like s (leave snoc m s)
  like-leave s m e = record {
    met = λ x q. refl;
    kept = sym (keep_append P s.made (m ∷ []) ∙ ap (λ (b : Bool). keep P s.made ++ cond b (m ∷ []) []) e ∙ append-nil (keep P s.made));
  }

  -- places that pass the gate, are outside the set, and lead to such places only
  pub record Outside (succ : ℕ → List ℕ) (gate : ℕ → Bool) (N : ℕ → Type 0) : Type 0 where
    pub out : (m : ℕ) → N m → gate m ≡ true → P m ≡ false
    pub next : (m y : ℕ) → N m → gate m ≡ true → Memᴰ y (succ m) → N y

  module _ (succ : ℕ → List ℕ) (gate : ℕ → Bool) (N : ℕ → Type 0) (o : Outside succ gate N) where
    fold-outside : (k : ℕ) → ((s : St (List ℕ)) (m : ℕ) → N m → Like s (visit succ gate snoc k s m))
        → (s : St (List ℕ)) (xs : List ℕ) → ((x : ℕ) → Memᴰ x xs → N x) → Like s (foldl (visit succ gate snoc k) s xs)
    fold-outside k h s [] a = like-refl s
    fold-outside k h s (x ∷ xs) a = like-trans (h s x (a x (Memᴰ.head refl))) (fold-outside k h (visit succ gate snoc k s x) xs (λ y m. a y (Memᴰ.tail m)))

    -- a visit of such a place meets and lists none of the set
    pub visit-outside : (k : ℕ) (s : St (List ℕ)) (m : ℕ) → N m → Like s (visit succ gate snoc k s m)
    unfolding visit
    visit-outside zero s m a = like-refl s
    visit-outside (suc k) s m a =
        ⊎_elim
        (λ e.
        let g = (enters-true succ gate snoc s m e).0 in
        let q = o.out m a g in
        let t : St (List ℕ) = foldl (visit succ gate snoc k) (enter m s) (succ m) in
        subst (Like s) (sym (visit-new succ gate snoc k s m e))
        (like-trans (like-enter s m q) (like-trans (fold-outside k (visit-outside k) (enter m s) (succ m) (λ y i. o.next m y a g i)) (like-leave t m q))))
        (λ e. subst (Like s) (sym (visit-old succ gate snoc (suc k) s m e)) (like-refl s))
        (both (cond (gate m) (fresh s m) false))

    pub visits-outside : (k : ℕ) (s : St (List ℕ)) (xs : List ℕ) → ((x : ℕ) → Memᴰ x xs → N x) → Like s (foldl (visit succ gate snoc k) s xs)
    visits-outside k = fold-outside k (visit-outside k)

  -- a place of the set is entered and left in both
  both-enter : {s t : St (List ℕ)} (m : ℕ) → Like s t → Like (enter m s) (enter m t)
  both-enter {s} {t} m a = record { met = λ x q. same x q (ℕ_discrete x m); kept = a.kept }
    where
      same : (x : ℕ) → P x ≡ true → Dec (x ≡ m) → fresh (enter m s) x ≡ fresh (enter m t) x
      same x q (yes e) = ap (λ (y : ℕ). is_zero (get_or (set s.marks m 1) y 1)) e ∙ set_self s.marks m ∙ sym (ap (λ (y : ℕ). is_zero (get_or (set t.marks m 1) y 1)) e ∙ set_self t.marks m)
      same x q (no n) = ap is_zero (get_or-set_other s.marks m x 1 1 n) ∙ a.met x q ∙ sym (ap is_zero (get_or-set_other t.marks m x 1 1 n))

  both-leave : {s t : St (List ℕ)} (m : ℕ) → Like s t → Like (leave snoc m s) (leave snoc m t)
  both-leave {s} {t} m a = record {
    met = a.met;
    kept = keep_append P s.made (m ∷ []) ∙ ap (λ (l : List ℕ). l ++ keep P (m ∷ [])) a.kept ∙ sym (keep_append P t.made (m ∷ []));
  }

  -- two lists with the same places of the set, in the same order, and other places outside it
  pub data Aligned (D M N : ℕ → Type 0) : List ℕ → List ℕ → Type 0 where
    end : Aligned D M N [] []
    left : {x : ℕ} {xs ys : List ℕ} → M x → Aligned D M N xs ys → Aligned D M N (x ∷ xs) ys
    right : {y : ℕ} {xs ys : List ℕ} → N y → Aligned D M N xs ys → Aligned D M N xs (y ∷ ys)
    two : {x : ℕ} {xs ys : List ℕ} → D x → Aligned D M N xs ys → Aligned D M N (x ∷ xs) (x ∷ ys)

  pub aligned-append : {D M N : ℕ → Type 0} {xs ys xs' ys' : List ℕ} → Aligned D M N xs ys → Aligned D M N xs' ys' → Aligned D M N (xs ++ xs') (ys ++ ys')
  aligned-append end b = b
  aligned-append (left h a) b = left h (aligned-append a b)
  aligned-append (right h a) b = right h (aligned-append a b)
  aligned-append (two h a) b = two h (aligned-append a b)

  -- the places of the set pass both gates, and their successors are so aligned
  pub record Together (succ succ' : ℕ → List ℕ) (gate gate' : ℕ → Bool) (D M N : ℕ → Type 0) : Type 0 where
    pub outside : Outside succ gate M
    pub outside' : Outside succ' gate' N
    pub inside : (m : ℕ) → D m → P m ≡ true
    pub passes : (m : ℕ) → D m → (gate m ≡ true) × (gate' m ≡ true)
    pub next : (m : ℕ) → D m → Aligned D M N (succ m) (succ' m)

  module _ (succ succ' : ℕ → List ℕ) (gate gate' : ℕ → Bool) (D M N : ℕ → Type 0) (c : Together succ succ' gate gate' D M N) where
    fold-together : (k j : ℕ)
        → ((s t : St (List ℕ)) (m : ℕ) → Like s t → D m → zeros s.marks ≤ k → zeros t.marks ≤ j → Like (visit succ gate snoc k s m) (visit succ' gate' snoc j t m))
        → (s t : St (List ℕ)) {xs ys : List ℕ} → Like s t → Aligned D M N xs ys → zeros s.marks ≤ k → zeros t.marks ≤ j
        → Like (foldl (visit succ gate snoc k) s xs) (foldl (visit succ' gate' snoc j) t ys)
    fold-together k j h s t a end z w = a
    fold-together k j h s t a (left {x} m l) z w =
        let r = visit-grown succ gate snoc k s x in
        fold-together k j h (visit succ gate snoc k s x) t (like-trans (like-sym (visit-outside succ gate M c.outside k s x m)) a) l (omega (arith, r.fewer)) w
    fold-together k j h s t a (right {y} m l) z w =
        let r = visit-grown succ' gate' snoc j t y in
        fold-together k j h s (visit succ' gate' snoc j t y) (like-trans a (visit-outside succ' gate' N c.outside' j t y m)) l z (omega (arith, r.fewer))
    fold-together k j h s t a (two {x} m l) z w =
        let r = visit-grown succ gate snoc k s x in
        let r' = visit-grown succ' gate' snoc j t x in
        fold-together k j h (visit succ gate snoc k s x) (visit succ' gate' snoc j t x) (h s t x a m z w) l (omega (arith, r.fewer)) (omega (arith, r'.fewer))

    met_together : (k j : ℕ) (s t : St (List ℕ)) (m : ℕ) → Like s t → D m → fresh s m ≡ false → Like (visit succ gate snoc k s m) (visit succ' gate' snoc j t m)
    met_together k j s t m a d e =
        subst (λ (u : St (List ℕ)). Like u (visit succ' gate' snoc j t m)) (sym (visit-met succ gate snoc k s m e))
        (subst (Like s) (sym (visit-met succ' gate' snoc j t m (sym (a.met m (c.inside m d)) ∙ e))) a)

    visit-together : (k j : ℕ) (s t : St (List ℕ)) (m : ℕ) → Like s t → D m → zeros s.marks ≤ k → zeros t.marks ≤ j → Like (visit succ gate snoc k s m) (visit succ' gate' snoc j t m)
    visit-together zero j s t m a d z w = met_together zero j s t m a d (none-fresh s.marks m z)
    visit-together (suc k) zero s t m a d z w = met_together (suc k) zero s t m a d (a.met m (c.inside m d) ∙ none-fresh t.marks m w)
    visit-together (suc k) (suc j) s t m a d z w =
        ⊎_elim
        (λ e.
        let e' : fresh t m ≡ true = sym (a.met m (c.inside m d)) ∙ e in
        let i = set-zeros s.marks m e in
        let i' = set-zeros t.marks m e' in
        let u : St (List ℕ) = foldl (visit succ gate snoc k) (enter m s) (succ m) in
        let v : St (List ℕ) = foldl (visit succ' gate' snoc j) (enter m t) (succ' m) in
        let inner : Like u v = fold-together k j (visit-together k j) (enter m s) (enter m t) (both-enter m a) (c.next m d) (omega arith) (omega arith) in
        subst (λ (x : St (List ℕ)). Like x (visit succ' gate' snoc (suc j) t m)) (sym (visit-enters succ gate snoc k s m (c.passes m d).0 e))
        (subst (Like (leave snoc m u)) (sym (visit-enters succ' gate' snoc j t m (c.passes m d).1 e')) (both-leave m inner)))
        (λ e. met_together (suc k) (suc j) s t m a d e)
        (both (fresh s m))

    -- two walks over aligned lists from like states end in like states
    pub visits-together : (k j : ℕ) (s t : St (List ℕ)) {xs ys : List ℕ} → Like s t → Aligned D M N xs ys → zeros s.marks ≤ k → zeros t.marks ≤ j
        → Like (foldl (visit succ gate snoc k) s xs) (foldl (visit succ' gate' snoc j) t ys)
    visits-together k j = fold-together k j (visit-together k j)
