-- The walk over any successor function, gate and payload: the cases of a visit, what it does to the marks, how much fuel is enough,
-- and that a walk with any payload is the fold of its action over the list that the same walk lists.
-- Assumes nothing.
use mathlib.Core.Path.{◌≡◌, refl, sym, ap, subst, ◌∙◌}
use mathlib.Core.Logic.{◌⊎◌, inl, inr, ⊎_elim}
use mathlib.Core.Bool.{Bool, true, false, cond, true≢false, false≢true}
use mathlib.Core.List.{List, [], ◌∷◌, ◌++◌, foldl, foldl-append, append_assoc, append-nil}
use Prim.Native.Nat.{ℕ, zero, suc, ◌≤◌, ◌<◌}
use native.Mathlib.Nat.{not-suc-le-zero}
use native.Mathlib.Omega.{arith}
use native.Mathlib.Decide.{ℕ_discrete}
use lib.ListN.{length, get_or, set, replicate, length-set, length-replicate}
use lib.Seq.{get_or-set_other}
use Rattle.lists.specs.Words.{is_zero, zeros}
use Rattle.lists.proofs.Laws.{both}
use Rattle.walk.specs.Close.{Bits}
use Rattle.walk.specs.Walk.{St, fresh, enter, leave, visit, walk, snoc, unmet, post_order}

-- marking one place

-- a mark that is 0 is fresh, and any other is not
pub fresh-zero : (xs : List ℕ) (m : ℕ) → m < length xs → get_or xs m 0 ≡ 0 → is_zero (get_or xs m 1) ≡ true
fresh-zero [] m l e = absurd (not-suc-le-zero l)
fresh-zero (x ∷ xs) zero l e = rw e
fresh-zero (x ∷ xs) (suc m) l e = fresh-zero xs m (omega arith) e

pub fresh-not : (xs : List ℕ) (m : ℕ) → (get_or xs m 0 ≡ 0 → ⊥) → is_zero (get_or xs m 1) ≡ false
fresh-not [] m n = refl
fresh-not (zero ∷ xs) zero n = absurd (n refl)
fresh-not (suc x ∷ xs) zero n = refl
fresh-not (x ∷ xs) (suc m) n = fresh-not xs m n

-- a fresh place has a mark, which is 0
pub fresh_in : (xs : List ℕ) (m : ℕ) → is_zero (get_or xs m 1) ≡ true → (m < length xs) × (get_or xs m 0 ≡ 0)
fresh_in [] m e = absurd (false≢true e)
fresh_in (zero ∷ xs) zero e = (omega arith, refl)
fresh_in (suc x ∷ xs) zero e = absurd (false≢true e)
fresh_in (x ∷ xs) (suc m) e = let h = fresh_in xs m e in (omega arith, h.1)

pub set-zeros : (xs : List ℕ) (m : ℕ) → is_zero (get_or xs m 1) ≡ true → suc (zeros (set xs m 1)) ≡ zeros xs
set-zeros [] m e = absurd (false≢true e)
set-zeros (zero ∷ xs) zero e = refl
set-zeros (suc n ∷ xs) zero e = absurd (false≢true e)
set-zeros (zero ∷ xs) (suc m) e = ap suc (set-zeros xs m e)
set-zeros (suc n ∷ xs) (suc m) e = set-zeros xs m e

pub set_self : (xs : List ℕ) (m : ℕ) → is_zero (get_or (set xs m 1) m 1) ≡ false
set_self [] m = refl
set_self (x ∷ xs) zero = refl
set_self (x ∷ xs) (suc m) = set_self xs m

pub set_back : (xs : List ℕ) (m x : ℕ) → is_zero (get_or (set xs m 1) x 1) ≡ true → is_zero (get_or xs x 1) ≡ true
set_back [] m x e = e
set_back (y ∷ xs) zero zero e = absurd (false≢true e)
set_back (y ∷ xs) zero (suc x) e = e
set_back (y ∷ xs) (suc m) zero e = e
set_back (y ∷ xs) (suc m) (suc x) e = set_back xs m x e

-- a place that is fresh at first and not after one mark is the marked one
pub set-only : (xs : List ℕ) (m x : ℕ) → is_zero (get_or xs x 1) ≡ true → (x ≡ m) ⊎ (is_zero (get_or (set xs m 1) x 1) ≡ true)
set-only xs m x e = go (ℕ_discrete x m)
  where
    go : Dec (x ≡ m) → (x ≡ m) ⊎ (is_zero (get_or (set xs m 1) x 1) ≡ true)
    go (yes p) = inl p
    go (no n) = inr (ap is_zero (get_or-set_other xs m x 1 1 n) ∙ e)

pub set-bits : (xs : List ℕ) (m : ℕ) → Bits xs → Bits (set xs m 1)
unfolding Bits
set-bits [] m b i = b i
set-bits (x ∷ xs) zero b zero = omega arith
set-bits (x ∷ xs) zero b (suc i) = b (suc i)
set-bits (x ∷ xs) (suc m) b zero = b zero
set-bits (x ∷ xs) (suc m) b (suc i) = set-bits xs m (λ j. b (suc j)) i

pub zeros-le : (xs : List ℕ) → zeros xs ≤ length xs
zeros-le [] = omega arith
zeros-le (zero ∷ xs) = let h = zeros-le xs in omega arith
zeros-le (suc x ∷ xs) = let h = zeros-le xs in omega arith

pub zeros-replicate : (n : ℕ) → zeros (replicate n 0) ≡ n
zeros-replicate zero = refl
zeros-replicate (suc n) = ap suc (zeros-replicate n)

pub bits-replicate : (n : ℕ) → Bits (replicate n 0)
unfolding Bits
bits-replicate zero i = omega arith
bits-replicate (suc n) zero = omega arith
bits-replicate (suc n) (suc i) = bits-replicate n i

-- of n marks that are all 0, those of the places below n are fresh
pub unmet-fresh : (n m : ℕ) → m < n → is_zero (get_or (replicate n 0) m 1) ≡ true
unmet-fresh zero m l = absurd (not-suc-le-zero l)
unmet-fresh (suc n) zero l = refl
unmet-fresh (suc n) (suc m) l = unmet-fresh n m (omega arith)

pub unmet-in : (n m : ℕ) → is_zero (get_or (replicate n 0) m 1) ≡ true → m < n
unmet-in n m e = let h = fresh_in (replicate n 0) m e in let l = length-replicate {A = ℕ} n 0 in omega (arith, h.0)

-- where nothing is fresh, no place is
pub none-fresh : (xs : List ℕ) (m : ℕ) → zeros xs ≤ 0 → is_zero (get_or xs m 1) ≡ false
none-fresh xs m z =
    ⊎_elim (λ e. absurd (not-suc-le-zero (subst (λ (n : ℕ). n ≤ 0) (sym (set-zeros xs m e)) z))) (λ e. e) (both (is_zero (get_or xs m 1)))

-- what any part of a walk does to the marks: their number stays, and they only grow
pub record Grown (s t : List ℕ) : Type 0 where
  pub len : length t ≡ length s
  pub grow : (x : ℕ) → is_zero (get_or t x 1) ≡ true → is_zero (get_or s x 1) ≡ true
  pub fewer : zeros t ≤ zeros s
  pub bits : Bits s → Bits t

pub grown-refl : (s : List ℕ) → Grown s s
grown-refl s = record { len = refl; grow = λ x e. e; fewer = omega arith; bits = λ b. b }

pub grown-trans : {s t u : List ℕ} → Grown s t → Grown t u → Grown s u
grown-trans p q = record { len = q.len ∙ p.len; grow = λ x e. p.grow x (q.grow x e); fewer = omega (arith, p.fewer, q.fewer); bits = λ b. q.bits (p.bits b) }

-- what is met stays met
pub stays : {s t : List ℕ} → Grown s t → (x : ℕ) → is_zero (get_or s x 1) ≡ false → is_zero (get_or t x 1) ≡ false
stays {s} {t} r x e = ⊎_elim (λ f. absurd (true≢false (sym (r.grow x f) ∙ e))) (λ f. f) (both (is_zero (get_or t x 1)))

grown-set : (s : List ℕ) (m : ℕ) → is_zero (get_or s m 1) ≡ true → Grown s (set s m 1)
grown-set s m e = record { len = length-set s m 1; grow = set_back s m; fewer = omega (arith, set-zeros s m e); bits = set-bits s m }

module _ (succ : ℕ → List ℕ) (gate : ℕ → Bool) {A : Type 0} (act : A → ℕ → A) where
  -- what a visit of m tests: it passes the gate and was not met
  abbrev pub enters : St A → ℕ → Bool
  enters s m = cond (gate m) (fresh s m) false

  pub enters-true : (s : St A) (m : ℕ) → enters s m ≡ true → (gate m ≡ true) × (fresh s m ≡ true)
  enters-true s m e = go (gate m) refl e
    where
      go : (b : Bool) → gate m ≡ b → cond b (fresh s m) false ≡ true → (gate m ≡ true) × (fresh s m ≡ true)
      go true g h = (g, h)
      go false g h = absurd (false≢true h)

  -- the cases of a visit
  pub visit-old : (k : ℕ) (s : St A) (m : ℕ) → enters s m ≡ false → visit succ gate act k s m ≡ s
  unfolding visit
  visit-old zero s m e = refl
  visit-old (suc k) s m e = rw (e, visit)

  pub visit-new : (k : ℕ) (s : St A) (m : ℕ) → enters s m ≡ true
      → visit succ gate act (suc k) s m ≡ leave act m (foldl (visit succ gate act k) (enter m s) (succ m))
  unfolding visit
  visit-new k s m e = rw (e, visit)

  pub visit-met : (k : ℕ) (s : St A) (m : ℕ) → fresh s m ≡ false → visit succ gate act k s m ≡ s
  visit-met k s m e = visit-old k s m (go (gate m))
    where
      go : (b : Bool) → cond b (fresh s m) false ≡ false
      go true = e
      go false = refl

  pub visit-stopped : (k : ℕ) (s : St A) (m : ℕ) → gate m ≡ false → visit succ gate act k s m ≡ s
  visit-stopped k s m e = visit-old k s m (ap (λ (b : Bool). cond b (fresh s m) false) e)

  pub visit-enters : (k : ℕ) (s : St A) (m : ℕ) → gate m ≡ true → fresh s m ≡ true
      → visit succ gate act (suc k) s m ≡ leave act m (foldl (visit succ gate act k) (enter m s) (succ m))
  visit-enters k s m g e = visit-new k s m (ap (λ (b : Bool). cond b (fresh s m) false) g ∙ e)

  -- the marks

  fold-grows : (f : St A → ℕ → St A) → ((s : St A) (x : ℕ) → Grown s.marks (f s x).marks) → (s : St A) (xs : List ℕ) → Grown s.marks (foldl f s xs).marks
  fold-grows f h s [] = grown-refl s.marks
  fold-grows f h s (x ∷ xs) = grown-trans (h s x) (fold-grows f h (f s x) xs)

  pub visit-grown : (k : ℕ) (s : St A) (m : ℕ) → Grown s.marks (visit succ gate act k s m).marks
  unfolding visit
  visit-grown zero s m = grown-refl s.marks
  visit-grown (suc k) s m =
      ⊎_elim
      (λ e. rw (visit-new k s m e) (grown-trans (grown-set s.marks m (enters-true s m e).1) (fold-grows (visit succ gate act k) (visit-grown k) (enter m s) (succ m))))
      (λ e. rw (visit-old (suc k) s m e) (grown-refl s.marks))
      (both (enters s m))

  pub visits-grown : (k : ℕ) (s : St A) (xs : List ℕ) → Grown s.marks (foldl (visit succ gate act k) s xs).marks
  visits-grown k = fold-grows (visit succ gate act k) (visit-grown k)

  pub walk-grown : (s : St A) (xs : List ℕ) → Grown s.marks (walk succ gate act s xs).marks
  unfolding walk
  walk-grown s = visits-grown (length s.marks) s

  -- fuel

  fold-fuel : (k j : ℕ) → ((s : St A) (m : ℕ) → zeros s.marks ≤ k → zeros s.marks ≤ j → visit succ gate act k s m ≡ visit succ gate act j s m)
      → (s : St A) (xs : List ℕ) → zeros s.marks ≤ k → zeros s.marks ≤ j → foldl (visit succ gate act k) s xs ≡ foldl (visit succ gate act j) s xs
  fold-fuel k j h s [] a b = refl
  fold-fuel k j h s (x ∷ xs) a b =
      let r = visit-grown k s x in
      fold-fuel k j h (visit succ gate act k s x) xs (omega (arith, r.fewer)) (omega (arith, r.fewer)) ∙ ap (λ (t : St A). foldl (visit succ gate act j) t xs) (h s x a b)

  -- with fuel for as many places as are not met the result does not depend on it
  pub visit-fuel : (k j : ℕ) (s : St A) (m : ℕ) → zeros s.marks ≤ k → zeros s.marks ≤ j → visit succ gate act k s m ≡ visit succ gate act j s m
  visit-fuel zero j s m a b = let e = none-fresh s.marks m a in visit-met zero s m e ∙ sym (visit-met j s m e)
  visit-fuel (suc k) zero s m a b = let e = none-fresh s.marks m b in visit-met (suc k) s m e ∙ sym (visit-met zero s m e)
  visit-fuel (suc k) (suc j) s m a b =
      ⊎_elim
      (λ e.
      let z = set-zeros s.marks m (enters-true s m e).1 in
      visit-new k s m e ∙ ap (leave act m) (fold-fuel k j (visit-fuel k j) (enter m s) (succ m) (omega arith) (omega arith)) ∙ sym (visit-new j s m e))
      (λ e. visit-old (suc k) s m e ∙ sym (visit-old (suc j) s m e))
      (both (enters s m))

  pub visits-fuel : (k j : ℕ) (s : St A) (xs : List ℕ) → zeros s.marks ≤ k → zeros s.marks ≤ j → foldl (visit succ gate act k) s xs ≡ foldl (visit succ gate act j) s xs
  visits-fuel k j = fold-fuel k j (visit-fuel k j)

  pub walk-fuel : (k : ℕ) (s : St A) (xs : List ℕ) → zeros s.marks ≤ k → walk succ gate act s xs ≡ foldl (visit succ gate act k) s xs
  unfolding walk
  walk-fuel k s xs z = visits-fuel (length s.marks) k s xs (zeros-le s.marks) z

  -- a walk over several roots is the parts of its roots in turn
  pub walk-append : (s : St A) (xs ys : List ℕ) → walk succ gate act s (xs ++ ys) ≡ walk succ gate act (walk succ gate act s xs) ys
  walk-append s xs ys =
      let n : ℕ = length s.marks in
      let t : St A = walk succ gate act s xs in
      walk-fuel n s (xs ++ ys) (zeros-le s.marks)
      ∙ foldl-append (visit succ gate act n) s xs ys
      ∙ ap (λ (u : St A). foldl (visit succ gate act n) u ys) (sym (walk-fuel n s xs (zeros-le s.marks)))
      ∙ sym (walk-fuel n t ys (let g = walk-grown s xs in omega (arith, g.fewer, zeros-le s.marks)))

-- any payload

module _ (succ : ℕ → List ℕ) (gate : ℕ → Bool) {A : Type 0} (act : A → ℕ → A) where
  -- the same marks, and the list put through the action from a
  abbrev pub made_of : A → St (List ℕ) → St A
  made_of a s = record { marks = s.marks; made = foldl act a s.made }

  fold-of : (a : A) (f : St A → ℕ → St A) (g : St (List ℕ) → ℕ → St (List ℕ)) → ((s : St (List ℕ)) (m : ℕ) → f (made_of a s) m ≡ made_of a (g s m))
      → (s : St (List ℕ)) (xs : List ℕ) → foldl f (made_of a s) xs ≡ made_of a (foldl g s xs)
  fold-of a f g h s [] = refl
  fold-of a f g h s (x ∷ xs) = ap (λ (t : St A). foldl f t xs) (h s x) ∙ fold-of a f g h (g s x) xs

  -- a visit with any payload is the fold of its action over what the same visit lists
  pub visit-fold : (a : A) (k : ℕ) (s : St (List ℕ)) (m : ℕ) → visit succ gate act k (made_of a s) m ≡ made_of a (visit succ gate snoc k s m)
  unfolding visit
  visit-fold a zero s m = refl
  visit-fold a (suc k) s m =
      let inner : St (List ℕ) = foldl (visit succ gate snoc k) (enter m s) (succ m) in
      ⊎_elim
      (λ e.
      visit-new succ gate act k (made_of a s) m e
      ∙ ap (leave act m) (fold-of a (visit succ gate act k) (visit succ gate snoc k) (visit-fold a k) (enter m s) (succ m))
      ∙ sym (ap (made_of a) (visit-new succ gate snoc k s m e) ∙ ap (λ (x : A). record { marks = inner.marks; made = x }) (foldl-append act a inner.made (m ∷ []))))
      (λ e. visit-old succ gate act (suc k) (made_of a s) m e ∙ sym (ap (made_of a) (visit-old succ gate snoc (suc k) s m e)))
      (both (cond (gate m) (fresh s m) false))

  pub visits-fold : (a : A) (k : ℕ) (s : St (List ℕ)) (xs : List ℕ) → foldl (visit succ gate act k) (made_of a s) xs ≡ made_of a (foldl (visit succ gate snoc k) s xs)
  visits-fold a k = fold-of a (visit succ gate act k) (visit succ gate snoc k) (visit-fold a k)

  pub walk-fold : (a : A) (s : St (List ℕ)) (xs : List ℕ) → walk succ gate act (made_of a s) xs ≡ made_of a (walk succ gate snoc s xs)
  unfolding walk
  walk-fold a s = visits-fold a (length s.marks) s

  -- from nothing met, what a walk makes is the fold of its action over the post-order
  pub walk-made : (a : A) (n : ℕ) (roots : List ℕ) → (walk succ gate act (record { marks = replicate n 0; made = a }) roots).made ≡ foldl act a (post_order succ gate n roots)
  unfolding post_order
  walk-made a n roots = ap (λ (s : St A). s.made) (walk-fold a (unmet n) roots)

-- with a list as its payload

pub snoc-fold : (l xs : List ℕ) → foldl snoc l xs ≡ l ++ xs
snoc-fold l [] = sym (append-nil l)
snoc-fold l (x ∷ xs) = snoc-fold (snoc l x) xs ∙ append_assoc l (x ∷ []) xs
