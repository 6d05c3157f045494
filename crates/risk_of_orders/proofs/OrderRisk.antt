-- What the three passes over an entry's orders put at risk is the order risk.
-- Assumes nothing.
use Rattle.std.specs.Prelude.{◌≡◌, ℕ, zero, ◌<◌, Bool, true, false, cond, not, ◌&&◌, ◌||◌, eqb, ltb, ◌⊎◌, List, [], ◌∷◌, ◌++◌, length, get_or, replicate}
use mathlib.Core.Path.{refl, sym, ap, ◌∙◌}
use mathlib.Core.Logic.{inl, inr, ⊎_elim}
use mathlib.Core.List.{foldl, Memᴰ}
use native.Mathlib.Omega.{arith}
use lib.ListN.{length-replicate, get_or-replicate}
use Rattle.lists.specs.Words.{is_zero, keep, any, elem, has}
use Rattle.lists.proofs.Laws.{both, not-true, and_parts, and-join, or_parts, or_left, or_right, iff-eq, any-mem, mem-any, mem-keep, keep-mem, elem_mem, mem-elem, has-not}
use Rattle.tables.specs.Accepted.{Below}
use Rattle.tables.specs.Lookups.{greater_of}
use Rattle.tables.proofs.Accepted.{below-mem}
use Rattle.risk_of_orders.specs.Risk.{before, just_one, early, is_flagged, order_risk}
use Rattle.risk_of_orders.specs.inner.Early.{rank, highest}
use Rattle.risk_of_orders.specs.inner.Steps.{join, listed, puts, puts_of, unmet, overtaken, Ranked}
use Rattle.risk_of_orders.proofs.Order.{before-mem}
use Rattle.risk_of_orders.proofs.Risks.{one-flagged}
use Rattle.risk_of_orders.proofs.Blame.{blames, risk-blamed}
use Rattle.risk_of_orders.proofs.Early.{early-highest}
use Rattle.risk_of_orders.proofs.Joins.{has_join, join-join, join-cong}

-- the greatest of a list depends on its members alone
highest-same : (f g : ℕ → ℕ) (xs : List ℕ) → ((x : ℕ) → Memᴰ x xs → f x ≡ g x) → highest f xs ≡ highest g xs
unfolding highest
highest-same f g xs h = from zero xs h
  where
    from : (a : ℕ) (xs : List ℕ) → ((x : ℕ) → Memᴰ x xs → f x ≡ g x) → foldl (λ (a x : ℕ). greater_of a (f x)) a xs ≡ foldl (λ (a x : ℕ). greater_of a (g x)) a xs
    from a [] h = refl
    from a (x ∷ xs) h =
        ap (λ (b : ℕ). foldl (λ (a x : ℕ). greater_of a (f x)) (greater_of a b) xs) (h x (mathlib.Core.List.Memᴰ.head refl)) ∙ from (greater_of a (g x)) xs (λ y m. h y (mathlib.Core.List.Memᴰ.tail m))

module _ (sensitive eligible expected actual hosts : List ℕ) where
  abbrev E : List ℕ
  E = keep (has sensitive) expected

  abbrev A : List ℕ
  A = keep (has sensitive) actual

  abbrev Flagged : ℕ → Bool
  Flagged = is_flagged (has sensitive) (has eligible) expected actual hosts

  abbrev Risk : ℕ → Bool
  Risk = order_risk (has sensitive) (has eligible) expected actual hosts

  -- a flagged module puts at risk whom it blames
  puts-risk : (x m : ℕ) → Memᴰ x (E ++ A) → Flagged x ≡ true → puts eligible hosts x m ≡ true → Risk m ≡ true
  puts-risk x m h f p =
      let q = and_parts (has eligible m) _ p in
      risk-blamed (has sensitive) (has eligible) expected actual hosts m
      ∙ and-join (has eligible m) _ q.0 (mem-any (blames (has sensitive) (has eligible) expected actual hosts m) (E ++ A) h (and-join (Flagged x) _ f q.1))

  -- how a module came to be flagged
  Cause : ℕ → Type 0
  Cause x = (Memᴰ x E × (elem x A ≡ false)) ⊎ ((Memᴰ x A × (elem x E ≡ false)) ⊎ (Memᴰ x E × (early (has sensitive) (has eligible) expected actual hosts x ≡ true)))

  flagged-cause : (x : ℕ) → Flagged x ≡ true → Cause x
  unfolding is_flagged Cause
  flagged-cause x f =
      ⊎_elim
      (λ j. ⊎_elim (λ q. let r = and_parts (elem x E) _ q in inl (elem_mem x E r.0, not-true (elem x A) r.1))
      (λ q. let r = and_parts (not (elem x E)) _ q in inr (inl (elem_mem x A r.1, not-true (elem x E) r.0)))
      (or_parts (elem x E && not (elem x A)) _ j))
      (λ j. let r = and_parts (elem x E) _ j in inr (inr (elem_mem x E r.0, r.1)))
      (or_parts (just_one (elem x E) (elem x A)) _ f)

  -- what is at risk is put there by a flagged module
  risk-puts : (m : ℕ) → Risk m ≡ true → (x : ℕ) × (Flagged x ≡ true) × (puts eligible hosts x m ≡ true)
  risk-puts m r =
      let q = and_parts (has eligible m) _ (sym (risk-blamed (has sensitive) (has eligible) expected actual hosts m) ∙ r) in
      let y = any-mem (blames (has sensitive) (has eligible) expected actual hosts m) (E ++ A) q.1 in
      let z = and_parts (Flagged y.0) _ y.2 in
      (y.0, z.0, and-join (has eligible m) _ q.0 z.1)

  -- the marks that the passes read
  module _ (n : ℕ) (places wanted : List ℕ) (in_e : Below n expected) (in_a : Below n actual)
      (size : length places ≡ n) (ranked : Ranked A places) (marked : wanted ≡ join (replicate n 0) (listed expected sensitive)) where
    placed : (x : ℕ) → x < n → get_or places x 0 ≡ rank A x
    unfolding Ranked
    placed x l = ranked x (omega arith)

    has-placed : (x : ℕ) → x < n → has places x ≡ elem x A
    unfolding rank
    has-placed x l = ap (λ (k : ℕ). not (is_zero k)) (placed x l) ∙ ⊎_elim (λ e. rw e) (λ e. rw e) (both (elem x A))

    has-wanted : (x : ℕ) → x < n → has wanted x ≡ elem x E
    has-wanted x l =
        let zeros : List ℕ = replicate n 0 in
        let z : x < length zeros = rw length-replicate l in
        ap (λ (w : List ℕ). has w x) marked
        ∙ has_join (replicate n 0) (listed expected sensitive) x z
        ∙ ap (λ (b : Bool). b || listed expected sensitive x) (has-not (replicate n 0) x (get_or-replicate n x 0 0 l))
        ∙ any-kept (has sensitive) x expected
      where
        any-kept : (s : ℕ → Bool) (x : ℕ) (xs : List ℕ) → any (λ (y : ℕ). s y && eqb x y) xs ≡ elem x (keep s xs)
        any-kept s x [] = refl
        any-kept s x (y ∷ xs) =
            ⊎_elim (λ e. rw e (ap (λ (b : Bool). cond (eqb x y) true b) (any-kept s x xs))) (λ e. rw e (any-kept s x xs)) (both (s y))

    in-E : (x : ℕ) → Memᴰ x E → x < n
    in-E x h = below-mem expected in_e (mem-keep (has sensitive) expected h).0

    in-A : (x : ℕ) → Memᴰ x A → x < n
    in-A x h = below-mem actual in_a (mem-keep (has sensitive) actual h).0

    -- the pass by the greatest place so far tells which are early
    early-same : (x : ℕ) → Memᴰ x E → overtaken sensitive places expected x ≡ early (has sensitive) (has eligible) expected actual hosts x
    early-same x h =
        let l = in-E x h in
        let s = (mem-keep (has sensitive) expected h).1 in
        let top = highest (λ (y : ℕ). get_or places y 0) (before x E) in
        ap (λ (b : Bool). b && (has places x && ltb (get_or places x 0) top)) s
        ∙ ap (λ (b : Bool). b && ltb (get_or places x 0) top) (has-placed x l)
        ∙ ap (λ (k : ℕ). elem x A && ltb k top) (placed x l)
        ∙ ap (λ (k : ℕ). elem x A && ltb (rank A x) k) (highest-same (λ (y : ℕ). get_or places y 0) (rank A) (before x E) (λ y m. placed y (in-E y (before-mem x E m))))
        ∙ sym (early-highest (has sensitive) (has eligible) expected actual hosts x)

    abbrev passes : ℕ → Bool
    passes m = (puts_of eligible hosts (unmet sensitive places) expected m || puts_of eligible hosts (unmet sensitive wanted) actual m) || puts_of eligible hosts (overtaken sensitive places expected) expected m

    passes-risk : (m : ℕ) → passes m ≡ Risk m
    unfolding is_flagged Cause
    passes-risk m = iff-eq (passes m) (Risk m) sound full
      where
        by : (test : ℕ → Bool) (order : List ℕ) → ((x : ℕ) → Memᴰ x order → test x ≡ true → Memᴰ x (E ++ A) × (Flagged x ≡ true)) → puts_of eligible hosts test order m ≡ true → Risk m ≡ true
        by test order h e =
            let y = any-mem (λ (x : ℕ). test x && puts eligible hosts x m) order e in
            let z = and_parts (test y.0) _ y.2 in
            let f = h y.0 y.1 z.0 in
            puts-risk y.0 m f.0 f.1 z.1

        not-placed : (x : ℕ) → Memᴰ x expected → unmet sensitive places x ≡ true → Memᴰ x (E ++ A) × (Flagged x ≡ true)
        not-placed x k t =
            let q = and_parts (has sensitive x) _ t in
            let h : Memᴰ x E = keep-mem (has sensitive) expected k q.0 in
            let a : elem x A ≡ false = sym (has-placed x (in-E x h)) ∙ not-true (has places x) q.1 in
            (mathlib.Core.List.Memᴰ.append_left A h, one-flagged (has sensitive) (has eligible) expected actual hosts x (rw (mem-elem x E h, a)))

        not-wanted : (x : ℕ) → Memᴰ x actual → unmet sensitive wanted x ≡ true → Memᴰ x (E ++ A) × (Flagged x ≡ true)
        not-wanted x k t =
            let q = and_parts (has sensitive x) _ t in
            let h : Memᴰ x A = keep-mem (has sensitive) actual k q.0 in
            let a : elem x E ≡ false = sym (has-wanted x (in-A x h)) ∙ not-true (has wanted x) q.1 in
            (mathlib.Core.List.Memᴰ.append_right E h, one-flagged (has sensitive) (has eligible) expected actual hosts x (rw (a, mem-elem x A h)))

        passed : (x : ℕ) → Memᴰ x expected → overtaken sensitive places expected x ≡ true → Memᴰ x (E ++ A) × (Flagged x ≡ true)
        passed x k t =
            let h : Memᴰ x E = keep-mem (has sensitive) expected k (and_parts (has sensitive x) _ t).0 in
            (mathlib.Core.List.Memᴰ.append_left A h, or_right (just_one (elem x E) (elem x A)) _ (and-join (elem x E) _ (mem-elem x E h) (sym (early-same x h) ∙ t)))

        sound : passes m ≡ true → Risk m ≡ true
        sound e =
            ⊎_elim
            (λ p. ⊎_elim (by (unmet sensitive places) expected not-placed) (by (unmet sensitive wanted) actual not-wanted) (or_parts (puts_of eligible hosts (unmet sensitive places) expected m) _ p))
            (by (overtaken sensitive places expected) expected passed)
            (or_parts (puts_of eligible hosts (unmet sensitive places) expected m || puts_of eligible hosts (unmet sensitive wanted) actual m) _ e)

        one : (test : ℕ → Bool) (order : List ℕ) (x : ℕ) → Memᴰ x order → test x ≡ true → puts eligible hosts x m ≡ true → puts_of eligible hosts test order m ≡ true
        one test order x h t p = mem-any (λ (y : ℕ). test y && puts eligible hosts y m) order h (and-join (test x) _ t p)

        full : Risk m ≡ true → passes m ≡ true
        full r =
            let w = risk-puts m r in
            let x = w.0 in
            let p = w.2 in
            ⊎_elim
            (λ a.
            let k = mem-keep (has sensitive) expected a.0 in
            or_left _ _ (or_left _ _ (one (unmet sensitive places) expected x k.0 (and-join (has sensitive x) _ k.1 (ap not (has-placed x (in-E x a.0) ∙ a.1))) p)))
            (⊎_elim
            (λ b.
            let k = mem-keep (has sensitive) actual b.0 in
            or_left _ _ (or_right (puts_of eligible hosts (unmet sensitive places) expected m) _ (one (unmet sensitive wanted) actual x k.0 (and-join (has sensitive x) _ k.1 (ap not (has-wanted x (in-A x b.0) ∙ b.1))) p)))
            (λ d.
            let k = mem-keep (has sensitive) expected d.0 in
            or_right (puts_of eligible hosts (unmet sensitive places) expected m || puts_of eligible hosts (unmet sensitive wanted) actual m) _ (one (overtaken sensitive places expected) expected x k.0 (early-same x d.0 ∙ d.1) p)))
            (flagged-cause x w.1)

    -- the three passes, one after the other
    pub passed-risk : (old first second third : List ℕ) → first ≡ join old (puts_of eligible hosts (unmet sensitive places) expected)
        → second ≡ join first (puts_of eligible hosts (unmet sensitive wanted) actual)
        → third ≡ join second (puts_of eligible hosts (overtaken sensitive places expected) expected) → third ≡ join old Risk
    passed-risk old first second third e f g =
        let a = puts_of eligible hosts (unmet sensitive places) expected in
        let b = puts_of eligible hosts (unmet sensitive wanted) actual in
        let d = puts_of eligible hosts (overtaken sensitive places expected) expected in
        g
        ∙ ap (λ (s : List ℕ). join s d) (f ∙ ap (λ (s : List ℕ). join s b) e ∙ join-join old a b)
        ∙ join-join old (λ (m : ℕ). a m || b m) d
        ∙ join-cong old passes Risk (λ m l. passes-risk m)
