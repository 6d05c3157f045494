-- What a post-order lists: each place once, and exactly those that paths through the gate lead to.
-- Assumes nothing.
use mathlib.Core.Path.{◌≡◌, refl, sym, ap, subst, ◌∙◌}
use mathlib.Core.Logic.{⊎_elim}
use mathlib.Core.Bool.{Bool, true, false, cond, true≢false}
use mathlib.Core.List.Memᴰ
use mathlib.Core.List.{List, [], ◌∷◌, ◌++◌, foldl, append_assoc, append-nil, Memᴰ}
use Prim.Native.Nat.{ℕ, zero, suc, ◌+◌, ◌≤◌, ◌<◌}
use native.Mathlib.Omega.{arith}
use lib.ListN.{length, get_or, set, length-set, length-append, length-replicate}
use lib.Seq.{ext_get_or}
use lib.Dec.{ltb}
use borrow.Author.Tests.{lt-ltb, ltb-true}
use Rattle.lists.specs.Words.{is_zero, zeros, keep, elem, bit, marks_of, Distinct}
use Rattle.lists.proofs.Laws.{both, and_parts, and-join, mem-keep, keep-mem, distinct_append, mem-elem, elem_mem, length-marks_of, marks_of-at}
use Rattle.walk.specs.Close.{Bits}
use Rattle.walk.specs.Walk.{St, fresh, enter, leave, visit, walk, Visits, snoc, unmet, everywhere, post_order}
use Rattle.walk.specs.Reach.{Reach, here, step, ReachAny, passing, through}
use Rattle.walk.proofs.Visits.{Grown, grown-refl, grown-trans, stays, set_self, set-only, set_back, set-zeros, none-fresh, fresh_in, fresh-zero, zeros-le, zeros-replicate, unmet-fresh, unmet-in, bits-replicate, visit-old, visit-new, enters-true, visit-met, visit-grown, visits-grown, visits-fold}

-- paths

module _ (succ : ℕ → List ℕ) where
  pub reach-trans : {a b c : ℕ} → Reach succ a b → Reach succ b c → Reach succ a c
  reach-trans {a} {b} {c} (here e) q = subst (λ (m : ℕ). Reach succ m c) e q
  reach-trans (step h p) q = step h (reach-trans p q)

  pub reach-next : {a b c : ℕ} → Reach succ a b → Memᴰ c (succ b) → Reach succ a c
  reach-next p h = reach-trans p (step h (here refl))

-- a path is one along more steps
pub reach-more : (succ succ' : ℕ → List ℕ) → ((m y : ℕ) → Memᴰ y (succ m) → Memᴰ y (succ' m)) → {a b : ℕ} → Reach succ a b → Reach succ' a b
reach-more succ succ' h (here e) = here e
reach-more succ succ' h (step {m} {y} s p) = step (h m y s) (reach-more succ succ' h p)

module _ (succ : ℕ → List ℕ) (gate : ℕ → Bool) where
  -- what any part of a walk does from s to t: the list grows at its end by the newly met places, each once
  pub record Run (s t : St (List ℕ)) : Type 0 where
    pub grown : Grown s.marks t.marks
    pub added : List ℕ
    pub lists : t.made ≡ s.made ++ added
    pub new : (x : ℕ) → Memᴰ x added → (fresh s x ≡ true) × (fresh t x ≡ false) × (gate x ≡ true)
    pub all : (x : ℕ) → fresh s x ≡ true → fresh t x ≡ false → Memᴰ x added
    pub distinct : Distinct added
    pub count : length added + zeros t.marks ≡ zeros s.marks

  run-refl : (s : St (List ℕ)) → Run s s
  unfolding Distinct
  run-refl s = record {
    grown = grown-refl s.marks;
    added = [];
    lists = sym (append-nil s.made);
    new = λ x h. absurd (Memᴰ.not-nil h);
    all = λ x e n. absurd (true≢false (sym e ∙ n));
    distinct = tt;
    count = omega arith;
  }

  run-trans : {s t u : St (List ℕ)} → Run s t → Run t u → Run s u
  run-trans {s} {t} {u} p q = record {
    grown = grown-trans p.grown q.grown;
    added = p.added ++ q.added;
    lists = q.lists ∙ ap (λ (l : List ℕ). l ++ q.added) p.lists ∙ append_assoc s.made p.added q.added;
    new = λ x h.
        ⊎_elim
        (λ a. ((p.new x a).0, stays q.grown x (p.new x a).1, (p.new x a).2))
        (λ b. (p.grown.grow x (q.new x b).0, (q.new x b).1, (q.new x b).2))
        (Memᴰ.append_cases p.added h);
    all = λ x e n. ⊎_elim (λ f. Memᴰ.append_right p.added (q.all x f n)) (λ f. Memᴰ.append_left q.added (p.all x e f)) (both (fresh t x));
    distinct = distinct_append p.added q.added p.distinct q.distinct (λ x a b. true≢false (sym (q.new x b).0 ∙ (p.new x a).1));
    count = let n = length-append p.added q.added in omega (arith, p.count, q.count);
  }

  -- a run between entering m and leaving it
  run_step : {s t : St (List ℕ)} (m : ℕ) → gate m ≡ true → fresh s m ≡ true → Grown s.marks t.marks → Run (enter m s) t → Run s (leave snoc m t)
  unfolding Distinct
  run_step {s} {t} m g f w p = record {
    grown = w;
    added = p.added ++ (m ∷ []);
    lists = ap (λ (l : List ℕ). l ++ (m ∷ [])) p.lists ∙ append_assoc s.made p.added (m ∷ []);
    new = λ x h.
        ⊎_elim
        (λ a. (set_back s.marks m x (p.new x a).0, (p.new x a).1, (p.new x a).2))
        (λ e. let q = Memᴰ.eq_of_singleton e in (rw q f, rw q met, rw q g))
        (Memᴰ.append_cases p.added h);
    all = λ x e n. ⊎_elim (λ q. Memᴰ.append_right p.added (Memᴰ.head q)) (λ q. Memᴰ.append_left (m ∷ []) (p.all x q n)) (set-only s.marks m x e);
    distinct = distinct_append p.added (m ∷ []) p.distinct (λ h. Memᴰ.not-nil h, tt) apart;
    count = let n = length-append p.added (m ∷ []) in let z = set-zeros s.marks m f in omega (arith, p.count);
  }
    where
      met : fresh t m ≡ false
      met = stays p.grown m (set_self s.marks m)

      apart : (x : ℕ) → Memᴰ x p.added → Memᴰ x (m ∷ []) → ⊥
      apart x h e = true≢false (sym (p.new x h).0 ∙ ap (λ (y : ℕ). is_zero (get_or (set s.marks m 1) y 1)) (Memᴰ.eq_of_singleton e) ∙ set_self s.marks m)

  run-fold : (f : St (List ℕ) → ℕ → St (List ℕ)) → ((s : St (List ℕ)) (x : ℕ) → Run s (f s x)) → (s : St (List ℕ)) (xs : List ℕ) → Run s (foldl f s xs)
  run-fold f h s [] = run-refl s
  run-fold f h s (x ∷ xs) = run-trans (h s x) (run-fold f h (f s x) xs)

  pub visit-run : (k : ℕ) (s : St (List ℕ)) (m : ℕ) → Run s (visit succ gate snoc k s m)
  unfolding visit
  visit-run zero s m = run-refl s
  visit-run (suc k) s m =
      ⊎_elim
      (λ e.
      let p = enters-true succ gate snoc s m e in
      let w = subst (λ (t : St (List ℕ)). Grown s.marks t.marks) (visit-new succ gate snoc k s m e) (visit-grown succ gate snoc (suc k) s m) in
      rw (visit-new succ gate snoc k s m e) (run_step m p.0 p.1 w (run-fold (visit succ gate snoc k) (visit-run k) (enter m s) (succ m))))
      (λ e. rw (visit-old succ gate snoc (suc k) s m e) (run-refl s))
      (both (cond (gate m) (fresh s m) false))

  pub visits-run : (k : ℕ) (s : St (List ℕ)) (xs : List ℕ) → Run s (foldl (visit succ gate snoc k) s xs)
  visits-run k = run-fold (visit succ gate snoc k) (visit-run k)

  pub walk-run : (s : St (List ℕ)) (xs : List ℕ) → Run s (walk succ gate snoc s xs)
  unfolding walk
  walk-run s = visits-run (length s.marks) s

  -- a root that passes the gate is met
  visit-meets : (k : ℕ) (s : St (List ℕ)) (m : ℕ) → zeros s.marks ≤ k → gate m ≡ true → fresh (visit succ gate snoc k s m) m ≡ false
  visit-meets zero s m z g = let e = none-fresh s.marks m z in ap (λ (t : St (List ℕ)). fresh t m) (visit-met succ gate snoc zero s m e) ∙ e
  visit-meets (suc k) s m z g =
      ⊎_elim
      (λ e.
      let n = ap (λ (b : Bool). cond b (fresh s m) false) g ∙ e in
      ap (λ (t : St (List ℕ)). fresh t m) (visit-new succ gate snoc k s m n) ∙ stays (visits-grown succ gate snoc k (enter m s) (succ m)) m (set_self s.marks m))
      (λ e. ap (λ (t : St (List ℕ)). fresh t m) (visit-met succ gate snoc (suc k) s m e) ∙ e)
      (both (fresh s m))

  visits-meet : (k : ℕ) (s : St (List ℕ)) (xs : List ℕ) → zeros s.marks ≤ k → (y : ℕ) → Memᴰ y xs → gate y ≡ true → fresh (foldl (visit succ gate snoc k) s xs) y ≡ false
  visits-meet k s [] z y h g = absurd (Memᴰ.not-nil h)
  visits-meet k s (x ∷ xs) z y h g =
      let r = visit-grown succ gate snoc k s x in
      ⊎_elim
      (λ e. stays (visits-grown succ gate snoc k (visit succ gate snoc k s x) xs) y (rw e (visit-meets k s x z (rw e at g))))
      (λ t. visits-meet k (visit succ gate snoc k s x) xs (omega (arith, r.fewer)) y t g)
      (Memᴰ.cases_cons h)

  -- what is newly met from s to t has all its successors that pass the gate met in t
  Followed : St (List ℕ) → St (List ℕ) → Type 0
  Followed s t = (x : ℕ) → fresh s x ≡ true → fresh t x ≡ false → (y : ℕ) → Memᴰ y (succ x) → gate y ≡ true → fresh t y ≡ false

  fold-followed : (k : ℕ) → ((s : St (List ℕ)) (m : ℕ) → zeros s.marks ≤ k → Followed s (visit succ gate snoc k s m)) → (s : St (List ℕ)) (xs : List ℕ) → zeros s.marks ≤ k → Followed s (foldl (visit succ gate snoc k) s xs)
  unfolding Followed
  fold-followed k h s [] z x f n y e g = absurd (true≢false (sym f ∙ n))
  fold-followed k h s (m ∷ xs) z x f n y e g =
      let r = visit-grown succ gate snoc k s m in
      let t : St (List ℕ) = visit succ gate snoc k s m in
      let rest : Followed t (foldl (visit succ gate snoc k) t xs) = fold-followed k h t xs (omega (arith, r.fewer)) in
      ⊎_elim
      (λ q. rest x q n y e g)
      (λ q. stays (visits-grown succ gate snoc k t xs) y (h s m z x f q y e g))
      (both (fresh t x))

  visit-followed : (k : ℕ) (s : St (List ℕ)) (m : ℕ) → zeros s.marks ≤ k → Followed s (visit succ gate snoc k s m)
  unfolding Followed
  visit-followed zero s m z x f n y e g = absurd (true≢false (sym f ∙ none-fresh s.marks x z))
  visit-followed (suc k) s m z x f n y e g =
      ⊎_elim
      (λ w.
      let q = visit-new succ gate snoc k s m w in
      let z' : zeros (enter m s).marks ≤ k = omega (arith, set-zeros s.marks m (enters-true succ gate snoc s m w).1) in
      let n' : fresh (foldl (visit succ gate snoc k) (enter m s) (succ m)) x ≡ false = sym (ap (λ (t : St (List ℕ)). fresh t x) q) ∙ n in
      rw q
      (⊎_elim (λ p. visits-meet k (enter m s) (succ m) z' y (rw p at e) g) (λ p. fold-followed k (visit-followed k) (enter m s) (succ m) z' x p n' y e g) (set-only s.marks m x f)))
      (λ w. absurd (true≢false (sym f ∙ sym (ap (λ (t : St (List ℕ)). fresh t x) (visit-old succ gate snoc (suc k) s m w)) ∙ n)))
      (both (cond (gate m) (fresh s m) false))

  -- what is newly met is led to by a path through the gate
  module _ (n : ℕ) where
    fold-reach : (k : ℕ) → ((s : St (List ℕ)) (m x : ℕ) → length s.marks ≡ n → fresh s x ≡ true → fresh (visit succ gate snoc k s m) x ≡ false → (passing gate n m ≡ true) × Reach (through succ gate n) m x)
        → (s : St (List ℕ)) (xs : List ℕ) (x : ℕ) → length s.marks ≡ n → fresh s x ≡ true → fresh (foldl (visit succ gate snoc k) s xs) x ≡ false
        → ReachAny (through succ gate n) (keep (passing gate n) xs) x
    unfolding ReachAny
    fold-reach k h s [] x l f e = absurd (true≢false (sym f ∙ e))
    fold-reach k h s (m ∷ xs) x l f e =
        let t : St (List ℕ) = visit succ gate snoc k s m in
        ⊎_elim
        (λ q.
        let a = fold-reach k h t xs x ((visit-grown succ gate snoc k s m).len ∙ l) q e in
        let b = mem-keep (passing gate n) xs a.1 in
        (a.0, keep-mem (passing gate n) (m ∷ xs) (Memᴰ.tail b.0) b.1, a.2))
        (λ q. let a = h s m x l f q in (m, keep-mem (passing gate n) (m ∷ xs) (Memᴰ.head refl) a.0, a.1))
        (both (fresh t x))

    visit-reach : (k : ℕ) (s : St (List ℕ)) (m x : ℕ) → length s.marks ≡ n → fresh s x ≡ true → fresh (visit succ gate snoc k s m) x ≡ false
        → (passing gate n m ≡ true) × Reach (through succ gate n) m x
    unfolding ReachAny visit
    visit-reach zero s m x l f e = absurd (true≢false (sym f ∙ e))
    visit-reach (suc k) s m x l f e =
        ⊎_elim
        (λ w.
        let p = enters-true succ gate snoc s m w in
        let i = (fresh_in s.marks m p.1).0 in
        let e' : fresh (foldl (visit succ gate snoc k) (enter m s) (succ m)) x ≡ false = sym (ap (λ (t : St (List ℕ)). fresh t x) (visit-new succ gate snoc k s m w)) ∙ e in (
          and-join (gate m) (ltb m n) p.0 (lt-ltb m n (omega arith)),
          ⊎_elim
              (λ q. here q)
              (λ q. let a = fold-reach k (visit-reach k) (enter m s) (succ m) x (length-set s.marks m 1 ∙ l) q e' in step a.1 a.2)
              (set-only s.marks m x f),
        ))
        (λ w. absurd (true≢false (sym f ∙ sym (ap (λ (t : St (List ℕ)). fresh t x) (visit-old succ gate snoc (suc k) s m w)) ∙ e)))
        (both (cond (gate m) (fresh s m) false))

-- visits with any action, from any marks

module _ (succ : ℕ → List ℕ) (gate : ℕ → Bool) {A : Type 0} (act : A → ℕ → A) {s t : St A} {xs : List ℕ} (v : Visits succ gate act s xs t) where
  -- the same visits, listing
  abbrev plain : St (List ℕ)
  plain = record { marks = s.marks; made = [] }

  abbrev listing : St (List ℕ)
  listing = foldl (visit succ gate snoc (zeros s.marks)) plain xs

  same-marks : listing.marks ≡ t.marks
  same-marks = ap (λ (u : St A). u.marks) (sym (visits-fold succ gate act s.made (zeros s.marks) plain xs) ∙ v.same (zeros s.marks) (omega arith))

  met : (x : ℕ) → fresh t x ≡ false → fresh listing x ≡ false
  met x e = ap (λ (marks : List ℕ). is_zero (get_or marks x 1)) same-marks ∙ e

  -- a place that is visited is met
  pub visited-met : (y : ℕ) → Memᴰ y xs → gate y ≡ true → fresh t y ≡ false
  visited-met y h g = sym (ap (λ (marks : List ℕ). is_zero (get_or marks y 1)) same-marks) ∙ visits-meet succ gate (zeros s.marks) plain xs (omega arith) y h g

  -- with what is newly met its successors are met
  pub visited-followed : (x : ℕ) → fresh s x ≡ true → fresh t x ≡ false → (y : ℕ) → Memᴰ y (succ x) → gate y ≡ true → fresh t y ≡ false
  unfolding Followed
  visited-followed x f e y h g =
      sym (ap (λ (marks : List ℕ). is_zero (get_or marks y 1)) same-marks)
      ∙ fold-followed succ gate (zeros s.marks) (visit-followed succ gate (zeros s.marks)) plain xs (omega arith) x f (met x e) y h g

  -- what is newly met is led to
  pub visited-reach : (x : ℕ) → fresh s x ≡ true → fresh t x ≡ false → ReachAny (through succ gate (length s.marks)) (keep (passing gate (length s.marks)) xs) x
  visited-reach x f e = fold-reach succ gate (length s.marks) (zeros s.marks) (visit-reach succ gate (length s.marks) (zeros s.marks)) plain xs x refl f (met x e)

-- the post-order

module _ (succ : ℕ → List ℕ) (gate : ℕ → Bool) (n : ℕ) (roots : List ℕ) where
  -- the walk that makes it
  abbrev whole : St (List ℕ)
  whole = walk succ gate snoc (unmet n) roots

  whole_run : Run succ gate (unmet n) whole
  whole_run = walk-run succ gate (unmet n) roots

  -- it lists what is newly met
  pub order-met : (x : ℕ) → Memᴰ x (post_order succ gate n roots) → (x < n) × (fresh whole x ≡ false) × (gate x ≡ true)
  unfolding post_order
  order-met x h =
      let a = whole_run.new x (subst (Memᴰ x) whole_run.lists h) in
      (unmet-in n x a.0, a.1, a.2)

  pub met-order : (x : ℕ) → x < n → fresh whole x ≡ false → Memᴰ x (post_order succ gate n roots)
  unfolding post_order
  met-order x l e = subst (Memᴰ x) (sym whole_run.lists) (whole_run.all x (unmet-fresh n x l) e)

  pub order-distinct : Distinct (post_order succ gate n roots)
  unfolding post_order
  order-distinct = subst Distinct (sym whole_run.lists) whole_run.distinct

  pub order-length : length (post_order succ gate n roots) ≤ n
  unfolding post_order
  order-length = let e = ap length whole_run.lists in let c = whole_run.count in omega (arith, zeros-replicate n)

  -- each successor of a listed place is listed too, where it passes
  pub order-followed : (x y : ℕ) → Memᴰ x (post_order succ gate n roots) → Memᴰ y (succ x) → gate y ≡ true → y < n → Memᴰ y (post_order succ gate n roots)
  unfolding Followed walk
  order-followed x y h s g l =
      let a = order-met x h in
      met-order y l (fold-followed succ gate (length (unmet n).marks) (visit-followed succ gate (length (unmet n).marks)) (unmet n) roots (zeros-le (unmet n).marks) x (unmet-fresh n x a.0) a.1 y s g)

  order-root : (r : ℕ) → Memᴰ r roots → gate r ≡ true → r < n → Memᴰ r (post_order succ gate n roots)
  unfolding walk
  order-root r h g l = met-order r l (visits-meet succ gate (length (unmet n).marks) (unmet n) roots (zeros-le (unmet n).marks) r h g)

  -- the listed places are those that paths through the gate lead to
  pub order-reach : (x : ℕ) → Memᴰ x (post_order succ gate n roots) → ReachAny (through succ gate n) (keep (passing gate n) roots) x
  unfolding walk
  order-reach x h =
      let a = order-met x h in
      fold-reach succ gate n (length (unmet n).marks) (visit-reach succ gate n (length (unmet n).marks)) (unmet n) roots x (length-replicate n 0) (unmet-fresh n x a.0) a.1

  reach-from : {r x : ℕ} → Memᴰ r (post_order succ gate n roots) → Reach (through succ gate n) r x → Memᴰ x (post_order succ gate n roots)
  reach-from h (here e) = subst (λ (y : ℕ). Memᴰ y (post_order succ gate n roots)) (sym e) h
  reach-from h (step {m} {y} s p) =
      let a = mem-keep (passing gate n) (succ m) s in
      let b = and_parts (gate y) (ltb y n) a.1 in
      reach-from (order-followed m y h a.0 b.0 (ltb-true y n b.1)) p

  pub reach-order : (x : ℕ) → ReachAny (through succ gate n) (keep (passing gate n) roots) x → Memᴰ x (post_order succ gate n roots)
  unfolding ReachAny
  reach-order x p =
      let a = mem-keep (passing gate n) roots p.1 in
      let b = and_parts (gate p.0) (ltb p.0 n) a.1 in
      reach-from (order-root p.0 a.0 b.0 (ltb-true p.0 n b.1)) p.2

  -- the marks that the walk leaves are those of the listed places
  abbrev listed : ℕ → Bool
  listed x = elem x (post_order succ gate n roots)

  whole-len : length whole.marks ≡ n
  whole-len = whole_run.grown.len ∙ length-replicate n 0

  mark-at : (i : ℕ) → i < n → get_or whole.marks i 0 ≡ bit (listed i)
  unfolding Bits
  mark-at i l =
      ⊎_elim
      (λ e. (fresh_in whole.marks i e).1 ∙ sym (ap bit (⊎_elim (λ q. absurd (true≢false (sym e ∙ (order-met i (elem_mem i (post_order succ gate n roots) q)).1))) (λ q. q) (both (listed i)))))
      (λ e. one (get_or whole.marks i 0) (whole_run.grown.bits (bits-replicate n) i) (λ z. true≢false (sym (fresh-zero whole.marks i (let w = whole-len in omega arith) z) ∙ e)) ∙ sym (ap bit (mem-elem i (post_order succ gate n roots) (met-order i l e))))
      (both (fresh whole i))
    where
      one : (x : ℕ) → x ≤ 1 → (x ≡ 0 → ⊥) → x ≡ 1
      one zero l e = absurd (e refl)
      one (suc x) l e = omega arith

  pub order-marks : whole.marks ≡ marks_of listed n
  order-marks =
      ext_get_or 0 whole.marks (marks_of listed n) (whole-len ∙ sym (length-marks_of listed n))
      (λ i l. let w = whole-len in let k : i < n = omega arith in mark-at i k ∙ sym (marks_of-at listed n i k))

-- where every place passes and all successors are below n, plain paths

module _ (succ : ℕ → List ℕ) (n : ℕ) (inside : (m y : ℕ) → m < n → Memᴰ y (succ m) → y < n) (roots : List ℕ) (start : (r : ℕ) → Memᴰ r roots → r < n) where
  pub all-reach : (x : ℕ) → Memᴰ x (post_order succ everywhere n roots) → ReachAny succ roots x
  unfolding ReachAny
  all-reach x h =
      let a = order-reach succ everywhere n roots x h in
      (a.0, (mem-keep (passing everywhere n) roots a.1).0, reach-more (through succ everywhere n) succ (λ m y s. (mem-keep (passing everywhere n) (succ m) s).0) a.2)

  restrict : {r x : ℕ} → r < n → Reach succ r x → Reach (through succ everywhere n) r x
  restrict l (here e) = here e
  restrict l (step {m} {y} s p) = let k = inside m y l s in step (keep-mem (passing everywhere n) (succ m) s (lt-ltb y n k)) (restrict k p)

  pub reach-all : (x : ℕ) → ReachAny succ roots x → Memᴰ x (post_order succ everywhere n roots)
  unfolding ReachAny
  reach-all x p =
      let l = start p.0 p.1 in
      reach-order succ everywhere n roots x (p.0, keep-mem (passing everywhere n) roots p.1 (lt-ltb p.0 n l), restrict l p.2)
