-- The load theorem of specs/Load, inhabited.
-- Assumes nothing.
use Rattle.std.specs.Prelude.{None}
use mathlib.Core.Path.{◌≡◌, refl, sym, ap, subst, ◌∙◌}
use mathlib.Core.Logic.{◌⊎◌, inl, inr, ⊎_elim}
use mathlib.Core.Bool.{Bool, true, false, cond, not, ◌&&◌, true≢false}
use mathlib.Core.List.Memᴰ
use mathlib.Core.List.{List, [], ◌∷◌, ◌++◌, foldl, foldl-append, flat_map, Memᴰ, map}
use Prim.Native.Nat.{ℕ}
use native.Mathlib.Omega.{arith}
use lib.ListN.{length, get_or, length-append}
use lib.Dec.{eqb, ltb}
use borrow.Author.Tests.{eqb-true}
use Rattle.lists.specs.Words.{up_to, keep, has}
use Rattle.lists.proofs.Laws.{both, not-true, and_parts, and-join, or_parts, or_left, iff-eq, mem-keep, keep-mem, keep_append, keep-cong, keep_all, keep-none, keep-keep, every-mem, up_to-mem, has_in}
use Rattle.lists.proofs.Members.{mem-flat, flat-mem}
use Rattle.walk.specs.Walk.{St, visit, walk, snoc, unmet, everywhere, post_order}
use Rattle.walk.specs.Reach.{Reach, here, step}
use Rattle.walk.proofs.Visits.{zeros-le, visits-grown}
use Rattle.walk.proofs.Orders.{visits-run}
use Rattle.tables.specs.Project.{Project}
use Rattle.tables.specs.Readings.{modules, chunks, is_normal, flagged, wrapped, is_eager, any_target, row_targets, targets_of, rows_of, values_of, members_of, is_analysed, entry_chunk_of}
use Rattle.tables.specs.Refusal.{refusal}
use Rattle.tables.proofs.Accepted.{accepted}
use Rattle.tables.proofs.OwnerRows.{mem-rows}
use Rattle.expected_visit.specs.Expected.{expected}
use Rattle.expected_visit.specs.OfProject.{expected_of}
use Rattle.expected_visit.proofs.Laws.{reached-path}
use Rattle.load_order.specs.LoadOrder.{load_order}
use Rattle.entry_run.specs.Actual.{Executed, executes, triggered, unwrapped, eager_members, run_of, actual_of}
use Rattle.entry_run.specs.inner.InTurn.{chunk_order, hosts_in_turn}
use Rattle.entry_run.proofs.Actuals.{run-order, turn-host}
use Rattle.entry_run.proofs.Chunks.{run-in-turn}
use Rattle.sensitivity.specs.Marks.{sensitive}
use Rattle.sensitivity.proofs.Marks.{sensitive-is}
use Rattle.eligibility.specs.Eligible.{eligible}
use Rattle.wrap_rules.specs.Plan.{expected_sensitive_of, reached}
use Rattle.at_risk.specs.Promise.{actual_sensitive_of}
use Rattle.order_analysis.specs.Promise.{whole_plan}
use Rattle.promises.specs.Statements.{WholePlanIsLeast, WholePlanKeepsTheOrder, AllEligible, SameOrder, unplanned}
use Rattle.load_promises.specs.Load.{implies, planned_wraps, normal_imports, belongs, members_belong, Plain, PlannedLoadKeepsTheOrder}
use Rattle.promises.proofs.Theorems.{analysed-root, whole_plan_is_least, whole_plan_keeps_the_order}
use Rattle.load_promises.proofs.LoadWalks.{Like, like-refl, Outside, visits-outside, Aligned, end, left, right, two, aligned-append, Together, visits-together}
use Rattle.load_promises.proofs.LoadRows.{implied, led, woken, RowCase, none, outer, inner, row-case, import-normal, import-reached, root-reached, reached-eligible, no-require, import-unplanned, woken-import, two_at, else-as-written}

-- lists

no_member : (xs : List ℕ) {x : ℕ} → length xs ≡ 0 → Memᴰ x xs → ⊥
no_member [] e h = Memᴰ.not-nil h
no_member (y ∷ xs) e h = omega arith

added-nothing : (xs ys : List ℕ) → xs ++ ys ≡ xs → ys ≡ []
added-nothing xs [] e = refl
added-nothing xs (y ∷ ys) e = let n = length-append xs (y ∷ ys) in let m = ap length e in absurd (omega arith)

keep-swap : (f g : ℕ → Bool) (xs : List ℕ) → keep f (keep g xs) ≡ keep g (keep f xs)
keep-swap f g xs = keep-keep f g xs ∙ keep-cong (λ (x : ℕ). g x && f x) (λ (x : ℕ). f x && g x) xs (λ x h. swap (g x) (f x)) ∙ sym (keep-keep g f xs)
  where
    swap : (a b : Bool) → (a && b) ≡ (b && a)
    swap true true = refl
    swap true false = refl
    swap false true = refl
    swap false false = refl

-- of a list without members of a set all are outside it, and the other way round
all-outside : (f : ℕ → Bool) (xs : List ℕ) → keep f xs ≡ [] → keep (λ (x : ℕ). not (f x)) xs ≡ xs
all-outside f xs e = keep_all (λ (x : ℕ). not (f x)) xs (λ x h. ⊎_elim (λ q. absurd (Memᴰ.not-nil (subst (Memᴰ x) e (keep-mem f xs h q)))) (λ q. ap not q) (both (f x)))

all-inside : (f : ℕ → Bool) (xs : List ℕ) → keep (λ (x : ℕ). not (f x)) xs ≡ [] → keep f xs ≡ xs
all-inside f xs e = keep_all f xs (λ x h. ⊎_elim (λ q. q) (λ q. absurd (Memᴰ.not-nil (subst (Memᴰ x) e (keep-mem (λ (x : ℕ). not (f x)) xs h (ap not q))))) (both (f x)))

-- what is listed from `eager` on is in a set, and what was listed before is not
split : (f : ℕ → Bool) (eager rest : List ℕ) → keep f eager ≡ [] → keep (λ (x : ℕ). not (f x)) eager ≡ keep (λ (x : ℕ). not (f x)) (eager ++ rest)
    → eager ++ rest ≡ keep (λ (x : ℕ). not (f x)) (eager ++ rest) ++ keep f (eager ++ rest)
split f eager rest e o =
    let g : ℕ → Bool = λ (x : ℕ). not (f x) in
    let r : keep g rest ≡ [] = added-nothing (keep g eager) (keep g rest) (sym (keep_append g eager rest) ∙ sym o) in
    let a : keep g (eager ++ rest) ≡ eager = sym o ∙ all-outside f eager e in
    let b : keep f (eager ++ rest) ≡ rest = keep_append f eager rest ∙ ap (λ (l : List ℕ). l ++ keep f rest) e ∙ all-inside f rest r in
    ap (λ (l : List ℕ). l ++ rest) (sym a) ∙ ap (λ (l : List ℕ). keep g (eager ++ rest) ++ l) (sym b)

-- eligible modules

module _ (p : Project) (m : ℕ) (e : eligible p m ≡ true) where
  eligible-other : eqb m p.runtime ≡ false
  unfolding eligible
  eligible-other = not-true (eqb m p.runtime) (and_parts (not (eqb m p.runtime)) _ e).0

  eligible-included : flagged p.included m ≡ true
  unfolding eligible
  eligible-included = (and_parts (flagged p.included m) _ (and_parts (not (eqb m p.runtime)) _ e).1).0

  eligible-is-normal : is_normal p.normal m ≡ true
  unfolding eligible
  eligible-is-normal = (and_parts (is_normal p.normal m) _ (and_parts (flagged p.included m) _ (and_parts (not (eqb m p.runtime)) _ e).1).1).0

  eligible-unwrapped : wrapped p.wrap m ≡ false
  unfolding eligible
  eligible-unwrapped =
      not-true (wrapped p.wrap m)
      (and_parts (ltb (get_or p.exports m 0) 2) _ (and_parts (is_normal p.normal m) _ (and_parts (flagged p.included m) _ (and_parts (not (eqb m p.runtime)) _ e).1).1).1).1

sensitive-other : (p : Project) (m : ℕ) → sensitive p m ≡ true → eqb m p.runtime ≡ false
sensitive-other p m e = not-true (eqb m p.runtime) (and_parts (not (eqb m p.runtime)) _ (sym (sensitive-is p m) ∙ e)).0

module _ (p : Project) (ok : refusal p ≡ None) (plain : Plain p) where
  abbrev planned : ℕ → Bool
  planned m = has (whole_plan p) m

  abbrev free : ℕ → Bool
  free m = not (planned m)

  abbrev runs : ℕ → Bool
  runs = executes p.normal p.included

  abbrev wakes : List ℕ → ℕ → List ℕ
  wakes wrap = triggered p.normal wrap p.record_module p.record_kind p.record_target

  -- reached and normal
  abbrev Such : ℕ → Type 0
  Such m = (reached p m ≡ true) × (is_normal p.normal m ≡ true)

  planned-eligible : (m : ℕ) → planned m ≡ true → eligible p m ≡ true
  unfolding WholePlanIsLeast
  planned-eligible = (whole_plan_is_least p).members

  such-eligible : (m : ℕ) → Such m → eligible p m ≡ true
  such-eligible m s = reached-eligible p plain m s.0 s.1

  such-next : (m y : ℕ) → Such m → Memᴰ y (normal_imports p m) → Such y
  such-next m y s h = (import-reached p m y s.0 h, (import-normal p m y h).0)

  such-path : {m x : ℕ} → Such m → Reach (normal_imports p) m x → Such x
  such-path s (here e) = subst Such (sym e) s
  such-path s (step {m} {y} h r) = such-path (such-next m y s h) r

  such-runs : (m : ℕ) → Such m → runs m ≡ true
  such-runs m s = and-join (is_normal p.normal m) (flagged p.included m) s.1 (eligible-included p m (such-eligible m s))

  runs-normal : (m : ℕ) → runs m ≡ true → is_normal p.normal m ≡ true
  runs-normal m e = (and_parts (is_normal p.normal m) (flagged p.included m) e).0

  -- where it runs, it belongs
  abbrev Home : ℕ → Type 0
  Home m = runs m ≡ true → belongs p m ≡ true

  such-home : (m : ℕ) → Such m → belongs p m ≡ true
  such-home m s = or_left (reached p m) _ s.0

  -- one that belongs and isn't the runtime is reached
  home-such : (m : ℕ) → belongs p m ≡ true → runs m ≡ true → eqb m p.runtime ≡ false → Such m
  home-such m b r o =
      ⊎_elim
      (λ e. (e, runs-normal m r))
      (λ e. absurd (true≢false (sym (and_parts (eqb m p.runtime) _ e).0 ∙ o)))
      (or_parts (reached p m) (eqb m p.runtime && eqb (length (rows_of p.record_module m)) 0) b)

  -- what such a module wakes and runs is imported and wrapped
  woken-such : (wrap : List ℕ) (m y : ℕ) → belongs p m ≡ true → runs m ≡ true → Memᴰ y (wakes wrap m) → runs y ≡ true
      → Such m × Memᴰ y (normal_imports p m) × (wrapped wrap y ≡ true)
  unfolding triggered targets_of
  woken-such wrap m y b r h ry =
      ⊎_elim
      (λ e. let a = woken-import p plain wrap m y e (runs-normal m r) h (runs-normal y ry) in ((e, runs-normal m r), a.0, a.1))
      (λ e.
      let k = mem-keep (wrapped wrap) (targets_of is_eager any_target p.normal p.record_module p.record_kind p.record_target m) h in
      let f = mem-flat (row_targets is_eager any_target p.normal p.record_kind p.record_target) (rows_of p.record_module m) k.0 in
      absurd (no_member (rows_of p.record_module m) (eqb-true (length (rows_of p.record_module m)) 0 (and_parts (eqb m p.runtime) _ e).1) f.1))
      (or_parts (reached p m) (eqb m p.runtime && eqb (length (rows_of p.record_module m)) 0) b)

  home-next : (wrap : List ℕ) (m y : ℕ) → Home m → runs m ≡ true → Memᴰ y (wakes wrap m) → Home y
  home-next wrap m y b r h ry = let a = woken-such wrap m y (b r) r h ry in such-home y (such-next m y a.0 a.1)

  -- wraps under which no reached module is wrapped but the planned
  abbrev Only : List ℕ → Type 0
  Only wrap = (y : ℕ) → Such y → wrapped wrap y ≡ true → planned y ≡ true

  only-written : Only p.wrap
  only-written y s w = absurd (true≢false (sym w ∙ eligible-unwrapped p y (such-eligible y s)))

  only-planned : Only (planned_wraps p)
  only-planned y s w =
      ⊎_elim (λ q. q) (λ q. only-written y s (sym (else-as-written (whole_plan p) p.wrap y q) ∙ w)) (both (planned y))

  planned-wrapped : (m : ℕ) → planned m ≡ true → wrapped (planned_wraps p) m ≡ true
  unfolding WholePlanIsLeast
  planned-wrapped m e =
      two_at (whole_plan p) p.wrap m (let l = has_in (whole_plan p) m e in let a = (whole_plan_is_least p).holds.marks in let b = (accepted p ok).sizes.wrap in omega arith) e

  -- where it runs, it is planned and reached
  Hit : ℕ → Type 0
  Hit m = runs m ≡ true → (planned m ≡ true) × Such m

  woken-hit : (wrap : List ℕ) → Only wrap → (m y : ℕ) → belongs p m ≡ true → runs m ≡ true → Memᴰ y (wakes wrap m) → Hit y
  unfolding Hit
  woken-hit wrap only m y b r h ry =
      let a = woken-such wrap m y b r h ry in
      let s = such-next m y a.0 a.1 in
      (only y s a.2, s)

  hit-outside : (wrap : List ℕ) → Only wrap → Outside free (wakes wrap) runs Hit
  unfolding Hit
  hit-outside wrap only = record {
    out = λ m h r. ap not (h r).0;
    next = λ m y h r i. woken-hit wrap only m y (such-home m (h r).1) r i;
  }

  -- it runs, belongs, and is not planned
  Kept : ℕ → Type 0
  Kept m = (planned m ≡ false) × (runs m ≡ true) × (belongs p m ≡ true)

  apart : (xs ys : List ℕ) → ((x : ℕ) → Memᴰ x xs → Hit x) → ((y : ℕ) → Memᴰ y ys → Hit y) → Aligned free Kept Hit Hit xs ys
  apart [] [] f g = end
  apart [] (y ∷ ys) f g = right (g y (Memᴰ.head refl)) (apart [] ys f (λ z h. g z (Memᴰ.tail h)))
  apart (x ∷ xs) ys f g = left (f x (Memᴰ.head refl)) (apart xs ys (λ z h. f z (Memᴰ.tail h)) g)

  kept-together : Together free (wakes p.wrap) (wakes (planned_wraps p)) runs runs Kept Hit Hit
  unfolding Kept
  kept-together = record {
    outside = hit-outside p.wrap only-written;
    outside' = hit-outside (planned_wraps p) only-planned;
    inside = λ m k. ap not k.0;
    passes = λ m k. (k.1, k.1);
    next = λ m k. apart (wakes p.wrap m) (wakes (planned_wraps p) m) (λ y i. woken-hit p.wrap only-written m y k.2 k.1 i) (λ y i. woken-hit (planned_wraps p) only-planned m y k.2 k.1 i);
  }

  -- a module that is there or not in either list, and alike if it isn't planned
  maybe : (x : ℕ) → Home x → (a b : Bool) → (planned x ≡ false → a ≡ b) → {xs ys : List ℕ} → Aligned free Kept Hit Hit xs ys
      → Aligned free Kept Hit Hit (cond a (x ∷ xs) xs) (cond b (x ∷ ys) ys)
  unfolding Hit Kept
  maybe x home a b same {xs} {ys} l =
      ⊎_elim
      (λ r.
      ⊎_elim
      (λ q. passed (λ e. (q, home-such x (home r) r (eligible-other p x (planned-eligible x q)))) a b)
      (λ q. subst (λ (c : Bool). Aligned free Kept Hit Hit (cond a (x ∷ xs) xs) (cond c (x ∷ ys) ys)) (same q) (alike (q, r, home r) a))
      (both (planned x)))
      (λ r. passed (λ e. absurd (true≢false (sym e ∙ r))) a b)
      (both (runs x))
    where
      passed : Hit x → (a b : Bool) → Aligned free Kept Hit Hit (cond a (x ∷ xs) xs) (cond b (x ∷ ys) ys)
      passed h true true = left h (right h l)
      passed h true false = left h l
      passed h false true = right h l
      passed h false false = l

      alike : Kept x → (a : Bool) → Aligned free Kept Hit Hit (cond a (x ∷ xs) xs) (cond a (x ∷ ys) ys)
      alike k true = two k l
      alike k false = l

  written-alike : (x : ℕ) → planned x ≡ false → wrapped p.wrap x ≡ wrapped (planned_wraps p) x
  written-alike x q = sym (else-as-written (whole_plan p) p.wrap x q)

  members-aligned : (xs : List ℕ) → ((x : ℕ) → Memᴰ x xs → Home x) → Aligned free Kept Hit Hit (keep (unwrapped p.wrap) xs) (keep (unwrapped (planned_wraps p)) xs)
  members-aligned [] h = end
  members-aligned (x ∷ xs) h =
      maybe x (h x (Memᴰ.head refl)) (unwrapped p.wrap x) (unwrapped (planned_wraps p) x) (λ q. ap not (written-alike x q)) (members-aligned xs (λ y i. h y (Memᴰ.tail i)))

  -- (d)
  member-home : (c x : ℕ) → Memᴰ x (members_of p.member_chunk p.member c) → Home x
  unfolding members_belong values_of
  member-home c x h r =
      let i = from-rows (rows_of p.member_chunk c) h in
      let l = (mem-rows p.member_chunk c i.1).0 in
      implied (runs x) (belongs p x)
      (subst (λ (y : ℕ). implies (runs y) (belongs p y) ≡ true) i.2 (every-mem (λ (row : ℕ). implies (runs (get_or p.member row 0)) (belongs p (get_or p.member row 0))) (up_to (length p.member_chunk)) plain.members (up_to-mem l)))
      r
    where
      from-rows : (rows : List ℕ) → Memᴰ x (map (λ (row : ℕ). get_or p.member row 0) rows) → (row : ℕ) × Memᴰ row rows × (get_or p.member row 0 ≡ x)
      from-rows [] k = absurd (Memᴰ.not-nil k)
      from-rows (row ∷ rows) k =
          ⊎_elim (λ e. (row, Memᴰ.head refl, sym e)) (λ t. let a = from-rows rows t in (a.0, Memᴰ.tail a.1, a.2)) (Memᴰ.cases_cons k)

  -- the planned modules

  -- planned and reached; reached and not planned; not run
  Struck : ℕ → Type 0
  Struck m = (planned m ≡ true) × Such m

  Clear : ℕ → Type 0
  Clear m = (planned m ≡ false) × Such m

  Still : ℕ → Type 0
  Still m = runs m ≡ false

  -- a reached module, and the same if it is wrapped
  one : (t : ℕ) → Such t → Aligned planned Struck Clear Still (t ∷ []) (cond (wrapped (planned_wraps p) t) (t ∷ []) [])
  unfolding Struck Clear
  one t s =
      ⊎_elim
      (λ q. subst (λ (b : Bool). Aligned planned Struck Clear Still (t ∷ []) (cond b (t ∷ []) [])) (sym (planned-wrapped t q)) (two (q, s) end))
      (λ q.
      subst (λ (b : Bool). Aligned planned Struck Clear Still (t ∷ []) (cond b (t ∷ []) [])) (sym (else-as-written (whole_plan p) p.wrap t q ∙ eligible-unwrapped p t (such-eligible t s)))
      (left (q, s) end))
      (both (planned t))

  -- a module that isn't normal does not run
  halt : (t : ℕ) → is_normal p.normal t ≡ false → (b : Bool) → Aligned planned Struck Clear Still [] (cond b (t ∷ []) [])
  unfolding Still
  halt t q true = right (ap (λ (a : Bool). a && flagged p.included t) q) end
  halt t q false = end

  row-aligned : (m row : ℕ) → Such m → Memᴰ row (rows_of p.record_module m) → RowCase p.normal p.record_kind p.record_target row
      → Aligned planned Struck Clear Still (led p.normal p.record_kind p.record_target row) (keep (wrapped (planned_wraps p)) (woken p.normal p.record_kind p.record_target row))
  unfolding targets_of
  row-aligned m row s i c = go c
    where
      these : {xs ys : List ℕ} → led p.normal p.record_kind p.record_target row ≡ xs → woken p.normal p.record_kind p.record_target row ≡ ys
          → Aligned planned Struck Clear Still xs (keep (wrapped (planned_wraps p)) ys)
          → Aligned planned Struck Clear Still (led p.normal p.record_kind p.record_target row) (keep (wrapped (planned_wraps p)) (woken p.normal p.record_kind p.record_target row))
      these {xs} {ys} a b l =
          subst (λ (us : List ℕ). Aligned planned Struck Clear Still us (keep (wrapped (planned_wraps p)) (woken p.normal p.record_kind p.record_target row))) (sym a)
          (subst (λ (us : List ℕ). Aligned planned Struck Clear Still xs (keep (wrapped (planned_wraps p)) us)) (sym b) l)

      go : RowCase p.normal p.record_kind p.record_target row
          → Aligned planned Struck Clear Still (led p.normal p.record_kind p.record_target row) (keep (wrapped (planned_wraps p)) (woken p.normal p.record_kind p.record_target row))
      go (none a b) = these a b end
      go (outer t q a b) = these a b (halt t q (wrapped (planned_wraps p) t))
      go (inner t q a b) =
          these a b (one t (such-next m t s (flat-mem (led p.normal p.record_kind p.record_target) (rows_of p.record_module m) i (subst (Memᴰ t) (sym a) (Memᴰ.head refl)))))

  rows-aligned : (m : ℕ) → Such m → (rows : List ℕ) → ((row : ℕ) → Memᴰ row rows → Memᴰ row (rows_of p.record_module m))
      → Aligned planned Struck Clear Still (flat_map (led p.normal p.record_kind p.record_target) rows) (keep (wrapped (planned_wraps p)) (flat_map (woken p.normal p.record_kind p.record_target) rows))
  unfolding flat_map
  rows-aligned m s [] h = end
  rows-aligned m s (row ∷ rows) h =
      let i = h row (Memᴰ.head refl) in
      let f : ℕ → List ℕ = woken p.normal p.record_kind p.record_target in
      let g : ℕ → List ℕ = led p.normal p.record_kind p.record_target in
      subst (λ (ys : List ℕ). Aligned planned Struck Clear Still (g row ++ flat_map g rows) ys) (sym (keep_append (wrapped (planned_wraps p)) (f row) (flat_map f rows)))
      (aligned-append planned (row-aligned m row s i (row-case p.normal p.record_kind p.record_target row (no-require p plain m row s.0 s.1 i))) (rows-aligned m s rows (λ x k. h x (Memᴰ.tail k))))

  planned-together : Together planned (normal_imports p) (wakes (planned_wraps p)) everywhere runs Struck Clear Still
  unfolding Struck Clear Still targets_of triggered
  planned-together = record {
    outside = record { out = λ m c g. c.0; next = λ m y c g i. (import-unplanned p plain m y c.1.0 c.1.1 c.0 i, such-next m y c.1 i) };
    outside' = record { out = λ m s r. absurd (true≢false (sym r ∙ s)); next = λ m y s r i. absurd (true≢false (sym r ∙ s)) };
    inside = λ m s. s.0;
    passes = λ m s. (refl, such-runs m s.1);
    next = λ m s. rows-aligned m s.1 (rows_of p.record_module m) (λ row i. i);
  }

  -- where it runs, it belongs and is not planned: it wakes nothing that runs
  Eager : ℕ → Type 0
  Eager m = runs m ≡ true → (planned m ≡ false) × (belongs p m ≡ true)

  eager-outside : Outside planned (wakes (planned_wraps p)) runs Eager
  unfolding Eager
  eager-outside = record {
    out = λ m e r. (e r).0;
    next = λ m y e r i ry.
        let a = woken-such (planned_wraps p) m y (e r).1 r i ry in
        absurd (true≢false (sym (only-planned y (such-next m y a.0 a.1) a.2) ∙ import-unplanned p plain m y a.0.0 a.0.1 (e r).0 a.1));
  }

  -- sensitive and not eligible
  abbrev amiss : ℕ → Bool
  amiss m = sensitive p m && not (eligible p m)

  home-outside : Outside amiss (wakes p.wrap) runs Home
  home-outside = record {
    out = λ m h r.
        ⊎_elim
        (λ e. ap (λ (b : Bool). b && not (eligible p m)) e ∙ ap not (such-eligible m (home-such m (h r) r (sensitive-other p m e))))
        (λ e. ap (λ (b : Bool). b && not (eligible p m)) e)
        (both (sensitive p m));
    next = home-next p.wrap;
  }

  -- one entry

  module _ (root : ℕ) (an : is_analysed p root ≡ true) where
    abbrev order : List ℕ
    order = chunk_order (load_order p.order p.import_chunk p.imports) (chunks p) (entry_chunk_of p root)

    abbrev eagerly : List ℕ → List ℕ
    eagerly wrap = flat_map (eager_members wrap p.member_chunk p.member) order

    abbrev last : List ℕ → List ℕ
    last wrap = cond (wrapped wrap root) (root ∷ []) []

    abbrev none-met : St (List ℕ)
    none-met = unmet (modules p)

    abbrev fuel : ℕ
    fuel = length none-met.marks

    abbrev loading : List ℕ → St (List ℕ) → List ℕ → St (List ℕ)
    loading wrap = foldl (visit (wakes wrap) runs snoc fuel)

    run-made : (wrap : List ℕ) → (run_of p wrap root).listed ≡ (loading wrap none-met (eagerly wrap ++ last wrap)).made
    unfolding hosts_in_turn post_order walk
    run-made wrap = ap (λ (e : Executed). e.listed) (run-in-turn p wrap root) ∙ run-order p.normal p.included wrap p.record_module p.record_kind p.record_target (eagerly wrap ++ last wrap)

    root-such : is_normal p.normal root ≡ true → Such root
    root-such e = (root-reached p root (analysed-root p root an) e, e)

    root-home : Home root
    root-home r = such-home root (root-such (runs-normal root r))

    flat-aligned : (cs : List ℕ)
        → Aligned free Kept Hit Hit (flat_map (eager_members p.wrap p.member_chunk p.member) cs) (flat_map (eager_members (planned_wraps p) p.member_chunk p.member) cs)
    unfolding flat_map eager_members
    flat-aligned [] = end
    flat-aligned (c ∷ cs) = aligned-append free (members-aligned (members_of p.member_chunk p.member c) (member-home c)) (flat-aligned cs)

    -- outside the plan both loads run the same modules in the same order
    free-same : keep free (loading p.wrap none-met (eagerly p.wrap ++ last p.wrap)).made ≡ keep free (loading (planned_wraps p) none-met (eagerly (planned_wraps p) ++ last (planned_wraps p))).made
    free-same =
        (visits-together free (wakes p.wrap) (wakes (planned_wraps p)) runs runs Kept Hit Hit kept-together fuel fuel none-met none-met (like-refl free none-met)
        (aligned-append free (flat-aligned order) (maybe root root-home (wrapped p.wrap root) (wrapped (planned_wraps p) root) (written-alike root) end))
        (zeros-le none-met.marks) (zeros-le none-met.marks)
        ).kept

    -- what the chunks have run
    abbrev eager : St (List ℕ)
    eager = loading (planned_wraps p) none-met (eagerly (planned_wraps p))

    abbrev whole : St (List ℕ)
    whole = loading (planned_wraps p) eager (last (planned_wraps p))

    eager-like : Like planned none-met eager
    unfolding Eager eager_members
    eager-like =
        visits-outside planned (wakes (planned_wraps p)) runs Eager eager-outside fuel none-met (eagerly (planned_wraps p))
        (λ x h r.
        let f = mem-flat (eager_members (planned_wraps p) p.member_chunk p.member) order h in
        let k = mem-keep (unwrapped (planned_wraps p)) (members_of p.member_chunk p.member f.0) f.2 in (
          ⊎_elim (λ q. absurd (true≢false (sym (planned-wrapped x q) ∙ not-true (wrapped (planned_wraps p) x) k.1))) (λ q. q) (both (planned x)),
          member-home f.0 x k.0 r,
        ))

    last-hit : (x : ℕ) → Memᴰ x (last (planned_wraps p)) → Hit x
    unfolding Hit
    last-hit x h r = go (wrapped (planned_wraps p) root) refl h
      where
        go : (b : Bool) → wrapped (planned_wraps p) root ≡ b → Memᴰ x (cond b (root ∷ []) []) → (planned x ≡ true) × Such x
        go true e i =
            let o : x ≡ root = Memᴰ.eq_of_singleton i in
            let s : Such root = root-such (subst (λ (y : ℕ). is_normal p.normal y ≡ true) o (runs-normal x r)) in
            subst (λ (y : ℕ). (planned y ≡ true) × Such y) (sym o) (only-planned root s e, s)
        go false e i = absurd (Memᴰ.not-nil i)

    last-like : Like free eager whole
    last-like = visits-outside free (wakes (planned_wraps p)) runs Hit (hit-outside (planned_wraps p) only-planned) fuel eager (last (planned_wraps p)) last-hit

    -- the walk of the expected order
    abbrev roots-in : List ℕ
    roots-in = cond (is_normal p.normal root) (root ∷ []) []

    abbrev walked : List ℕ
    walked = (foldl (visit (normal_imports p) everywhere snoc fuel) none-met roots-in).made

    roots-aligned : Aligned planned Struck Clear Still roots-in (last (planned_wraps p))
    roots-aligned =
        ⊎_elim
        (λ e. subst (λ (b : Bool). Aligned planned Struck Clear Still (cond b (root ∷ []) []) (last (planned_wraps p))) (sym e) (one root (root-such e)))
        (λ e. subst (λ (b : Bool). Aligned planned Struck Clear Still (cond b (root ∷ []) []) (last (planned_wraps p))) (sym e) (halt root e (wrapped (planned_wraps p) root)))
        (both (is_normal p.normal root))

    -- the planned modules run in the order of that walk
    planned-same : keep planned walked ≡ keep planned whole.made
    planned-same =
        (visits-together planned (normal_imports p) (wakes (planned_wraps p)) everywhere runs Struck Clear Still planned-together fuel fuel none-met eager eager-like roots-aligned
        (zeros-le none-met.marks)
        (let g = visits-grown (wakes (planned_wraps p)) runs snoc fuel none-met (eagerly (planned_wraps p)) in let z = zeros-le none-met.marks in omega (arith, g.fewer))
        ).kept

    -- the chunks run the unplanned modules, and the entry the planned ones
    whole_split : whole.made ≡ keep free whole.made ++ keep planned whole.made
    whole_split =
        let r = visits-run (wakes (planned_wraps p)) runs fuel eager (last (planned_wraps p)) in
        let l = r.lists in
        subst (λ (xs : List ℕ). xs ≡ keep free xs ++ keep planned xs) (sym l)
        (split planned eager.made r.added (sym eager-like.kept) (last-like.kept ∙ ap (keep free) l))

    expected-walked : expected_of p root ≡ keep (flagged p.included) walked
    unfolding expected_of expected post_order walk
    expected-walked = go (is_normal p.normal root)
      where
        go : (b : Bool)
            → cond b (keep (flagged p.included) (post_order (normal_imports p) everywhere (modules p) (root ∷ []))) []
            ≡ keep (flagged p.included) (foldl (visit (normal_imports p) everywhere snoc fuel) none-met (cond b (root ∷ []) [])).made
        go true = refl
        go false = refl

    expected-eligible : AllEligible p (expected_sensitive_of p root)
    unfolding AllEligible expected_sensitive_of expected_of expected
    expected-eligible m h = go (both (is_normal p.normal root))
      where
        listed : Memᴰ m (expected_of p root)
        listed = (mem-keep (sensitive p) (expected_of p root) h).0

        go : (is_normal p.normal root ≡ true) ⊎ (is_normal p.normal root ≡ false) → eligible p m ≡ true
        go (inl e) =
            let k = mem-keep (flagged p.included) (post_order (normal_imports p) everywhere (modules p) (root ∷ [])) (rw e at listed) in
            such-eligible m (such-path (root-such e) (reached-path p.normal p.record_module p.record_kind p.record_target root e m k.0))
        go (inr e) = absurd (Memᴰ.not-nil (rw e at listed))

    host-home : (x : ℕ) → Memᴰ x (eagerly p.wrap ++ last p.wrap) → Home x
    unfolding hosts_in_turn
    host-home x h =
        ⊎_elim (λ a. member-home a.0 x a.2)
        (λ a. subst Home (sym a.0) root-home)
        (turn-host p.wrap p.member_chunk p.member (load_order p.order p.import_chunk p.imports) (chunks p) root (entry_chunk_of p root) x h)

    actual-eligible : AllEligible p (actual_sensitive_of p root)
    unfolding AllEligible actual_sensitive_of actual_of
    actual-eligible m h =
        let k = mem-keep (sensitive p) (actual_of p root) h in
        let hosts : List ℕ = eagerly p.wrap ++ last p.wrap in
        let none-amiss : [] ≡ keep amiss (loading p.wrap none-met hosts).made = (visits-outside amiss (wakes p.wrap) runs Home home-outside fuel none-met hosts host-home).kept in
        ⊎_elim
        (λ e. e)
        (λ e.
        absurd (Memᴰ.not-nil (subst (Memᴰ m) (sym none-amiss) (keep-mem amiss (loading p.wrap none-met hosts).made (subst (Memᴰ m) (run-made p.wrap) k.0) (and-join (sensitive p m) (not (eligible p m)) k.1 (ap not e))))))
        (both (eligible p m))

    same-order : SameOrder (whole_plan p) (expected_sensitive_of p root) (actual_sensitive_of p root)
    unfolding WholePlanKeepsTheOrder
    same-order = whole_plan_keeps_the_order p root an expected-eligible actual-eligible

    -- what follows the unplanned modules are the planned ones
    rest-planned : keep planned (expected_sensitive_of p root) ≡ same-order.rest
    rest-planned =
        let e : List ℕ = expected_sensitive_of p root in
        ap (keep planned) same-order.opens
        ∙ keep_append planned (unplanned (whole_plan p) e) same-order.rest
        ∙ ap (λ (l : List ℕ). l ++ keep planned same-order.rest) (keep-none planned (unplanned (whole_plan p) e) (λ x h. not-true (planned x) (mem-keep free e h).1))
        ∙ keep_all planned same-order.rest same-order.planned

    -- they are the planned sensitive ones of the walk
    planned-walked : keep (sensitive p) (keep planned walked) ≡ keep planned (expected_sensitive_of p root)
    unfolding expected_sensitive_of
    planned-walked =
        ap (keep (sensitive p))
        (keep-cong planned (λ (x : ℕ). flagged p.included x && planned x) walked (λ x h. iff-eq (planned x) (flagged p.included x && planned x) (λ q. and-join (flagged p.included x) (planned x) (eligible-included p x (planned-eligible x q)) q) (λ q. (and_parts (flagged p.included x) (planned x) q).1))
        ∙ sym (keep-keep planned (flagged p.included) walked))
        ∙ keep-swap (sensitive p) planned (keep (flagged p.included) walked)
        ∙ ap (λ (l : List ℕ). keep planned (keep (sensitive p) l)) (sym expected-walked)

    -- the unplanned sensitive ones are those of the actual order as it stands
    free-actual : keep (sensitive p) (keep free whole.made) ≡ unplanned (whole_plan p) (actual_sensitive_of p root)
    unfolding actual_sensitive_of actual_of
    free-actual =
        ap (λ (s : St (List ℕ)). keep (sensitive p) (keep free s.made)) (sym (foldl-append (visit (wakes (planned_wraps p)) runs snoc fuel) none-met (eagerly (planned_wraps p)) (last (planned_wraps p))))
        ∙ ap (keep (sensitive p)) (sym free-same)
        ∙ keep-swap (sensitive p) free (loading p.wrap none-met (eagerly p.wrap ++ last p.wrap)).made
        ∙ ap (λ (l : List ℕ). keep free (keep (sensitive p) l)) (sym (run-made p.wrap))

    planned-load : keep (sensitive p) (run_of p (planned_wraps p) root).listed ≡ expected_sensitive_of p root
    planned-load =
        ap (keep (sensitive p)) (run-made (planned_wraps p) ∙ ap (λ (s : St (List ℕ)). s.made) (foldl-append (visit (wakes (planned_wraps p)) runs snoc fuel) none-met (eagerly (planned_wraps p)) (last (planned_wraps p))) ∙ whole_split)
        ∙ keep_append (sensitive p) (keep free whole.made) (keep planned whole.made)
        ∙ ap (λ (l : List ℕ). l ++ keep (sensitive p) (keep planned whole.made)) (free-actual ∙ sym same-order.same)
        ∙ ap (λ (l : List ℕ). unplanned (whole_plan p) (expected_sensitive_of p root) ++ l) (ap (keep (sensitive p)) (sym planned-same) ∙ planned-walked ∙ rest-planned)
        ∙ sym same-order.opens

pub planned_load_keeps_the_order : PlannedLoadKeepsTheOrder
unfolding PlannedLoadKeepsTheOrder
planned_load_keeps_the_order p root ok plain an = planned-load p ok plain root an
