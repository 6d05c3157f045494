-- What holds of every order of joining, and that the members of the least closed set have one.
-- Assumes nothing.
use mathlib.Core.Path.{◌≡◌, refl, sym, ap, subst, ◌∙◌}
use mathlib.Core.Logic.{◌⊎◌, inl, inr, ⊎_elim}
use mathlib.Core.Bool.{Bool, true, false, not, ◌||◌, or-false, false≢true}
use mathlib.Core.List.Memᴰ
use mathlib.Core.List.{List, [], ◌∷◌, append_assoc, Memᴰ}
use Prim.Native.Nat.{ℕ, zero, suc, ◌<◌}
use native.Mathlib.Omega.{arith}
use native.Mathlib.Decide.{ℕ_discrete}
use lib.ListN.{length, set, length-append}
use lib.Seq.{get_or-set_other}
use lib.Dec.{eqb}
use borrow.Author.Tests.{ne_eqb}
use Rattle.lists.specs.Words.{is_zero, has, elem, keep, up_to, ones}
use Rattle.lists.proofs.Laws.{both, has_in, any_append, elem_mem, mem-elem, mem-keep, keep-mem, up_to-mem, mem-up_to, length-marks_of, has-marks_of}
use Rattle.walk.specs.Walk.{snoc}
use Rattle.walk.specs.Close.{round, rounds, close, Within, Monotone}
use Rattle.walk.specs.Joining.{set_of, Joins, none, joined, Place}
use Rattle.walk.proofs.Closes.{round-len, round-parts, round-asked, round-more}

-- an order of joining is one by any weaker test
pub joins-weaker : {may may' : List ℕ → ℕ → Type 0} → ((before : List ℕ) (m : ℕ) → may before m → may' before m) → {order : List ℕ} → Joins may order → Joins may' order
joins-weaker f none = none
joins-weaker f (joined {before} {m} j n h) = joined (joins-weaker f j) n (f before m h)

-- every member has its place
pub joins-place : {may : List ℕ → ℕ → Type 0} {order : List ℕ} → Joins may order → (m : ℕ) → Memᴰ m order → Place may order m
joins-place none m h = absurd (Memᴰ.not-nil h)
joins-place {may} (joined {before} {m} j n k) x h =
    ⊎_elim
    (λ q.
    let r = joins-place j x q in
    record { before = r.before; after = snoc r.after m; splits = ap (λ (l : List ℕ). snoc l m) r.splits ∙ append_assoc r.before (x ∷ r.after) (m ∷ []); joins = r.joins })
    (λ q.
    let e : x ≡ m = Memᴰ.eq_of_singleton q in
    record { before = before; after = []; splits = ap (snoc before) (sym e); joins = subst (may before) (sym e) k })
    (Memᴰ.append_cases before h)

-- an order of joining is as long as the set of its members

ones-less : (s : List ℕ) (m : ℕ) → has s m ≡ true → ones s ≡ suc (ones (set s m 0))
ones-less [] m e = absurd (false≢true e)
ones-less (zero ∷ s) zero e = absurd (false≢true e)
ones-less (suc x ∷ s) zero e = refl
ones-less (zero ∷ s) (suc m) e = ones-less s m e
ones-less (suc x ∷ s) (suc m) e = ap suc (ones-less s m e)

ones-empty : (s : List ℕ) → ((m : ℕ) → has s m ≡ false) → ones s ≡ 0
ones-empty [] h = refl
ones-empty (zero ∷ s) h = ones-empty s (λ m. h (suc m))
ones-empty (suc x ∷ s) h = absurd (false≢true (sym (h zero)))

unset : (s : List ℕ) (m : ℕ) → has (set s m 0) m ≡ false
unset [] m = refl
unset (x ∷ s) zero = refl
unset (x ∷ s) (suc m) = unset s m

pub joins-count : {may : List ℕ → ℕ → Type 0} {order : List ℕ} → Joins may order → (s : List ℕ) → ((x : ℕ) → elem x order ≡ has s x) → length order ≡ ones s
joins-count none s h = sym (ones-empty s (λ x. sym (h x)))
joins-count (joined {before} {m} j n k) s h =
    let i : has s m ≡ true = sym (h m) ∙ mem-elem m (snoc before m) (Memᴰ.append_right before (Memᴰ.head refl)) in
    let c : length before ≡ ones (set s m 0) = joins-count j (set s m 0) (λ x. others x (ℕ_discrete x m)) in
    omega (arith, length-append before (m ∷ []), ones-less s m i)
  where
    others : (x : ℕ) → Dec (x ≡ m) → elem x before ≡ has (set s m 0) x
    others x (yes e) = ap (λ (y : ℕ). elem y before) e ∙ n ∙ sym (ap (has (set s m 0)) e ∙ unset s m)
    others x (no e) =
        let t : elem x (m ∷ []) ≡ false = rw (ne_eqb x m e) in
        sym (any_append (eqb x) before (m ∷ []) ∙ ap (λ (b : Bool). elem x before || b) t ∙ or-false (elem x before)) ∙ h x ∙ sym (ap (λ (y : ℕ). not (is_zero y)) (get_or-set_other s m x 0 0 e))

module _ (may : List ℕ → ℕ → Type 0) where
  -- those of two lists, in an order of joining
  record More (xs ys : List ℕ) : Type 0 where
    order : List ℕ
    joins : Joins may order
    old : (m : ℕ) → Memᴰ m xs → Memᴰ m order
    new : (m : ℕ) → Memᴰ m ys → Memᴰ m order
    only : (m : ℕ) → Memᴰ m order → Memᴰ m xs ⊎ Memᴰ m ys

  there : (xs : List ℕ) (y : ℕ) (ys : List ℕ) → elem y xs ≡ true → More xs ys → More xs (y ∷ ys)
  there xs y ys e r = record {
    order = r.order;
    joins = r.joins;
    old = r.old;
    new = λ m h. ⊎_elim (λ q. r.old m (subst (λ (z : ℕ). Memᴰ z xs) (sym q) (elem_mem y xs e))) (r.new m) (Memᴰ.cases_cons h);
    only = λ m h. ⊎_elim inl (λ q. inr (Memᴰ.tail q)) (r.only m h);
  }

  fresh : (xs : List ℕ) (y : ℕ) (ys : List ℕ) → More (snoc xs y) ys → More xs (y ∷ ys)
  fresh xs y ys r = record {
    order = r.order;
    joins = r.joins;
    old = λ m h. r.old m (Memᴰ.append_left (y ∷ []) h);
    new = λ m h. ⊎_elim (λ q. r.old m (Memᴰ.append_right xs (Memᴰ.head q))) (r.new m) (Memᴰ.cases_cons h);
    only = λ m h. ⊎_elim (λ q. ⊎_elim inl (λ a. inr (Memᴰ.head (Memᴰ.eq_of_singleton a))) (Memᴰ.append_cases xs q)) (λ q. inr (Memᴰ.tail q)) (r.only m h);
  }

  -- more members join, each of which may join those that are there, whoever joined besides
  more : (xs : List ℕ) → Joins may xs → (ys : List ℕ) → ((y : ℕ) → Memᴰ y ys → (zs : List ℕ) → ((m : ℕ) → Memᴰ m xs → Memᴰ m zs) → may zs y) → More xs ys
  more xs j [] h = record { order = xs; joins = j; old = λ m e. e; new = λ m e. absurd (Memᴰ.not-nil e); only = λ m e. inl e }
  more xs j (y ∷ ys) h =
      ⊎_elim
      (λ e. there xs y ys e (more xs j ys (λ z q. h z (Memᴰ.tail q))))
      (λ e. fresh xs y ys (more (snoc xs y) (joined j e (h y (Memᴰ.head refl) xs (λ m q. q))) ys (λ z q zs w. h z (Memᴰ.tail q) zs (λ m a. w m (Memᴰ.append_left (y ∷ []) a)))))
      (both (elem y xs))

-- over n places: m is in at the start, or the rule asks for it with just those before it in
abbrev pub StartOrAsked : (List ℕ → ℕ → Bool) → ℕ → List ℕ → List ℕ → ℕ → Type 0
StartOrAsked rule n start before m = (has start m ≡ true) ⊎ (rule (set_of n before) m ≡ true)

module _ (rule : List ℕ → ℕ → Bool) (mono : Monotone rule) (n : ℕ) (start : List ℕ) where
  -- the members of s in an order of joining
  pub record Order (s : List ℕ) : Type 0 where
    pub order : List ℕ
    pub joins : Joins (StartOrAsked rule n start) order
    pub all : (m : ℕ) → has s m ≡ true → Memᴰ m order
    pub only : (m : ℕ) → Memᴰ m order → has s m ≡ true

  -- a round's new members join after those that were in
  round-order : (s : List ℕ) → length s ≡ n → Order s → Order (round rule s)
  unfolding Monotone Within
  round-order s l o = record {
    order = grown.order;
    joins = grown.joins;
    all = λ m h. ⊎_elim (λ e. grown.old m (o.all m e)) (λ e. grown.new m (keep-mem (rule s) (up_to n) (up_to-mem (inside m h)) e)) (round-parts rule s m h);
    only = λ m h. ⊎_elim (λ q. round-more rule s m (o.only m q)) (λ q. asked m (mem-keep (rule s) (up_to n) q)) (grown.only m h);
  }
    where
      -- with more in the rule still asks for them
      still : (y : ℕ) → rule s y ≡ true → (zs : List ℕ) → ((m : ℕ) → Memᴰ m o.order → Memᴰ m zs) → rule (set_of n zs) y ≡ true
      still y e zs w =
          mono s (set_of n zs) (l ∙ sym (length-marks_of (λ (x : ℕ). elem x zs) n))
          (λ i h. has-marks_of (λ (x : ℕ). elem x zs) n i (subst (λ (k : ℕ). i < k) l (has_in s i h)) ∙ mem-elem i zs (w i (o.all i h))) y e

      grown : More (StartOrAsked rule n start) o.order (keep (rule s) (up_to n))
      grown = more (StartOrAsked rule n start) o.order o.joins (keep (rule s) (up_to n)) (λ y h zs w. inr (still y (mem-keep (rule s) (up_to n) h).1 zs w))

      inside : (m : ℕ) → has (round rule s) m ≡ true → m < n
      inside m h = subst (λ (k : ℕ). m < k) (round-len (rule s) zero s ∙ l) (has_in (round rule s) m h)

      asked : (m : ℕ) → Memᴰ m (up_to n) × (rule s m ≡ true) → has (round rule s) m ≡ true
      asked m q = round-asked rule s m (subst (λ (k : ℕ). m < k) (sym l) (mem-up_to q.0)) q.1

  rounds-order : (k : ℕ) (s : List ℕ) → length s ≡ n → Order s → Order (rounds rule k s)
  unfolding rounds
  rounds-order zero s l o = o
  rounds-order (suc k) s l o = rounds-order k (round rule s) (round-len (rule s) zero s ∙ l) (round-order s l o)

  start-order : length start ≡ n → Order start
  start-order l =
      let r = more (StartOrAsked rule n start) [] none (keep (has start) (up_to n)) (λ y h zs w. inl (mem-keep (has start) (up_to n) h).1) in
      record {
        order = r.order;
        joins = r.joins;
        all = λ m h. r.new m (keep-mem (has start) (up_to n) (up_to-mem (subst (λ (k : ℕ). m < k) l (has_in start m h))) h);
        only = λ m h. ⊎_elim (λ q. absurd (Memᴰ.not-nil q)) (λ q. (mem-keep (has start) (up_to n) q).1) (r.only m h);
      }

  -- the members of the least closed set join one by one
  pub close-order : length start ≡ n → Order (close rule start)
  unfolding close
  close-order l = rounds-order (length start) start l (start-order l)
