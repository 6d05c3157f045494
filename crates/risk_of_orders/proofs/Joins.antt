-- Sets with more marked, and a loop that marks more for each member of an order.
-- Assumes nothing.
use Rattle.std.specs.Prelude.{◌≡◌, ℕ, zero, suc, ◌+◌, ◌<◌, ◌≤◌, Bool, true, false, cond, not, ◌&&◌, ◌||◌, eqb, List, [], ◌∷◌, length, get_or, take, set, replicate}
use mathlib.Core.Path.{refl, sym, ap, ◌∙◌}
use native.Mathlib.Nat.{not-suc-le-zero, add-zero, add-suc, suc-add, zero-add}
use native.Mathlib.Numerals.{add-one}
use native.Mathlib.Decide.{ℕ_discrete}
use native.Mathlib.Omega.{arith}
use lib.ListN.{length-set, length-replicate, get_or-replicate}
use lib.Seq.{ext_get_or, get_or-set_same, get_or-set_other, take-suc, take_all}
use borrow.Author.Tests.{eq-eqb, ne_eqb}
use Rattle.lists.specs.Words.{is_zero, any, has, bit, marks_of}
use Rattle.lists.proofs.Laws.{any_append, length-marks_of, marks_of-at}
use Rattle.risk_of_orders.specs.inner.Steps.{join_from, join}

length-join_from : (i : ℕ) (s : List ℕ) (f : ℕ → Bool) → length (join_from i s f) ≡ length s
length-join_from i [] f = refl
length-join_from i (x ∷ s) f = ap suc (length-join_from (suc i) s f)

join_from-at : (j : ℕ) (s : List ℕ) (f : ℕ → Bool) (i : ℕ) → i < length s → get_or (join_from j s f) i 0 ≡ cond (f (j + i)) 1 (get_or s i 0)
join_from-at j [] f i l = absurd (not-suc-le-zero l)
join_from-at j (x ∷ s) f zero l = rw add-zero
join_from-at j (x ∷ s) f (suc i) l = rw (add-suc, ← suc-add) (join_from-at (suc j) s f i (omega arith))

module _ (s : List ℕ) (f : ℕ → Bool) where
  pub length-join : length (join s f) ≡ length s
  unfolding join
  length-join = length-join_from zero s f

  pub join-at : (i : ℕ) → i < length s → get_or (join s f) i 0 ≡ cond (f i) 1 (get_or s i 0)
  unfolding join
  join-at i l = join_from-at zero s f i l ∙ ap (λ (k : ℕ). cond (f k) 1 (get_or s i 0)) (zero-add i)

  -- a list with these marks is the join
  pub join_is : (t : List ℕ) → length t ≡ length s → ((i : ℕ) → i < length s → get_or t i 0 ≡ cond (f i) 1 (get_or s i 0)) → t ≡ join s f
  join_is t l h = ext_get_or 0 t (join s f) (l ∙ sym length-join) (λ i b. let u : i < length s = rw l at b in h i u ∙ sym (join-at i u))

  pub join-none : ((i : ℕ) → i < length s → f i ≡ false) → s ≡ join s f
  join-none h = join_is s refl (λ i l. rw (h i l))

  pub has_join : (i : ℕ) → i < length s → has (join s f) i ≡ (has s i || f i)
  has_join i l = ap (λ (x : ℕ). not (is_zero x)) (join-at i l) ∙ one (f i) (get_or s i 0)
    where
      one : (b : Bool) (x : ℕ) → not (is_zero (cond b 1 x)) ≡ (not (is_zero x) || b)
      one true zero = refl
      one true (suc x) = refl
      one false zero = refl
      one false (suc x) = refl

pub join-cong : (s : List ℕ) (f g : ℕ → Bool) → ((i : ℕ) → i < length s → f i ≡ g i) → join s f ≡ join s g
join-cong s f g h = join_is s g (join s f) (length-join s f) (λ i l. join-at s f i l ∙ ap (λ (b : Bool). cond b 1 (get_or s i 0)) (h i l))

pub join-join : (s : List ℕ) (f g : ℕ → Bool) → join (join s f) g ≡ join s (λ (m : ℕ). f m || g m)
join-join s f g =
    join_is s (λ (m : ℕ). f m || g m) (join (join s f) g) (length-join (join s f) g ∙ length-join s f)
    (λ i l. join-at (join s f) g i (rw (length-join s f) l) ∙ ap (cond (g i) 1) (join-at s f i l) ∙ one (f i) (g i) (get_or s i 0))
  where
    one : (a b : Bool) (x : ℕ) → cond b 1 (cond a 1 x) ≡ cond (a || b) 1 x
    one true true x = refl
    one true false x = refl
    one false true x = refl
    one false false x = refl

-- one mark more
pub join-set : (s : List ℕ) (m : ℕ) → m < length s → set s m 1 ≡ join s (λ (i : ℕ). eqb i m)
join-set s m l = join_is s (λ (i : ℕ). eqb i m) (set s m 1) (length-set s m 1) (λ i b. go i b (ℕ_discrete i m))
  where
    go : (i : ℕ) → i < length s → Dec (i ≡ m) → get_or (set s m 1) i 0 ≡ cond (eqb i m) 1 (get_or s i 0)
    go i b (yes e) = rw (eq-eqb i m e) (ap (λ (k : ℕ). get_or (set s m 1) k 0) e ∙ get_or-set_same s m 1 0 l)
    go i b (no d) = rw (ne_eqb i m d) (get_or-set_other s m i 1 0 d)

-- marks joined to none
pub join-zero : (n : ℕ) (f : ℕ → Bool) → join (replicate n 0) f ≡ marks_of f n
join-zero n f =
    ext_get_or 0 (join (replicate n 0) f) (marks_of f n) (length-join (replicate n 0) f ∙ length-replicate n 0 ∙ sym (length-marks_of f n))
    (λ i b.
    let u : i < length (replicate n 0) = rw (length-join (replicate n 0) f) at b in
    let v : i < n = rw length-replicate at u in
    join-at (replicate n 0) f i u ∙ ap (cond (f i) 1) (get_or-replicate n i 0 0 v) ∙ one (f i) ∙ sym (marks_of-at f n i v))
  where
    one : (b : Bool) → cond b 1 0 ≡ bit b
    one true = refl
    one false = refl

-- those of the first k members of an order that pass a test have marked what each of them puts
pub record Added (test : ℕ → Bool) (put : ℕ → ℕ → Bool) (order old : List ℕ) (k : ℕ) (marks : List ℕ) : Type 0 where
  pub within : k ≤ length order
  pub made : marks ≡ join old (λ (m : ℕ). any (λ (x : ℕ). test x && put x m) (take k order))

module _ (test : ℕ → Bool) (put : ℕ → ℕ → Bool) (order old : List ℕ) where
  pub added-start : Added test put order old 0 old
  added-start = record { within = omega arith; made = join-none old (λ (m : ℕ). false) (λ i l. refl) }

  module _ (k : ℕ) (marks : List ℕ) (a : Added test put order old k marks) where
    pub added-length : length marks ≡ length old
    added-length = ap length a.made ∙ length-join old _

    step : (more : List ℕ) → k < length order → more ≡ join marks (λ (m : ℕ). test (get_or order k 0) && put (get_or order k 0) m) → Added test put order old (k + 1) more
    step more l e =
        record {
          within = omega arith;
          made =
              e
              ∙ ap (λ (s : List ℕ). join s (λ (m : ℕ). test (get_or order k 0) && put (get_or order k 0) m)) a.made
              ∙ join-join old (λ (m : ℕ). any (λ (x : ℕ). test x && put x m) (take k order)) (λ (m : ℕ). test (get_or order k 0) && put (get_or order k 0) m)
              ∙ join-cong old _ (λ (m : ℕ). any (λ (x : ℕ). test x && put x m) (take (k + 1) order)) (λ i b. one i);
        }
      where
        last : (b : Bool) → b ≡ cond b true false
        last true = refl
        last false = refl

        one : (m : ℕ) → (any (λ (x : ℕ). test x && put x m) (take k order) || (test (get_or order k 0) && put (get_or order k 0) m)) ≡ any (λ (x : ℕ). test x && put x m) (take (k + 1) order)
        one m =
            ap (λ (b : Bool). any (λ (x : ℕ). test x && put x m) (take k order) || b) (last (test (get_or order k 0) && put (get_or order k 0) m))
            ∙ sym (any_append (λ (x : ℕ). test x && put x m) (take k order) (get_or order k 0 ∷ []))
            ∙ ap (any (λ (x : ℕ). test x && put x m)) (sym (take-suc order k 0 l) ∙ ap (λ (j : ℕ). take j order) (sym (add-one k)))

    -- a member that passes
    pub added_more : (more : List ℕ) → k < length order → test (get_or order k 0) ≡ true → more ≡ join marks (put (get_or order k 0)) → Added test put order old (k + 1) more
    added_more more l t e = step more l (e ∙ join-cong marks (put (get_or order k 0)) _ (λ m b. ap (λ (y : Bool). y && put (get_or order k 0) m) (sym t)))

    -- a member that doesn't
    pub added-skip : k < length order → test (get_or order k 0) ≡ false → Added test put order old (k + 1) marks
    added-skip l t = step marks l (join-none marks _ (λ m b. ap (λ (y : Bool). y && put (get_or order k 0) m) t))

    pub added-end : length order ≤ k → marks ≡ join old (λ (m : ℕ). any (λ (x : ℕ). test x && put x m) order)
    added-end h = a.made ∙ ap (λ (xs : List ℕ). join old (λ (m : ℕ). any (λ (x : ℕ). test x && put x m) xs)) (take_all k order h)
