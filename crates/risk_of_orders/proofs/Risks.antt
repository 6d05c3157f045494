-- What is not flagged stands in both sensitive orders and comes early in none; a flagged eligible module is at risk; and where the flagged modules
-- are all planned, the two sensitive orders with the planned modules struck out are the same list.
-- Assumes nothing.
use Rattle.std.specs.Prelude.{◌≡◌, ℕ, ◌<◌, ◌≤◌, Bool, true, false, not, ◌&&◌, ◌||◌, ltb, List}
use mathlib.Core.Path.{sym, ◌∙◌}
use mathlib.Core.Logic.{⊎_elim}
use mathlib.Core.Bool.{true≢false}
use mathlib.Core.List.{Memᴰ}
use native.Mathlib.Decide.{dec_lt}
use native.Mathlib.Omega.{arith}
use borrow.Author.Tests.{lt-ltb}
use Rattle.lists.specs.Words.{keep, elem, has, Distinct}
use Rattle.lists.proofs.Laws.{both, not-true, and_parts, and-join, or_parts, or_left, or_right, mem-any, elem_mem, mem-elem, distinct-keep, has_in, length-marks_of, has-marks_of}
use Rattle.risk_of_orders.specs.Risk.{place, before, just_one, expected_sensitive, actual_sensitive, early, is_flagged, order_risk, cycle_risk, risk_of}
use Rattle.risk_of_orders.proofs.Order.{same-order}

just-first : (a b : Bool) → a ≡ true → b ≡ false → just_one a b ≡ true
just-first a b e f = rw (e, f)

just-second : (a b : Bool) → a ≡ false → b ≡ true → just_one a b ≡ true
just-second a b e f = rw (e, f)

module _ (sensitive eligible : ℕ → Bool) (expected actual hosts : List ℕ) where
  abbrev E : List ℕ
  E = expected_sensitive sensitive eligible expected actual hosts

  abbrev A : List ℕ
  A = actual_sensitive sensitive eligible expected actual hosts

  abbrev Flagged : ℕ → Bool
  Flagged = is_flagged sensitive eligible expected actual hosts

  -- a sensitive module in just one order is flagged
  pub one-flagged : (m : ℕ) → just_one (elem m E) (elem m A) ≡ true → Flagged m ≡ true
  unfolding is_flagged
  one-flagged m e = or_left (just_one (elem m E) (elem m A)) _ e

  -- and so is one that stands before an earlier one of the expected order
  pub early-flagged : (m e : ℕ) → Memᴰ m E → Memᴰ m A → Memᴰ e (before m E) → Memᴰ e A → place m A < place e A → Flagged m ≡ true
  unfolding is_flagged early
  early-flagged m e h k b a l =
      or_right (just_one (elem m E) (elem m A)) _
      (and-join (elem m E) _ (mem-elem m E h)
      (and-join (elem m A) _ (mem-elem m A k) (mem-any (λ (x : ℕ). elem x A && ltb (place m A) (place x A)) (before m E) b (and-join (elem e A) _ (mem-elem e A a) (lt-ltb (place m A) (place e A) l)))))

  module _ (m : ℕ) (n : Flagged m ≡ false) where
    unflagged-actual : Memᴰ m E → Memᴰ m A
    unflagged-actual h =
        ⊎_elim (elem_mem m A) (λ q. absurd (true≢false (sym (one-flagged m (just-first (elem m E) (elem m A) (mem-elem m E h) q)) ∙ n))) (both (elem m A))

    unflagged-expected : Memᴰ m A → Memᴰ m E
    unflagged-expected h =
        ⊎_elim (elem_mem m E) (λ q. absurd (true≢false (sym (one-flagged m (just-second (elem m E) (elem m A) q (mem-elem m A h))) ∙ n))) (both (elem m E))

    unflagged-late : (e : ℕ) → Memᴰ m E → Memᴰ e (before m E) → Memᴰ e A → place e A ≤ place m A
    unflagged-late e h b a = go (dec_lt (place m A) (place e A))
      where
        go : Dec (place m A < place e A) → place e A ≤ place m A
        go (yes l) = absurd (true≢false (sym (early-flagged m e h (unflagged-actual h) b a l) ∙ n))
        go (no l) = omega arith

  -- planned modules struck out, the two sensitive orders are the same list
  pub struck-same : (planned : ℕ → Bool) → Distinct expected → Distinct actual
      → ((m : ℕ) → Memᴰ m E → eligible m ≡ true) → ((m : ℕ) → Memᴰ m A → eligible m ≡ true)
      → ((m : ℕ) → Flagged m ≡ true → eligible m ≡ true → planned m ≡ true)
      → keep (λ (m : ℕ). not (planned m)) E ≡ keep (λ (m : ℕ). not (planned m)) A
  struck-same planned d_e d_a e_e e_a h =
      same-order E A (distinct-keep sensitive expected d_e) (distinct-keep sensitive actual d_a) (λ (m : ℕ). not (planned m))
      (λ x k u. unflagged-actual x (unflagged x (e_e x k) u) k)
      (λ x k u. unflagged-expected x (unflagged x (e_a x k) u) k)
      (λ x e k u. unflagged-late x (unflagged x (e_e x k) u) e k)
    where
      unflagged : (m : ℕ) → eligible m ≡ true → not (planned m) ≡ true → Flagged m ≡ false
      unflagged m g u = ⊎_elim (λ q. absurd (true≢false (sym (h m q g) ∙ not-true (planned m) u))) (λ q. q) (both (Flagged m))

  -- "a flagged eligible module is at risk"
  pub flagged-risk : (cyclic : Bool) (n m : ℕ) → m < n → Flagged m ≡ true → eligible m ≡ true → has (risk_of sensitive eligible expected actual hosts cyclic n) m ≡ true
  unfolding risk_of order_risk
  flagged-risk cyclic n m l f g =
      has-marks_of (λ (x : ℕ). order_risk sensitive eligible expected actual hosts x || cycle_risk eligible expected cyclic x) n m l ∙ or_left (order_risk sensitive eligible expected actual hosts m) _ (and-join (eligible m) _ g (or_left (Flagged m) _ f))

  -- the risk holds eligible modules only
  pub risk-eligible : (cyclic : Bool) (n m : ℕ) → has (risk_of sensitive eligible expected actual hosts cyclic n) m ≡ true → eligible m ≡ true
  unfolding risk_of order_risk cycle_risk
  risk-eligible cyclic n m e =
      let l : m < n = rw (length-marks_of (λ (x : ℕ). order_risk sensitive eligible expected actual hosts x || cycle_risk eligible expected cyclic x) n) at (has_in (risk_of sensitive eligible expected actual hosts cyclic n) m e) in
      let o = or_parts (order_risk sensitive eligible expected actual hosts m) (cycle_risk eligible expected cyclic m) (sym (has-marks_of (λ (x : ℕ). order_risk sensitive eligible expected actual hosts x || cycle_risk eligible expected cyclic x) n m l) ∙ e) in
      ⊎_elim (λ q. (and_parts (eligible m) _ q).0) (λ q. (and_parts (eligible m) _ (and_parts cyclic _ q).1).0) o
