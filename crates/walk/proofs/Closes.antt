-- `close` gives the least closed set, for any rule that asks for more where more is in; and a set between the start and the least closed set
-- that is closed is that set.
-- Assumes nothing.
use mathlib.Core.Path.{◌≡◌, refl, sym, ap, ◌∙◌}
use mathlib.Core.Logic.{◌⊎◌, inl, inr, ⊎_elim}
use mathlib.Core.Bool.{Bool, true, false, not, false≢true}
use mathlib.Core.List.{List, [], ◌∷◌}
use Prim.Native.Nat.{ℕ, zero, suc, ◌+◌, ◌≤◌, ◌<◌}
use native.Mathlib.Nat.{not-suc-le-zero, zero-add, add-zero, add-suc, suc-add}
use native.Mathlib.Decide.{dec_lt}
use native.Mathlib.Omega.{arith}
use lib.ListN.{length, get_or, get_or-eq_default}
use lib.Seq.{ext_get_or}
use Rattle.lists.specs.Words.{is_zero, has, zeros, bit, marks_of}
use Rattle.lists.proofs.Laws.{has_in, length-marks_of, marks_of-at}
use Rattle.walk.specs.Close.{mark, round_from, round, rounds, close, Within, Closed, Monotone, Bits}
use Rattle.walk.proofs.Visits.{zeros-le}

-- one place of a round
round-at : (f : ℕ → Bool) (j : ℕ) (xs : List ℕ) (i : ℕ) → i < length xs → get_or (round_from f j xs) i 0 ≡ mark (f (j + i)) (get_or xs i 0)
round-at f j [] i l = absurd (not-suc-le-zero l)
round-at f j (x ∷ xs) zero l = rw add-zero
round-at f j (x ∷ xs) (suc i) l = rw (add-suc, ← suc-add) (round-at f (suc j) xs i (omega arith))

pub round-len : (f : ℕ → Bool) (j : ℕ) (xs : List ℕ) → length (round_from f j xs) ≡ length xs
round-len f j [] = refl
round-len f j (x ∷ xs) = ap suc (round-len f (suc j) xs)

-- a round changes nothing, or fewer are out after it
round-falls : (f : ℕ → Bool) (j : ℕ) (xs : List ℕ) → (round_from f j xs ≡ xs) ⊎ (zeros (round_from f j xs) < zeros xs)
round-falls f j [] = inl refl
round-falls f j (zero ∷ xs) = go (f j) (round-falls f (suc j) xs)
  where
    go : (b : Bool) → (round_from f (suc j) xs ≡ xs) ⊎ (zeros (round_from f (suc j) xs) < zeros xs)
        → (mark b zero ∷ round_from f (suc j) xs ≡ zero ∷ xs) ⊎ (zeros (mark b zero ∷ round_from f (suc j) xs) < suc (zeros xs))
    go true (inl e) = inr (rw e (omega arith))
    go true (inr l) = inr (omega arith)
    go false (inl e) = inl (ap (λ (l : List ℕ). zero ∷ l) e)
    go false (inr l) = inr (omega arith)
round-falls f j (suc x ∷ xs) = ⊎_elim (λ e. inl (ap (λ (l : List ℕ). suc x ∷ l) e)) (λ l. inr l) (round-falls f (suc j) xs)

has-mark : (b : Bool) (n : ℕ) → not (is_zero (mark b n)) ≡ true → (not (is_zero n) ≡ true) ⊎ (b ≡ true)
has-mark b (suc n) e = inl refl
has-mark true zero e = inr refl
has-mark false zero e = absurd (false≢true e)

mark-has : (b : Bool) (n : ℕ) → b ≡ true → not (is_zero (mark b n)) ≡ true
mark-has b (suc n) e = refl
mark-has true zero e = refl
mark-has false zero e = absurd (false≢true e)

mark-keeps : (b : Bool) (n : ℕ) → not (is_zero n) ≡ true → not (is_zero (mark b n)) ≡ true
mark-keeps b (suc n) e = refl
mark-keeps b zero e = absurd (false≢true e)

module _ (rule : List ℕ → ℕ → Bool) where
  at : (s : List ℕ) (i : ℕ) → i < length s → get_or (round rule s) i 0 ≡ mark (rule s i) (get_or s i 0)
  at s i l = round-at (rule s) zero s i l ∙ ap (λ (j : ℕ). mark (rule s j) (get_or s i 0)) (zero-add i)

  rounds-len : (k : ℕ) (s : List ℕ) → length (rounds rule k s) ≡ length s
  unfolding rounds
  rounds-len zero s = refl
  rounds-len (suc k) s = rounds-len k (round rule s) ∙ round-len (rule s) zero s

  pub close-len : (s : List ℕ) → length (close rule s) ≡ length s
  unfolding close
  close-len s = rounds-len (length s) s

  rounds-fixed : (k : ℕ) (s : List ℕ) → round rule s ≡ s → rounds rule k s ≡ s
  unfolding rounds
  rounds-fixed zero s e = refl
  rounds-fixed (suc k) s e = ap (rounds rule k) e ∙ rounds-fixed k s e

  -- with as many rounds as places are out nothing changes any more
  rounds-end : (k : ℕ) (s : List ℕ) → zeros s ≤ k → round rule (rounds rule k s) ≡ rounds rule k s
  unfolding rounds
  rounds-end zero s z = ⊎_elim (λ e. e) (λ l. absurd (omega arith)) (round-falls (rule s) zero s)
  rounds-end (suc k) s z =
      ⊎_elim
      (λ e. ap (λ (t : List ℕ). round rule (rounds rule k t)) e ∙ ap (round rule) (rounds-fixed k s e) ∙ e ∙ sym (ap (rounds rule k) e ∙ rounds-fixed k s e))
      (λ l. rounds-end k (round rule s) (omega arith))
      (round-falls (rule s) zero s)

  -- a round has what was in and what the rule asks for

  pub round-parts : (s : List ℕ) (i : ℕ) → has (round rule s) i ≡ true → (has s i ≡ true) ⊎ (rule s i ≡ true)
  round-parts s i e =
      let l : i < length s = rw (round-len (rule s) zero s) at (has_in (round rule s) i e) in
      has-mark (rule s i) (get_or s i 0) (sym (ap (λ (n : ℕ). not (is_zero n)) (at s i l)) ∙ e)

  pub round-asked : (s : List ℕ) (i : ℕ) → i < length s → rule s i ≡ true → has (round rule s) i ≡ true
  round-asked s i l r = ap (λ (n : ℕ). not (is_zero n)) (at s i l) ∙ mark-has (rule s i) (get_or s i 0) r

  fixed-closed : (s : List ℕ) → round rule s ≡ s → Closed rule s
  unfolding Closed
  fixed-closed s e i l r = ap (λ (t : List ℕ). has t i) (sym e) ∙ round-asked s i l r

  pub close-closed : (s : List ℕ) → Closed rule (close rule s)
  unfolding close
  close-closed s = fixed-closed (rounds rule (length s) s) (rounds-end (length s) s (zeros-le s))

  pub round-more : (s : List ℕ) → Within s (round rule s)
  unfolding Within
  round-more s i e =
      ap (λ (n : ℕ). not (is_zero n)) (at s i (has_in s i e)) ∙ mark-keeps (rule s i) (get_or s i 0) e

  rounds-more : (k : ℕ) (s : List ℕ) → Within s (rounds rule k s)
  unfolding Within rounds
  rounds-more zero s i e = e
  rounds-more (suc k) s i e = rounds-more k (round rule s) i (round-more s i e)

  pub close_more : (s : List ℕ) → Within s (close rule s)
  unfolding close
  close_more s = rounds-more (length s) s

  module _ (mono : Monotone rule) (t : List ℕ) (c : Closed rule t) where
    round-least : (s : List ℕ) → length s ≡ length t → Within s t → Within (round rule s) t
    unfolding Within Monotone Closed
    round-least s n w i e =
        let l : i < length s = rw (round-len (rule s) zero s) at (has_in (round rule s) i e) in
        ⊎_elim (w i) (λ r. c i (omega arith) (mono s t n w i r)) (round-parts s i e)

    rounds-least : (k : ℕ) (s : List ℕ) → length s ≡ length t → Within s t → Within (rounds rule k s) t
    unfolding rounds
    rounds-least zero s n w = w
    rounds-least (suc k) s n w = rounds-least k (round rule s) (round-len (rule s) zero s ∙ n) (round-least s n w)

    pub close-least : (s : List ℕ) → length s ≡ length t → Within s t → Within (close rule s) t
    unfolding close
    close-least s = rounds-least (length s) s

  -- a closed set between the start and the least closed set is that set
  bit-eq : (a b : ℕ) → a ≤ 1 → b ≤ 1 → (not (is_zero a) ≡ true → not (is_zero b) ≡ true) → (not (is_zero b) ≡ true → not (is_zero a) ≡ true) → a ≡ b
  bit-eq zero zero p q f g = refl
  bit-eq zero (suc b) p q f g = absurd (false≢true (g refl))
  bit-eq (suc a) zero p q f g = absurd (false≢true (f refl))
  bit-eq (suc a) (suc b) p q f g = omega arith

  round-bits : (s : List ℕ) → Bits s → Bits (round rule s)
  unfolding Bits
  round-bits s b i = go (dec_lt i (length s))
    where
      one : (c : Bool) (n : ℕ) → n ≤ 1 → mark c n ≤ 1
      one c (suc n) h = h
      one true zero h = omega arith
      one false zero h = omega arith

      go : Dec (i < length s) → get_or (round rule s) i 0 ≤ 1
      go (yes l) = rw (at s i l) (one (rule s i) (get_or s i 0) (b i))
      go (no l) =
          let n = round-len (rule s) zero s in
          let z : get_or (round rule s) i 0 ≡ 0 = get_or-eq_default (round rule s) 0 (omega arith) in
          omega arith

  rounds-bits : (k : ℕ) (s : List ℕ) → Bits s → Bits (rounds rule k s)
  unfolding rounds
  rounds-bits zero s b = b
  rounds-bits (suc k) s b = rounds-bits k (round rule s) (round-bits s b)

  pub close-bits : (s : List ℕ) → Bits s → Bits (close rule s)
  unfolding close
  close-bits s = rounds-bits (length s) s

  pub close-unique : Monotone rule → (s t : List ℕ) → length t ≡ length s → Bits s → Bits t → Within s t → Closed rule t
      → ((u : List ℕ) → length u ≡ length s → Closed rule u → Within s u → Within t u) → t ≡ close rule s
  unfolding Within Bits
  close-unique mono s t n bs bt w c sound =
      ext_get_or 0 t (close rule s) (n ∙ sym (close-len s))
      (λ i l. bit-eq (get_or t i 0) (get_or (close rule s) i 0) (bt i) (close-bits s bs i) (sound (close rule s) (close-len s) (close-closed s) (close_more s) i) (close-least mono t c s (sym n) w i))

-- two starts, each within what closing the other gives, close to the same set
pub close-same : (rule : List ℕ → ℕ → Bool) → Monotone rule → (s t : List ℕ) → length s ≡ length t → Bits s → Bits t → Within s (close rule t)
    → Within t (close rule s) → close rule s ≡ close rule t
unfolding Within
close-same rule mono s t n bs bt st ts =
    close-unique rule mono t (close rule s) (close-len rule s ∙ n) bt (close-bits rule s bs) ts (close-closed rule s)
    (λ u l c w. close-least rule mono u c s (n ∙ sym l) (λ i e. close-least rule mono u c t (sym l) w i (st i e)))

-- with more at the start, or a rule that asks for more, there is more at the end
pub close-rises : (rule rule' : List ℕ → ℕ → Bool) → Monotone rule → (s t : List ℕ) → length s ≡ length t
    → ((u : List ℕ) → length u ≡ length t → (i : ℕ) → i < length u → rule u i ≡ true → rule' u i ≡ true)
    → Within s t → Within (close rule s) (close rule' t)
unfolding Within Closed
close-rises rule rule' mono s t n more w =
    let u : List ℕ = close rule' t in
    close-least rule mono u (λ i l e. close-closed rule' t i l (more u (close-len rule' t) i l e)) s (n ∙ sym (close-len rule' t)) (λ i e. close_more rule' t i (w i e))

-- the marks of a test are 0 or 1
pub marks_of-bits : (f : ℕ → Bool) (n : ℕ) → Bits (marks_of f n)
unfolding Bits
marks_of-bits f n i = go (dec_lt i n)
  where
    one : (b : Bool) → bit b ≤ 1
    one true = omega arith
    one false = omega arith

    go : Dec (i < n) → get_or (marks_of f n) i 0 ≤ 1
    go (yes l) = rw (marks_of-at f n i l) (one (f i))
    go (no l) =
        let z : get_or (marks_of f n) i 0 ≡ 0 = get_or-eq_default (marks_of f n) 0 (omega (arith, length-marks_of f n)) in
        omega arith
