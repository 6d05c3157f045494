-- A worklist whose members are all taken is the least closed set.
-- Assumes nothing.
use mathlib.Core.Path.{◌≡◌, refl, sym, ap, subst, ◌∙◌}
use mathlib.Core.Logic.{◌⊎◌, inl, inr, ⊎_elim}
use mathlib.Core.Bool.{Bool, true, false, ◌||◌}
use mathlib.Core.List.Memᴰ
use mathlib.Core.List.{List, [], ◌∷◌, Memᴰ}
use Prim.Native.Nat.{ℕ, zero, suc, ◌+◌, ◌≤◌, ◌<◌}
use native.Mathlib.Omega.{arith}
use native.Mathlib.Decide.{dec_lt}
use lib.ListN.{length, get_or, take, get_or-eq_default}
use Rattle.lists.specs.Words.{elem, has, marks_of, bit}
use Rattle.lists.proofs.Laws.{or_parts, or_left, or_right, has_in, elem_mem, mem-elem, length-marks_of, has-marks_of, marks_of-at}
use Rattle.walk.specs.Close.{close, Within, Closed, Monotone, Bits}
use Rattle.walk.proofs.Closes.{close-unique}
use Rattle.takings.specs.Taking.{set_of, Taking, Takes, start, next}

-- what stands in the first k stands in the first j
take-mem : (k : ℕ) {x : ℕ} (xs : List ℕ) → Memᴰ x (take k xs) → Memᴰ x xs
take-mem zero xs h = absurd (Memᴰ.not-nil h)
take-mem (suc k) [] h = absurd (Memᴰ.not-nil h)
take-mem (suc k) (y ∷ ys) h = ⊎_elim Memᴰ.head (λ q. Memᴰ.tail (take-mem k ys q)) (Memᴰ.cases_cons h)

take-take : (k j : ℕ) (xs : List ℕ) → k ≤ j → take k (take j xs) ≡ take k xs
take-take zero j xs l = refl
take-take (suc k) zero xs l = absurd (omega arith)
take-take (suc k) (suc j) [] l = refl
take-take (suc k) (suc j) (x ∷ xs) l = ap (λ (t : List ℕ). x ∷ t) (take-take k j xs (omega arith))

take_all : (xs : List ℕ) → take (length xs) xs ≡ xs
take_all [] = refl
take_all (x ∷ xs) = ap (λ (t : List ℕ). x ∷ t) (take_all xs)

set-in : (n : ℕ) (xs : List ℕ) (i : ℕ) → has (set_of n xs) i ≡ true → Memᴰ i xs
set-in n xs i e =
    let l : i < n = subst (λ (k : ℕ). i < k) (length-marks_of (λ (x : ℕ). elem x xs) n) (has_in (set_of n xs) i e) in
    elem_mem i xs (sym (has-marks_of (λ (x : ℕ). elem x xs) n i l) ∙ e)

-- what holds after the last taking of a chain
pub last : {rule : List ℕ → ℕ → Bool} {s list : List ℕ} {k : ℕ} → Takes rule s list k → Taking rule s list k
last (start t) = t
last (next b f p t) = t

module _ (rule : List ℕ → ℕ → Bool) (mono : Monotone rule) (s : List ℕ) where
  -- every closed set that holds the start holds the list
  within : {list : List ℕ} {k : ℕ} → Takes rule s list k → (u : List ℕ) → length u ≡ length s → Closed rule u → Within s u → (m : ℕ) → Memᴰ m list → has u m ≡ true
  unfolding Monotone Within Closed
  within {list} (start t) u l c w m h =
      let i = t.inside m (mem-elem m list h) in
      ⊎_elim (w m)
      (λ r. c m (subst (λ (k : ℕ). m < k) (sym l) i) (mono (set_of (length s) (take 0 list)) u (length-marks_of (λ (x : ℕ). elem x (take 0 list)) (length s) ∙ sym l) (λ j e. absurd (Memᴰ.not-nil (set-in (length s) (take 0 list) j e))) m r))
      (or_parts (has s m) (rule (set_of (length s) (take 0 list)) m) (sym (t.holds m i) ∙ mem-elem m list h))
  within (next {list} {list'} {k} b f p t) u l c w m h =
      let i = t.inside m (mem-elem m list' h) in
      let earlier : take (suc k) list' ≡ take (suc k) list = sym (take-take (suc k) (length list) list' (omega arith)) ∙ ap (take (suc k)) p in
      ⊎_elim (w m)
      (λ r. c m (subst (λ (z : ℕ). m < z) (sym l) i)
      (mono (set_of (length s) (take (suc k) list')) u (length-marks_of (λ (x : ℕ). elem x (take (suc k) list')) (length s) ∙ sym l)
      (λ j e. within b u l c w j (take-mem (suc k) list (subst (Memᴰ j) earlier (set-in (length s) (take (suc k) list') j e)))) m r))
      (or_parts (has s m) (rule (set_of (length s) (take (suc k) list')) m) (sym (t.holds m i) ∙ mem-elem m list' h))

  -- with all taken, the list is the least closed set
  pub taken-closes : {list : List ℕ} → Bits s → Takes rule s list (length list) → set_of (length s) list ≡ close rule s
  unfolding Within Closed Bits
  taken-closes {list} bits b =
      let t = last b in
      let n : length (set_of (length s) list) ≡ length s = length-marks_of (λ (x : ℕ). elem x list) (length s) in
      close-unique rule mono s (set_of (length s) list) n bits small
      (λ i e. let l = has_in s i e in has-marks_of (λ (x : ℕ). elem x list) (length s) i l ∙ t.holds i l ∙ or_left (has s i) (rule (set_of (length s) (take (length list) list)) i) e)
      (λ i l r.
      let l' : i < length s = subst (λ (k : ℕ). i < k) n l in
      has-marks_of (λ (x : ℕ). elem x list) (length s) i l' ∙ t.holds i l' ∙ or_right (has s i) (rule (set_of (length s) (take (length list) list)) i) (ap (λ (xs : List ℕ). rule (set_of (length s) xs) i) (take_all list) ∙ r))
      (λ u l c w i e. within b u l c w i (set-in (length s) list i e))
    where
      bit_le : (b : Bool) → bit b ≤ 1
      bit_le true = omega arith
      bit_le false = omega arith

      small : Bits (set_of (length s) list)
      small i = go (dec_lt i (length s))
        where
          go : Dec (i < length s) → get_or (set_of (length s) list) i 0 ≤ 1
          go (yes l) = rw (marks_of-at (λ (x : ℕ). elem x list) (length s) i l) (bit_le (elem i list))
          go (no l) =
              let n = length-marks_of (λ (x : ℕ). elem x list) (length s) in
              let z : get_or (set_of (length s) list) i 0 ≡ 0 = get_or-eq_default (set_of (length s) list) 0 (omega arith) in
              omega arith
