-- The first rows of all values: the rows' ends, and the greatest up to each place.
-- Assumes nothing.
use Rattle.std.specs.Prelude.{◌≡◌, ℕ, ◌+◌, ◌-◌, ◌<◌, ◌≤◌, ◌⊎◌, List, length, get_or, set, replicate}
use mathlib.Core.Path.{ap}
use mathlib.Core.Logic.{⊎_elim}
use native.Mathlib.Nat.{le_refl}
use native.Mathlib.Decide.{ℕ_discrete, dec_lt}
use native.Mathlib.Omega.{arith}
use lib.ListN.{length-set}
use lib.Seq.{get_or-set_same, get_or-set_other}
use Rattle.lists.proofs.Fronts.{zeros-at}
use Rattle.tables.specs.Lookups.{Rising, FirstRows, greater_of, RowEnds}
use Rattle.tables.proofs.Greater.{greater-first, greater-second, greater-one}

pub ends-none : (xs : List ℕ) (n : ℕ) → RowEnds xs (replicate n 0) 0
ends-none xs n =
    record {
      within = λ x. omega (arith, zeros-at n x);
      below = λ x i h. absurd (omega (arith, zeros-at n x));
      behind = λ i h l. absurd (omega arith);
    }

module _ (xs starts : List ℕ) (n : ℕ) (ends : RowEnds xs starts n) where
  -- a row whose next value has no place
  pub ends-past : length starts ≤ get_or xs n 0 + 1 → RowEnds xs starts (n + 1)
  ends-past out =
      record {
        within = λ x. omega (arith, ends.within x);
        below = ends.below;
        behind = λ i h l. go i l (ℕ_discrete i n) h;
      }
    where
      go : (i : ℕ) → get_or xs i 0 + 1 < length starts → Dec (i ≡ n) → i < n + 1 → i < get_or starts (get_or xs i 0 + 1) 0
      go i l (yes e) h = absurd (omega (arith, ap (λ (k : ℕ). get_or xs k 0) e))
      go i l (no d) h = ends.behind i (omega arith) l

  -- a place x raised to v
  module _ (x v : ℕ) (place : x < length starts) (grows : get_or starts x 0 ≤ v) where
    pub grown : (y : ℕ) → get_or starts y 0 ≤ get_or (set starts x v) y 0
    grown y = go (ℕ_discrete y x)
      where
        go : Dec (y ≡ x) → get_or starts y 0 ≤ get_or (set starts x v) y 0
        go (yes e) = rw (e, get_or-set_same starts x v 0 place) grows
        go (no d) = rw (get_or-set_other starts x y v 0 d) (le_refl _)

    pub ends-raised : (m : ℕ) → n ≤ m → v ≤ m → ((i : ℕ) → i < v → get_or xs i 0 < x)
        → ((i : ℕ) → n ≤ i → i < m → (get_or xs i 0 + 1 ≡ x) × (i < v)) → RowEnds xs (set starts x v) m
    ends-raised m more top front new =
        record {
          within = λ y. at (λ (r : ℕ). r ≤ m) y (λ e. top) (omega (arith, ends.within y));
          below = λ y i. at (λ (r : ℕ). i < r → get_or xs i 0 < y) y (λ e h. omega (arith, front i h)) (ends.below y i);
          behind = λ i h l. met i h (rw (length-set starts x v) at l) (dec_lt i n);
        }
      where
        at : (P : ℕ → Type 0) (y : ℕ) → (y ≡ x → P v) → P (get_or starts y 0) → P (get_or (set starts x v) y 0)
        at P y same other = go (ℕ_discrete y x)
          where
            go : Dec (y ≡ x) → P (get_or (set starts x v) y 0)
            go (yes e) = rw (e, get_or-set_same starts x v 0 place) (same e)
            go (no d) = rw (get_or-set_other starts x y v 0 d) other

        met : (i : ℕ) → i < m → get_or xs i 0 + 1 < length starts → Dec (i < n) → i < get_or (set starts x v) (get_or xs i 0 + 1) 0
        met i h l (yes b) = omega (arith, ends.behind i b l, grown (get_or xs i 0 + 1))
        met i h l (no b) = let w = new i (omega arith) h in rw (w.0, get_or-set_same starts x v 0 place) w.1

-- a row, at its next value's place
pub ends-row : (xs starts : List ℕ) (n : ℕ) → RowEnds xs starts n → Rising xs → n < length xs → get_or xs n 0 + 1 < length starts → RowEnds xs (set starts (get_or xs n 0 + 1) (n + 1)) (n + 1)
unfolding Rising
ends-row xs starts n ends rising h l =
    ends-raised xs starts n ends (get_or xs n 0 + 1) (n + 1) l (omega (arith, ends.within (get_or xs n 0 + 1))) (n + 1) (omega arith) (le_refl _)
    (λ i b. omega (arith, rising i n (omega arith) h))
    (λ i b t. let e : i ≡ n = omega arith in (ap (λ (k : ℕ). get_or xs k 0 + 1) e, omega arith))

-- the rows of the values below y are before its start, for every y before x
unfoldable pub Carried : List ℕ → List ℕ → ℕ → Type 0
Carried xs starts x = (y i : ℕ) → y < x → i < length xs → get_or xs i 0 < y → i < get_or starts y 0

pub carried_none : (xs starts : List ℕ) → Carried xs starts 1
unfolding Carried
carried_none xs starts y i h l b = absurd (omega arith)

-- one place more takes the greater of its own start and the one before
module _ (xs starts : List ℕ) (x v : ℕ) (ends : RowEnds xs starts (length xs)) (some : 1 ≤ x) (place : x < length starts) (most : v ≡ greater_of (get_or starts (x - 1) 0) (get_or starts x 0)) where
  first : get_or starts (x - 1) 0 ≤ v
  first = rw most (greater-first (get_or starts (x - 1) 0) (get_or starts x 0))

  second : get_or starts x 0 ≤ v
  second = rw most (greater-second (get_or starts (x - 1) 0) (get_or starts x 0))

  one : (v ≡ get_or starts (x - 1) 0) ⊎ (v ≡ get_or starts x 0)
  one = rw most (greater-one (get_or starts (x - 1) 0) (get_or starts x 0))

  pub ends-carried : RowEnds xs (set starts x v) (length xs)
  ends-carried =
      ends-raised xs starts (length xs) ends x v place second (length xs) (le_refl _)
      (⊎_elim (λ e. omega (arith, ends.within (x - 1))) (λ e. omega (arith, ends.within x)) one)
      (λ i h. ⊎_elim (λ e. omega (arith, ends.below (x - 1) i (omega arith))) (λ e. ends.below x i (omega arith)) one)
      (λ i h l. absurd (omega arith))

  pub carried-more : Carried xs starts x → Carried xs (set starts x v) (x + 1)
  unfolding Carried
  carried-more c y i h l b = go (ℕ_discrete y x)
    where
      go : Dec (y ≡ x) → i < get_or (set starts x v) y 0
      go (no d) = rw (get_or-set_other starts x y v 0 d) (c y i (omega arith) l b)
      go (yes e) = rw (e, get_or-set_same starts x v 0 place) (last (ℕ_discrete (get_or xs i 0 + 1) x))
        where
          last : Dec (get_or xs i 0 + 1 ≡ x) → i < v
          last (yes q) = omega (arith, ends.behind i l (omega arith), ap (λ (k : ℕ). get_or starts k 0) q, second)
          last (no q) = omega (arith, c (x - 1) i (omega arith) l (omega arith), first)

pub carried-all : (xs starts : List ℕ) (x : ℕ) → length starts ≤ x → RowEnds xs starts (length xs) → Carried xs starts x → FirstRows xs starts
unfolding Carried
carried-all xs starts x all ends c =
    record {
      firsts = λ y h.
          record { within = ends.within y; below = ends.below y; above = λ i l k. go y h i l k (dec_lt (get_or xs i 0) y) };
    }
  where
    go : (y : ℕ) → y < length starts → (i : ℕ) → get_or starts y 0 ≤ i → i < length xs → Dec (get_or xs i 0 < y) → y ≤ get_or xs i 0
    go y h i l k (yes b) = absurd (omega (arith, c y i (omega arith) k b))
    go y h i l k (no b) = omega arith

-- what the loops of the look-ups keep
pub ruleset end_steps = (ends-none, ends-past, ends-row)

pub ruleset start_steps = (carried_none, ends-carried, carried-more, carried-all)
