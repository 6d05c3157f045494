-- What visits keep, as the slices and the counters hold it.
-- Assumes nothing.
use Rattle.std.specs.Prelude.{◌≡◌, ℕ, ◌+◌, ◌≤◌, List, length}
use mathlib.Core.Path.{refl, sym, ◌∙◌}
use native.Mathlib.Omega.{arith}
use lib.ListN.{length-set}
use Rattle.lists.specs.Words.{zeros}
use Rattle.walk.specs.Walk.{everywhere, Visits}
use Rattle.walk.proofs.Going.{visited-grown, visited-keeps, visited-room}
use Rattle.walk.proofs.Placing.{place-count, place-length}
use Rattle.tables.specs.Readings.{is_normal}
use Rattle.sort_steps.specs.Steps.{Numbered, number}
use Rattle.sort_visit.specs.Visit.{held, Room}

-- from the slices and counters before some visits to those after: as long, and no more is listed or numbered than is newly met
pub record Carried (marks numbers sorted : List ℕ) (placed next : ℕ) (marks' numbers' sorted' : List ℕ) (placed' next' : ℕ) : Type 0 where
  pub marks-len : length marks' ≡ length marks
  pub numbers-len : length numbers' ≡ length numbers
  pub sorted-len : length sorted' ≡ length sorted
  pub fewer : zeros marks' ≤ zeros marks
  pub lists : placed' + zeros marks' ≤ placed + zeros marks
  pub counts : next' + zeros marks' ≤ next + zeros marks

pub room_after : {marks numbers sorted : List ℕ} {placed next : ℕ} {marks' numbers' sorted' : List ℕ} {placed' next' : ℕ}
    → Room marks numbers sorted placed next → Carried marks numbers sorted placed next marks' numbers' sorted' placed' next' → Room marks' numbers' sorted' placed' next'
room_after r c = record {
  places = c.numbers-len ∙ r.places ∙ sym c.marks-len;
  lists = omega (arith, r.lists, c.lists, c.sorted-len);
  counts = omega (arith, r.counts, c.counts);
}

module _ (normal : List ℕ) where
  -- what one numbering keeps

  next-rises : (a : Numbered) (m : ℕ) → (number normal a m).next ≤ a.next + 1
  next-rises a m = omega arith

  placed-rises : (a : Numbered) (m : ℕ) → (number normal a m).list.count ≤ a.list.count + 1
  placed-rises a m = place-count (is_normal normal) a.list m

  numbers-length : (n : ℕ) (a : Numbered) (m : ℕ) → length a.numbers ≡ n → length (number normal a m).numbers ≡ n
  numbers-length n a m e = length-set a.numbers m a.next ∙ e

  sorted-length : (n : ℕ) (a : Numbered) (m : ℕ) → length a.list.order ≡ n → length (number normal a m).list.order ≡ n
  sorted-length n a m e = place-length (is_normal normal) n a.list m e

  -- what visits keep, as the slices and the counters hold it
  pub carried : (succ : ℕ → List ℕ) {marks numbers sorted : List ℕ} {placed next : ℕ} {xs : List ℕ} {marks' numbers' sorted' : List ℕ} {placed' next' : ℕ}
      → Visits succ everywhere (number normal) (held marks numbers sorted placed next) xs (held marks' numbers' sorted' placed' next')
      → Carried marks numbers sorted placed next marks' numbers' sorted' placed' next'
  carried succ {marks} {numbers} {sorted} v =
      let g = visited-grown succ everywhere (number normal) v in
      record {
        marks-len = g.len;
        numbers-len = visited-keeps succ everywhere (number normal) (λ (a : Numbered). length a.numbers ≡ length numbers) (numbers-length (length numbers)) v refl;
        sorted-len = visited-keeps succ everywhere (number normal) (λ (a : Numbered). length a.list.order ≡ length sorted) (sorted-length (length sorted)) v refl;
        fewer = g.fewer;
        lists = visited-room succ everywhere (number normal) (λ (a : Numbered). a.list.count) placed-rises v;
        counts = visited-room succ everywhere (number normal) (λ (a : Numbered). a.next) next-rises v;
      }
