-- Meeting the roots in turn: there is room at each of them.
-- Assumes nothing.
use Rattle.std.specs.Prelude.{◌≡◌, ℕ, ◌*◌, ◌≤◌, List, length}
use mathlib.Core.Path.{sym, ◌∙◌}
use native.Mathlib.Omega.{arith}
use Rattle.walk.proofs.Visits.{zeros-le}
use Rattle.tables.specs.Refusal.{row_limit}
use Rattle.circle_search.specs.inner.Search.{Held, Searches}
use Rattle.circle_search.proofs.Searches.{met-kept, met-keeps, met-room}
use Rattle.circle_visit.specs.Visit.{Listed, write, led_by, held, Leads, Room}
use Rattle.circle_visit.proofs.Turns.{targets-few}

module _ {starts led : List ℕ} (states : List ℕ) (leads : Leads starts led (length states)) (stack paths lengths : List ℕ) (same : length stack ≡ length states) where
  abbrev start : Held Listed
  start = held states stack 0 paths lengths 0 0

  module _ (stack' : List ℕ) {states' paths' lengths' xs : List ℕ} {count used : ℕ} (v : Searches (led_by starts led) write start xs (held states' stack' 0 paths' lengths' count used)) where
    pub root-length : length states' ≡ length states
    root-length = (met-kept (led_by starts led) write v).len

    pub root-next : length stack' ≡ length stack → length xs ≤ 16385 → Room states' stack' 0 count used
    root-next e l = record {
      places = e ∙ same ∙ sym root-length;
      lists = omega (arith, zeros-le states');
      counts = omega (arith, met-room (led_by starts led) write row_limit (targets-few leads) (λ (a : Listed). a.count) (λ a path. omega arith) v, zeros-le states, leads.few, l);
      short =
          met-keeps (led_by starts led) write 4097 (λ (a : Listed). a.used ≤ a.count * 4097) (λ a path k h. omega (arith, k, h)) v
          (omega (arith, zeros-le states, leads.few)) (omega arith);
    }
