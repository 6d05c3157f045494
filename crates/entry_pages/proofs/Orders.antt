-- The members of an order that pass a test are an order; what was listed, as an array holds it.
-- Assumes nothing.
use Rattle.std.specs.Prelude.{◌≡◌, ℕ, ◌≤◌, Bool, List, length, take, drop}
use mathlib.Core.Path.{sym, ap, ◌∙◌}
use native.Mathlib.Omega.{arith}
use lib.ListN.{length-append}
use lib.Seq.{take_at, length-take-le}
use Rattle.lists.specs.Words.{keep}
use Rattle.lists.proofs.Laws.{mem-keep, distinct-keep, length-keep}
use Rattle.lists.proofs.Members.{get_d-mem}
use Rattle.lists.proofs.Distinct.{few-distinct}
use Rattle.tables.proofs.Accepted.{below-mem}
use Rattle.risk_of_orders.specs.inner.Steps.{Order}
use Rattle.page_rows.specs.inner.Steps.{Members, Listed}

module _ (f : ℕ → Bool) (xs : List ℕ) (n : ℕ) (o : Order xs n) where
  pub keep-order : Order (keep f xs) n
  keep-order = record {
    members = λ i l. below-mem xs o.members (mem-keep f xs (get_d-mem (keep f xs) i l)).0;
    once = distinct-keep f xs o.once;
    few = omega (arith, length-keep f xs, o.few);
  }

  pub keep-fits : length (keep f xs) ≤ n
  keep-fits = few-distinct n (keep f xs) keep-order.once (λ x h. below-mem (keep f xs) keep-order.members h)

pub order-members : (xs : List ℕ) (n : ℕ) → Order xs n → Members xs n
order-members xs n o = record { rows = o.members; few = o.few }

module _ {list old new : List ℕ} {r : ℕ} (w : Listed list old new r) where
  pub held-room : r ≤ length new
  held-room = omega (arith, w.count, ap length w.written, length-append list (drop r old))

  pub held-is : take r new ≡ list
  held-is = ap (take r) w.written ∙ take_at list (drop r old) r (sym w.count)

  pub held-part : r ≡ length (take r new)
  held-part = sym (length-take-le r new held-room)
