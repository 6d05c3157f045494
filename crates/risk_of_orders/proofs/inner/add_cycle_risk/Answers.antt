-- `risk_of_orders::inner::add_cycle_risk` meets its contract.
-- Assumes nothing.
use Rattle.std.specs.Prelude.{◌≡◌, ℕ, Bool, ◌&&◌, eqb, List}
use mathlib.Core.Path.{refl, sym, ap, ◌∙◌}
use borrow.Author.Tests.{eq-eqb, eqb-true}
use Rattle.lists.specs.Words.{elem, has}
use Rattle.lists.proofs.Laws.{iff-eq, and_parts, and-join, any-mem, mem-any, elem_mem}
use Rattle.risk_of_orders.specs.Risk.{cycle_risk}
use Rattle.risk_of_orders.specs.inner.Steps.{listed}
use Rattle.risk_of_orders.proofs.Joins.{join-none, join-cong}
use Rattle.risk_of_orders.proofs.inner.add_cycle_risk.Goals as goal

-- those of an order that are in a set
listed-elem : (order which : List ℕ) (m : ℕ) → listed order which m ≡ (has which m && elem m order)
listed-elem order which m =
    iff-eq (listed order which m) (has which m && elem m order)
    (λ e.
    let y = any-mem (λ (x : ℕ). has which x && eqb m x) order e in
    let z = and_parts (has which y.0) _ y.2 in
    let q = eqb-true m y.0 z.1 in
    and-join (has which m) _ (ap (has which) q ∙ z.0) (mem-any (eqb m) order y.1 z.1))
    (λ e.
    let z = and_parts (has which m) _ e in
    mem-any (λ (x : ℕ). has which x && eqb m x) order (elem_mem m order z.1) (and-join (has which m) _ z.0 (eq-eqb m m refl)))

pub returns-then-reaches_cycle : goal.returns-then-reaches_cycle
unfolding cycle_risk
returns-then-reaches_cycle c =
    let a = c.args in
    c.mark_listed.ensures
    ∙ join-cong a.out.now (listed a.expected.now a.eligible.now) (cycle_risk (has a.eligible.now) a.expected.now a.reaches_cycle)
    (λ m l. listed-elem a.expected.now a.eligible.now m ∙ ap (λ (b : Bool). b && (has a.eligible.now m && elem m a.expected.now)) (sym c.if-reaches_cycle.true))

pub returns-else-reaches_cycle : goal.returns-else-reaches_cycle
unfolding cycle_risk
returns-else-reaches_cycle c =
    let a = c.args in
    join-none a.out.now (cycle_risk (has a.eligible.now) a.expected.now a.reaches_cycle) (λ m l. ap (λ (b : Bool). b && (has a.eligible.now m && elem m a.expected.now)) c.if-reaches_cycle.false)
