use Rattle.std.proofs.Common.{ℕ, Bool, true, List, length, refl, subst}
use Rattle.lists.proofs.Laws.{keep_all}
use Rattle.risk_of_orders.specs.inner.Steps.{Ranked}
use Rattle.risk_of_orders.proofs.Places.{placed-start, placed-in, placed_end}
use Rattle.page_rows.proofs.inner.place_members.Goals as goal

-- every member passes
abbrev all : ℕ → Bool
all m = true

pub loop-k-init : goal.loop-k-init
loop-k-init c = placed-start all c.args.order.now (length c.args.places.now) c.args.places.now refl c.requires.zeroed

pub loop-k-preserved : goal.loop-k-preserved
loop-k-preserved c =
    let l = c.loop-k in
    placed-in all c.args.order.now (length c.args.places.now) l.k l.k l.places l.invariant c.loop-k-test.true c.requires.members.once (c.requires.members.members l.k c.loop-k-test.true) refl

pub returns : goal.returns
returns c =
    let a = c.args in
    let l = c.loop-k in
    subst (λ (xs : List ℕ). Ranked xs l.places) (keep_all all a.order.now (λ x h. refl))
    (placed_end all a.order.now (length a.places.now) l.k l.k l.places l.invariant c.loop-k-test.false)
