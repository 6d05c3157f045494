-- `add_risks`: the risks of the roots that were passed are added.
use Rattle.std.proofs.Common.{◌≡◌}
use Rattle.lists.specs.Words.{has}
use Rattle.risk_of_orders.specs.inner.Steps.{join}
use Rattle.at_risk.specs.Promise.{risk_of_entry}
use Rattle.order_analysis.proofs.Adding.{of_first}
use Rattle.order_analysis.proofs.inner.add_risks.Given as goal

abbrev pub invariant-loop-root : goal.invariant-loop-root
invariant-loop-root l = l.out ≡ join l.fn.out (of_first (λ root. has (risk_of_entry l.current root)) l.roots l.root-index)
