-- `add_risks`: each root is an analysed entry, and its risk is added.
use Rattle.std.proofs.Common.{ℕ, Bool, List, sym, ap, ◌∙◌}
use mathlib.Core.Bool.{true≢false}
use Rattle.lists.specs.Words.{any, has}
use Rattle.tables.specs.Project.{Project}
use Rattle.risk_of_orders.specs.inner.Steps.{join}
use Rattle.at_risk.specs.Promise.{risk_of_entry}
use Rattle.order_analysis.proofs.Adding.{row-analysed, roots-start, roots-put, roots-end}
use Rattle.order_analysis.proofs.inner.add_risks.Goals as goal
use Rattle.order_analysis.proofs.inner.add_risks.Goals.{in-Some, in_default}

-- what a root of a project puts
abbrev put : Project → ℕ → ℕ → Bool
put p root = has (risk_of_entry p root)

pub loop-root-init : goal.loop-root-init
loop-root-init c = roots-start (put c.args.current.now) c.args.roots.now c.args.out.now

pub loop-root-preserved : goal.loop-root-preserved
loop-root-preserved c =
    let p = c.args.current.now in
    let k = c.loop-root.root-index in
    elim c.match-find_entry.branch [
      | in-Some w ↦ roots-put (put p) c.args.roots.now c.args.out.now k c.loop-root.invariant c.loop-root-test.true (w.out-is ∙ (rw (w.in-Some.ensures.1, w.in-Some.ensures.2) at w.add_entry_risk.ensures))
      | in_default w ↦ absurd (true≢false (sym (row-analysed p c.args.roots.now k c.requires.roots c.loop-root-test.true) ∙ w.in_default.ensures))
    ]

pub add_entry_risk-requires-clause-prepared : goal.add_entry_risk-requires-clause-prepared
add_entry_risk-requires-clause-prepared c = rw c.in-Some.ensures.1 c.requires.prepared

pub add_entry_risk-requires-clause-sets : goal.add_entry_risk-requires-clause-sets
add_entry_risk-requires-clause-sets c = c.requires.sets ∙ sym c.in-Some.ensures.1

pub returns : goal.returns
returns c =
    let p = c.args.current.now in
    roots-end (put p) c.args.roots.now c.args.out.now c.loop-root.root-index c.loop-root.invariant c.loop-root-test.false
    ∙ ap (λ (xs : List ℕ). join c.args.out.now (λ (m : ℕ). any (λ (x : ℕ). put p x m) xs)) c.requires.roots
