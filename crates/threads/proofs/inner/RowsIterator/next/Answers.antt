-- `Rows::next`: the row is the first that is left, and its thread leads to the others.
use Rattle.std.proofs.Common.{length, sym, ap, ◌∙◌, arith}
use Rattle.threads.proofs.Going.{rows-step, rows-end}
use Rattle.threads.proofs.inner.RowsIterator.next.Goals as goal

pub returns-then-self-row-clause-steps : goal.returns-then-self-row-clause-steps
returns-then-self-row-clause-steps c = let e = sym c.self.view_is ∙ rows-end _ _ _ c.if-self-row.true in (e, e)

pub returns-clause-steps : goal.returns-clause-steps
returns-clause-steps c = sym c.self.view_is ∙ rows-step _ _ _ _ c.self.invariant (omega arith)

pub returns-clause-goes : goal.returns-clause-goes
returns-clause-goes c =
    let e = sym c.self.view_is ∙ rows-step _ _ _ _ c.self.invariant (omega arith) in
    record { on = λ f. (tt, f, omega (arith, ap length e)); keeps = tt; rests = λ f. tt }
