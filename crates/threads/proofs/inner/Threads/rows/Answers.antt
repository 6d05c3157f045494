-- `Threads::rows`: the head leads to the first row.
use Rattle.std.proofs.Common.{ap, ◌∙◌}
use Rattle.tables.specs.Readings.{rows_of}
use Rattle.threads.specs.inner.Rows.{Column}
use Rattle.threads.proofs.Going.{rows-start, rows-there}
use Rattle.threads.proofs.inner.Threads.rows.Goals as goal

pub returns-clause-list : goal.returns-clause-list
returns-clause-list c =
    rows-start _ _ _ (c.self.invariant.first c.args.value (rw (← c.self.view_is) at c.requires))
    ∙ ap (λ (t : Column). rows_of t.values c.args.value) c.self.view_is

pub returns-clause-there : goal.returns-clause-there
returns-clause-there c = rw (← c.self.view_is, rows-start _ _ _ (c.self.invariant.first c.args.value (rw (← c.self.view_is) at c.requires))) (rows-there _ _)
