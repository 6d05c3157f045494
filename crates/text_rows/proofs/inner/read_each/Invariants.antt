use Rattle.text_rows.proofs.Names.{Begun}
use Rattle.text_rows.proofs.inner.read_each.Given as goal

abbrev pub invariant-loop-l : goal.invariant-loop-l
invariant-loop-l l = Begun l.s l.fn.out l.fn.ends l.out l.ends l.c l.l
