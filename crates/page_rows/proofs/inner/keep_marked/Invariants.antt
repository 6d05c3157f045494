use Rattle.lists.specs.Words.{has}
use Rattle.page_rows.proofs.Keeping.{Kept}
use Rattle.page_rows.proofs.inner.keep_marked.Given as goal

abbrev pub invariant-loop-m : goal.invariant-loop-m
invariant-loop-m l = Kept (has l.marks) l.order l.fn.kept l.m-index l.count l.kept
