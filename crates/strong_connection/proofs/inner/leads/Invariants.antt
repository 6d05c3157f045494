-- No target that was passed is marked.
use Rattle.std.proofs.Common.{◌≡◌, false}
use Rattle.lists.specs.Words.{any, has}
use Rattle.strong_connection.proofs.inner.leads.Given as goal

abbrev pub invariant-loop-target : goal.invariant-loop-target
invariant-loop-target l = any (has l.marks) l.yielded ≡ false
