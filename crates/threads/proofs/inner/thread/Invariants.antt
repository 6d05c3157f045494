-- The rows that aren't left are threaded.
use Rattle.std.proofs.Common.{◌≡◌, ◌++◌, length, drop}
use Rattle.threads.proofs.Threading.{Threading}
use Rattle.threads.proofs.inner.thread.Given as goal

abbrev pub invariant-loop-row : goal.invariant-loop-row
invariant-loop-row l =
    let left = l.row-iterator.iter.iter.rest.now in
    record {
      threads : Threading l.column l.heads l.nexts (length left);
      front : left ++ drop (length left) l.column ≡ l.column;
      count : l.row-iterator.iter.count ≡ 0;
    }
