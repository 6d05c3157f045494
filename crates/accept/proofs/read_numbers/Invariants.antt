-- The loop ends: each round passes a comma.
use Rattle.std.proofs.Common.{length}
use Rattle.accept.proofs.read_numbers.Given as goal

abbrev pub decreases-loop-behind : goal.decreases-loop-behind
decreases-loop-behind l = length l.left
