-- The length of so large an array isn't left to the search, which would count its places.
use Rattle.std.proofs.Common.{ℕ, sym}
use Rattle.std.proofs.lemmas.List.{length-replicate}
use Rattle.replay.proofs.main.Goals as goal

pub slice_bounds-replay_input-end : goal.slice_bounds-replay_input-end
slice_bounds-replay_input-end c = sym (length-replicate {A = ℕ} 524288 0)
