use Rattle.std.proofs.Common.{◌≡◌, ◌+◌, length, take}
use Rattle.form.specs.Form.{spaced}
use Rattle.lines.proofs.lines.room_after.Given as goal

abbrev pub invariant-loop-n : goal.invariant-loop-n
invariant-loop-n l = l.left + length (spaced (take l.n-index l.numbers)) ≡ l.room
