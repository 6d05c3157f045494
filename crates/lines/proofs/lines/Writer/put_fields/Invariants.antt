use Rattle.std.proofs.Common.{take}
use Rattle.form.specs.Form.{spaced}
use Rattle.lines.specs.Writing.{Put}
use Rattle.lines.proofs.lines.Writer.put_fields.Given as goal

abbrev pub invariant-loop-n : goal.invariant-loop-n
invariant-loop-n l = Put (spaced (take l.n-index l.numbers)) l.fn.self l.self
