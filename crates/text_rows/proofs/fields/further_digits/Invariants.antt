use Rattle.std.proofs.Common.{◌≡◌, ◌<◌, drop, ◌+◌}
use Rattle.tables.specs.Project.{missing}
use Rattle.form.specs.Parse.{further}
use Rattle.text_rows.proofs.fields.further_digits.Given as goal

abbrev pub invariant-loop-k : goal.invariant-loop-k
invariant-loop-k l = (0 < l.v) × (l.v < missing) × (further l.first (drop l.from l.s) ≡ further l.v (drop (l.from + l.k) l.s))
