-- A read puts no more bytes than the piece has.
use Rattle.std.proofs.Common.{arith, ℕ, ◌≤◌, Option, None, Some, IfSome}
use Rattle.std.specs.Option.{unwrap_or}
use Rattle.season.proofs.take_some.Goals as goal

read-or-none : (read : Option ℕ) (most : ℕ) → IfSome read (λ n. n ≤ most) → unwrap_or read 0 ≤ most
read-or-none None most h = omega arith
read-or-none (Some n) most h = h

pub slice_bounds-piece-end : goal.slice_bounds-piece-end
slice_bounds-piece-end g c = omega (arith, c.unwrap_or-n.ensures, read-or-none c.read_some.result 4096 c.read_some.ensures, c.read_some.auto.part)
