use Rattle.std.proofs.Common.{sym, arith}
use Rattle.lines.proofs.Printing.{spaced-none, spaced-more, spaced-room}
use Rattle.lines.proofs.Written.{put-none, put_as, put_then, kept}
use Rattle.lines.proofs.lines.Writer.put_fields.Goals as goal

pub loop-n-init : goal.loop-n-init
loop-n-init c = put_as (sym (spaced-none c.args.numbers.now)) (put-none c.args.self.now)

pub put_byte-requires : goal.put_byte-requires
put_byte-requires c =
    let l = c.loop-n in
    omega (arith, spaced-room c.args.numbers.now l.n-index c.loop-n-test.true, kept l.invariant)

pub put_field-requires : goal.put_field-requires
put_field-requires c =
    let l = c.loop-n in
    omega (arith, spaced-room c.args.numbers.now l.n-index c.loop-n-test.true, kept l.invariant, kept c.put_byte.ensures)

pub loop-n-preserved : goal.loop-n-preserved
loop-n-preserved c =
    let l = c.loop-n in
    put_as (spaced-more c.args.numbers.now l.n-index c.loop-n-test.true) (put_then (put_then l.invariant c.put_byte.ensures) c.put_field.ensures)
