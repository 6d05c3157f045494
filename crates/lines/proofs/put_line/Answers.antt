use Rattle.std.proofs.Common.{rules, length, ap, refl, arith}
use Rattle.lines.proofs.Printing.{line-length, refused, written}
use Rattle.lines.proofs.Written.{put_whole, kept, ended}
use Rattle.lines.proofs.put_line.Goals as goal

pub returns-then-out-word : goal.returns-then-out-word
returns-then-out-word c =
    let a = c.args in
    let r = refused a.out.now a.word.now a.entry.now a.numbers.now (omega (arith, line-length a.word.now a.entry.now a.numbers.now)) in
    record { value = r.0; out_after = r.1 }

pub returns-in_default : goal.returns-in_default
returns-in_default c =
    let a = c.args in
    let r = refused a.out.now a.word.now a.entry.now a.numbers.now (omega (arith, line-length a.word.now a.entry.now a.numbers.now, c.in_default.ensures)) in
    record { value = r.0; out_after = r.1 }

pub returns-in_default-behind_all : goal.returns-in_default-behind_all
returns-in_default-behind_all c =
    let a = c.args in
    let n = line-length a.word.now a.entry.now a.numbers.now in
    let r = refused a.out.now a.word.now a.entry.now a.numbers.now (omega (arith, n, c.in-Some.ensures, c.in_default-behind_all.ensures)) in
    record { value = r.0; out_after = r.1 }

pub put_fields-requires : goal.put_fields-requires
put_fields-requires c =
    let a = c.args in
    let n = line-length a.word.now a.entry.now a.numbers.now in
    omega (arith, ap length c.new-line.ensures.start.1, c.in-Some.ensures, c.in-Some-behind_all.ensures, kept c.put_bytes.ensures)

pub put_fields-requires-2 : goal.put_fields-requires-2
put_fields-requires-2 c =
    omega (arith, ap length c.new-line.ensures.start.1, c.in-Some.ensures, c.in-Some-behind_all.ensures, kept c.put_bytes.ensures, kept c.put_fields.ensures)

pub put_byte-requires : goal.put_byte-requires
put_byte-requires c =
    omega (arith, ap length c.new-line.ensures.start.1, c.in-Some.ensures, c.in-Some-behind_all.ensures, kept c.put_bytes.ensures, kept c.put_fields.ensures, kept c.put_fields-2.ensures)

pub returns : goal.returns
returns c =
    let a = c.args in
    let n = line-length a.word.now a.entry.now a.numbers.now in
    let p = put_whole a.entry.now a.numbers.now c.put_bytes.ensures c.put_fields.ensures c.put_fields-2.ensures c.put_byte.ensures in
    let r = written a.out.now a.word.now a.entry.now a.numbers.now c.put_byte.new.self.out.now c.len.result
    (omega (arith, n, c.in-Some.ensures, c.in-Some-behind_all.ensures)) (ended c.new-line.ensures.start p c.len.ensures refl) in
    record { value = r.0; out_after = search rules }
