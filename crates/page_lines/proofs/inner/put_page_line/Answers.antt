use Rattle.std.proofs.Common.{ℕ, arith}
use lib.ListN.{length-replicate}
use Rattle.lines.proofs.Written.{put_then, kept}
use Rattle.page_lines.specs.Line.{line_by}
use Rattle.page_lines.proofs.Texts.{number-eight, place-eight, shift-eight, plan-length}
use Rattle.page_lines.proofs.inner.put_page_line.Goals as goal

pub put_place-requires : goal.put_place-requires
put_place-requires c = (c.requires.1, omega (arith, number-eight c.args.m c.requires.0, kept c.put_number_right.ensures))

pub put_place-requires-2 : goal.put_place-requires-2
put_place-requires-2 c =
    (c.requires.2, omega (arith, number-eight c.args.m c.requires.0, place-eight c.args.expected c.requires.1, kept c.put_number_right.ensures, kept c.put_place.ensures))

pub put_shift-requires : goal.put_shift-requires
put_shift-requires c =
    (c.requires.1, c.requires.2, omega (arith, number-eight c.args.m c.requires.0, place-eight c.args.expected c.requires.1, place-eight c.args.actual c.requires.2, kept c.put_number_right.ensures, kept c.put_place.ensures, kept c.put_place-2.ensures))

pub put_spaces-requires : goal.put_spaces-requires
put_spaces-requires c =
    (omega arith, omega (arith, number-eight c.args.m c.requires.0, place-eight c.args.expected c.requires.1, place-eight c.args.actual c.requires.2, shift-eight c.args.expected c.args.actual c.requires.1 c.requires.2, kept c.put_number_right.ensures, kept c.put_place.ensures, kept c.put_place-2.ensures, kept c.put_shift.ensures))

pub put_planned-requires : goal.put_planned-requires
put_planned-requires c =
    omega (arith, number-eight c.args.m c.requires.0, place-eight c.args.expected c.requires.1, place-eight c.args.actual c.requires.2, shift-eight c.args.expected c.args.actual c.requires.1 c.requires.2, length-replicate {A = ℕ} 5 32, kept c.put_number_right.ensures, kept c.put_place.ensures, kept c.put_place-2.ensures, kept c.put_shift.ensures, kept c.put_spaces.ensures)

pub put_byte-requires : goal.put_byte-requires
put_byte-requires c =
    omega (arith, number-eight c.args.m c.requires.0, place-eight c.args.expected c.requires.1, place-eight c.args.actual c.requires.2, shift-eight c.args.expected c.args.actual c.requires.1 c.requires.2, length-replicate {A = ℕ} 5 32, plan-length c.args.planned, kept c.put_number_right.ensures, kept c.put_place.ensures, kept c.put_place-2.ensures, kept c.put_shift.ensures, kept c.put_spaces.ensures, kept c.put_planned.ensures)

pub returns : goal.returns
unfolding line_by
returns c =
    put_then
    (put_then
    (put_then
    (put_then
    (put_then
    (put_then c.put_number_right.ensures c.put_place.ensures)
    c.put_place-2.ensures)
    c.put_shift.ensures)
    c.put_spaces.ensures)
    c.put_planned.ensures)
    c.put_byte.ensures
