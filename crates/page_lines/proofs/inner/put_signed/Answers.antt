use Rattle.std.proofs.Common.{ℕ, ◌≡◌, ◌-◌, ◌++◌, length, nat_abs, sym, ap, ◌∙◌, arith}
use lib.ListN.{length-append, length-replicate}
use mir.Syntax.{w32}
use mir.ValLaws.{to_z-of_z}
use Rattle.form.specs.Form.{bytes, number}
use Rattle.lines.proofs.Written.{put_as, put_then, kept}
use Rattle.page_lines.specs.Line.{right, signed}
use Rattle.page_lines.proofs.Texts.{four-digits, signed_below, signed-else}
use Rattle.page_lines.proofs.Columns.{column}
use Rattle.page_lines.proofs.inner.put_signed.Goals as goal

pub overflow_sub-k : goal.overflow_sub-k
overflow_sub-k c =
    let n : c.unsigned_abs-n.result ≡ nat_abs c.args.d = c.unsigned_abs-n.ensures.value ∙ ap nat_abs (to_z-of_z w32 c.args.d c.ranges.d) in
    omega (arith, four-digits c.unsigned_abs-n.result (omega arith))

pub put_byte-requires : goal.put_byte-requires
put_byte-requires c = omega (arith, length-replicate {A = ℕ} (7 - c.number_len-k.result) 32, kept c.put_spaces.ensures)

pub put_number-requires : goal.put_number-requires
put_number-requires c =
    let n : c.unsigned_abs-n.result ≡ nat_abs c.args.d = c.unsigned_abs-n.ensures.value ∙ ap nat_abs (to_z-of_z w32 c.args.d c.ranges.d) in
    omega (arith, four-digits c.unsigned_abs-n.result (omega arith), length-replicate {A = ℕ} (7 - c.number_len-k.result) 32, kept c.put_spaces.ensures, kept c.put_byte.ensures)

pub returns-then-d-lt0 : goal.returns-then-d-lt0
returns-then-d-lt0 c =
    let same = to_z-of_z w32 c.args.d c.ranges.d in
    let n = c.unsigned_abs-n in
    let text : bytes "-" ++ number n.result ≡ signed c.args.d =
    sym (signed_below c.args.d (rw same at c.if-d-lt0.true) ∙ ap (λ (i : ℕ). bytes "-" ++ number i) (sym (n.ensures.value ∙ ap nat_abs same))) in
    column (signed c.args.d) (7 - c.number_len-k.result) (omega (arith, ap length text, length-append (bytes "-") (number n.result))) c.put_spaces.ensures
    (put_as text (put_then c.put_byte.ensures c.put_number.ensures))

pub returns-else-d-lt0 : goal.returns-else-d-lt0
returns-else-d-lt0 c =
    let same = to_z-of_z w32 c.args.d c.ranges.d in
    put_as (ap right (sym (signed-else c.args.d (rw same at c.if-d-lt0.false) ∙ ap number (sym (c.unsigned_abs-n.ensures.value ∙ ap nat_abs same))))) c.put_number_right.ensures
