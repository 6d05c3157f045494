use Rattle.std.proofs.Common.{◌≡◌, ◌-◌, ℤ, pos, ◌-ℤ◌, to_z, of_z, sym, ap, ◌∙◌, arith}
use mir.Syntax.{w32}
use mir.ValLaws.{to_z-of_z}
use Rattle.page_lines.proofs.Places.{sub-fits}
use Rattle.lines.proofs.Written.{put_as}
use Rattle.page_lines.specs.Line.{right, signed}
use Rattle.page_lines.proofs.Texts.{shift-both}
use Rattle.page_lines.proofs.Columns.{unexpected, not_met}
use Rattle.page_lines.proofs.inner.put_shift.Goals as goal
use Rattle.page_lines.proofs.inner.put_shift.Goals.{then-expected-eq0, else-expected-eq0}

pub returns-then-actual-eq0 : goal.returns-then-actual-eq0
returns-then-actual-eq0 c =
    elim c.if-expected-eq0.branch [
      | then-expected-eq0 w ↦ unexpected c.args.expected c.args.actual w.if-expected-eq0.true c.put_none.ensures
      | else-expected-eq0 w ↦ not_met c.args.expected c.args.actual (omega arith) c.put_none.ensures
    ]

pub returns-else-actual-eq0 : goal.returns-else-actual-eq0
returns-else-actual-eq0 c =
    let actual = c.args.actual - 1 in
    let expected = c.args.expected - 1 in
    let known : to_z w32 (of_z w32 c.shift.result) ≡ pos actual -ℤ pos expected =
    ap (λ (z : ℤ). to_z w32 (of_z w32 z)) c.shift.ensures ∙ to_z-of_z w32 (pos actual -ℤ pos expected) (sub-fits actual expected (omega arith) (omega arith)) in
    put_as (ap right (ap signed known ∙ sym (shift-both c.args.expected c.args.actual expected actual (omega arith) (omega arith)))) c.put_signed.ensures
