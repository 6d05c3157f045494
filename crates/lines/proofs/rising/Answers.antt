-- `lines::rising` meets its contract: the members below i are listed, and in the end all are.
-- Assumes nothing.
use Rattle.std.proofs.Common.{length, arith, ◌∙◌}
use Rattle.lists.proofs.Fronts.{sets-front}
use Rattle.lines.specs.Lines.{members, members_refusal}
use Rattle.lines.proofs.Answered.{accepted-by}
use Rattle.lines.proofs.Members.{listing, listing-more, listing-end, fits}
use Rattle.lines.proofs.rising.Goals as goal

pub loop-i-init : goal.loop-i-init
loop-i-init c = listing c.args.marks.now c.args.out.now

pub loop-i-preserved : goal.loop-i-preserved
loop-i-preserved c =
    let a = c.args in
    let l = c.loop-i in
    listing-more a.marks.now a.out.now l.out l.n l.i l.invariant (omega arith) (omega arith)

pub returns : goal.returns
returns c =
    let a = c.args in
    let l = c.loop-i in
    let e = listing-end a.marks.now a.out.now l.out l.n l.i l.invariant (omega arith) in
    let v = accepted-by (members_refusal a.marks.now a.out.now) (length (members a.marks.now)) a.out.now (members a.marks.now) l.n l.out
    (fits a.marks.now a.out.now (omega arith) (omega arith)) e.0
    (e.1 ∙ sets-front a.out.now (members a.marks.now) (omega (arith, e.0, l.invariant.few, l.invariant.below))) in
    record { value = v.0; out_after = v.1 }
