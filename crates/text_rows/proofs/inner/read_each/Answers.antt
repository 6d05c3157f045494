use Rattle.text_rows.proofs.Names.{begun_more, begun_off, begun_all}
use Rattle.text_rows.proofs.inner.read_each.Goals as goal

pub returns-in_err-c : goal.returns-in_err-c
returns-in_err-c c =
    let a = c.args in
    let l = c.loop-l in
    rw c.from_residual.ensures
    (begun_off a.s.now a.out.now a.ends.now l.out l.ends l.c l.l l.invariant c.name_at.result.now c.width.result c.read_list.new.out c.loop-l-test.true c.name_at.ensures c.width.ensures c.in_err-c.ensures.0)

pub loop-l-preserved : goal.loop-l-preserved
loop-l-preserved c =
    let a = c.args in
    let l = c.loop-l in
    begun_more a.s.now a.out.now a.ends.now l.out l.ends l.c l.l l.invariant c.name_at.result.now c.width.result c.read_list.new.out c.loop-l-test.true c.name_at.ensures c.width.ensures c.in_ok-c.c c.in_ok-c.ensures.0 c.in_ok-c.ensures.1

pub returns : goal.returns
returns c =
    let a = c.args in
    let l = c.loop-l in
    begun_all a.s.now a.out.now a.ends.now l.out l.ends l.c l.l l.invariant c.loop-l-test.false
