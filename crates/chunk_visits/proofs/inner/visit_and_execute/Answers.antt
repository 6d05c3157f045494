-- `chunk_visits::inner::visit_and_execute` meets its contract.
-- Assumes nothing.
use Rattle.chunk_visits.proofs.ChunkVisits.{last_fits, ran}
use Rattle.chunk_visits.proofs.inner.visit_and_execute.Goals as goal

pub execute_members-requires : goal.execute_members-requires
execute_members-requires c =
    let a = c.args in
    let n = c.visit_actual_chunk.new in
    last_fits a.columns.now a.member.now a.chunk_marks.now a.marks.now a.order.now a.hosts.now a.c a.before c.requires.0 a.last.now c.requires.1 n.chunk_marks n.marks n.order n.hosts n.traversal c.visit_actual_chunk.ensures

pub returns : goal.returns
returns c =
    let a = c.args in
    let n = c.visit_actual_chunk.new in
    let m = c.execute_members.new in
    ran a.columns.now a.member.now a.chunk_marks.now a.marks.now a.order.now a.hosts.now a.c a.before c.requires.0 a.last.now n.chunk_marks n.marks n.order n.hosts n.traversal c.visit_actual_chunk.ensures m.marks m.order m.hosts m.traversal c.execute_members.ensures
