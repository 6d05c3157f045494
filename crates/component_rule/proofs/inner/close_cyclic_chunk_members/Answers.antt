-- Labels hit, the chunks that have them, their members, and of these the sensitive eligible ones.
-- Assumes nothing.
use Rattle.std.proofs.Common.{◌≡◌, length, get_or, take, replicate, sym, ◌∙◌, arith}
use Rattle.lists.specs.Words.{ones}
use Rattle.tables.specs.Project.{missing}
use Rattle.current_columns.specs.AsProject.{project}
use Rattle.marks.specs.Steps.{InAll}
use Rattle.marks.proofs.Parts.{part_none, part_length}
use Rattle.marks.proofs.Steps.{added_none, added-cong, ones_none}
use Rattle.component_rule.proofs.Marking.{together-hit, members-together, together-members}
use Rattle.component_rule.proofs.inner.close_cyclic_chunk_members.Goals as goal

pub returns-then-count_marked-eq0 : goal.returns-then-count_marked-eq0
unfolding project
returns-then-count_marked-eq0 c =
    let p = project c.columns.inside in
    let labels = c.args.labels.now in
    let plan = c.args.plan.now in
    let r = rw (← c.columns.view_is) at c.requires in
    let n = length labels in
    let hits = c.mark_labels.new.hits in
    let none : ones hits ≡ 0 = sym c.count_marked.ensures ∙ c.if-count_marked-eq0.true in
    rw (← c.columns.view_is)
    (added_none _ plan
    (λ m l t. absurd (ones_none hits none (get_or labels (get_or p.chunk t.0.planned 0) missing) (together-hit p.chunk p.member_chunk p.member labels plan (take n (replicate 1024 0)) hits (part_length 1024 n r.few_labels) c.mark_labels.ensures m t.0))))

pub returns : goal.returns
unfolding project
returns c =
    let p = project c.columns.inside in
    let a = c.args in
    let labels = a.labels.now in
    let plan = a.plan.now in
    let r = rw (← c.columns.view_is) at c.requires in
    let n = length labels in
    let k = length plan in
    let hits = c.mark_labels.new.hits in
    let chunks = c.look_up.new.out in
    let marks = c.mark_owners.new.marks in
    rw (← c.columns.view_is)
    (added-cong (InAll marks a.sensitive.now a.eligible.now) _
    (λ m l t. (together-members p.chunk p.member_chunk p.member labels plan (take n (replicate 1024 0)) hits (part_length 1024 n r.few_labels) c.mark_labels.ensures chunks (take k (replicate 4096 0)) marks (part_none 1024 n) (part_none 4096 k) r.rows r.inside c.look_up.ensures c.mark_owners.ensures m (omega (arith, part_length 4096 k r.few, l)) t.0, t.1, t.2))
    (λ m t. (members-together p.chunk p.member_chunk p.member labels plan (take n (replicate 1024 0)) hits (part_length 1024 n r.few_labels) c.mark_labels.ensures chunks (take k (replicate 4096 0)) marks (part_none 1024 n) (part_none 4096 k) r.rows r.inside c.look_up.ensures c.mark_owners.ensures m t.0, t.1, t.2))
    c.add.ensures)
