-- `reaches_cyclic`: one of the chunks that c reaches has a label, which is not so if none has one.
use Rattle.std.proofs.Common.{◌≡◌, ℕ, List, length, take, replicate, sym, ap, ◌∙◌}
use lib.Seq.{length-take-le}
use Rattle.lists.specs.Words.{any, up_to}
use Rattle.tables.specs.Readings.{values_of}
use Rattle.strong_connection.specs.inner.Marking.{reach_marks}
use Rattle.chunk_cycles.specs.inner.OverTable.{labelled_at}
use Rattle.chunk_cycles.proofs.Reaching.{reach-test, reach-none}
use Rattle.chunk_cycles.proofs.inner.reaches_cyclic.Goals as goal

pub returns-then-count_labelled-eq0 : goal.returns-then-count_labelled-eq0
returns-then-count_labelled-eq0 c =
    let a = c.args in
    reach-none a.from.now a.to.now (length a.labels.now) c.requires.few c.requires.graph a.c (rw c.requires.labels at (sym c.count_labelled.ensures ∙ c.if-count_labelled-eq0.true))

pub returns : goal.returns
returns c =
    let a = c.args in
    let n : ℕ = length a.labels.now in
    let part : length {A = ℕ} (take n (replicate 1024 0)) ≡ n = length-take-le n (replicate 1024 0) c.requires.few in
    let marks = rw (c.new-graph.ensures, part) at c.reach.ensures in
    c.meets_labelled.ensures
    ∙ rw (c.reach.auto.marks, marks, part) (ap (λ (xs : List ℕ). any (labelled_at (reach_marks n (values_of a.from.now a.to.now) a.c) xs) (up_to n)) c.requires.labels ∙ reach-test a.from.now a.to.now n c.requires.few c.requires.graph a.c)
