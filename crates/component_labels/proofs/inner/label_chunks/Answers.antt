-- `component_labels::inner::label_chunks`: what is counted are the labels of the cyclic chunks.
-- Assumes nothing.
use Rattle.component_labels.proofs.Components.{count-cyclic}
use Rattle.std.proofs.Common.{◌≡◌, ℕ, length, take, replicate, ◌∙◌}
use lib.Seq.{length-take-le}
use Rattle.component_labels.proofs.inner.label_chunks.Goals as goal

pub returns : goal.returns
returns c =
    let a = c.args in
    let n : ℕ = length a.labels.now in
    let part : length {A = ℕ} (take n (replicate 1024 0)) ≡ n = length-take-le n (replicate 1024 0) c.requires.few in
    let same = rw (c.new-graph.ensures, part) at c.label_rows.ensures in
    record {
      same = same;
      cyclics = (rw same at c.count_labelled.ensures) ∙ count-cyclic a.from.now a.to.now n c.requires.few c.requires.graph;
    }
