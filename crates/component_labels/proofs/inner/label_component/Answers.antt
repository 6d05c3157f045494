-- `component_labels::inner::label_component`: an edge of c that leads back to c makes it cyclic, and what both walks meet is its component,
-- whose lowest row is the first that they meet.
-- Assumes nothing.
use Rattle.std.proofs.Common.{◌≡◌, ℕ, length, take, replicate, sym, ◌∙◌, arith}
use lib.Seq.{length-take-le}
use Rattle.component_labels.proofs.Components.{led-back, component-cyclic, component-none}
use Rattle.component_labels.proofs.inner.label_component.Goals as goal

pub returns-then-not-leads : goal.returns-then-not-leads
returns-then-not-leads c =
    let a = c.args in
    let g = a.graph.now in
    let ok = c.requires.graph in
    let behind = rw (c.requires.back) at c.reach.ensures in
    let led = led-back g.from g.to g.places ok a.c c.requires.chunk behind c.leads.ensures in
    component-none g.from g.to g.places ok a.c c.requires.chunk a.labels.now c.requires.size (sym led ∙ c.if-not-leads.true)

pub returns : goal.returns
returns c =
    let a = c.args in
    let g = a.graph.now in
    let ok = c.requires.graph in
    let part : length {A = ℕ} (take c.places-n.result (replicate 1024 0)) ≡ g.places = length-take-le c.places-n.result (replicate 1024 0) (omega arith) ∙ c.places-n.ensures.count in
    let behind = rw (c.requires.back) at c.reach.ensures in
    let led = led-back g.from g.to g.places ok a.c c.requires.chunk behind c.leads.ensures in
    c.label_both.ensures
    ∙ rw (c.first_both-lowest.ensures, c.reach-2.auto.marks ∙ part, c.reach-2.ensures, behind) (component-cyclic g.from g.to g.places ok a.c c.requires.chunk a.labels.now c.requires.size (sym led ∙ c.if-not-leads.false))
