-- `strong_connection::inner::reach`: a visit over zeroed marks.
-- Assumes nothing.
use Rattle.std.proofs.Common.{rules, ◌≡◌, ℕ, List, length, replicate, subst}
use Rattle.strong_connection.specs.inner.Graph.{successors}
use Rattle.strong_connection.specs.inner.Marking.{Marked, reach_marks}
use Rattle.strong_connection.proofs.Visiting.{marked-reached}
use Rattle.strong_connection.proofs.inner.reach.Goals as goal

pub returns : goal.returns
returns c =
    let succ : ℕ → List ℕ = successors c.args.graph.now in
    let z : c.fill.new.self ≡ replicate (length c.args.marks.now) 0 = search rules in
    subst (λ (n : ℕ). c.visit.new.marks ≡ reach_marks n succ c.args.c) c.requires.size
    (marked-reached succ (length c.args.marks.now) c.args.c c.visit.new.marks (subst (λ (x : List ℕ). Marked succ x c.args.c c.visit.new.marks) z c.visit.ensures))
