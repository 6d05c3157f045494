-- `worklist_run::inner::run_linked`: a run from empty arrays.
-- Assumes nothing.
use Rattle.std.proofs.Common.{◌≡◌, ℕ, length, take, replicate, sym, ◌∙◌, arith}
use Rattle.tables.specs.Readings.{modules}
use Rattle.marks.proofs.Parts.{part_length}
use Rattle.worklist_run.proofs.Starting.{roots_fit, none-settled, fresh-run}
use Rattle.worklist_run.proofs.inner.run_linked.Goals as goal

pub slice_bounds-settled-end : goal.slice_bounds-settled-end
slice_bounds-settled-end c = roots_fit c.rooted.invariant

pub slice_bounds-settled-end-2 : goal.slice_bounds-settled-end-2
slice_bounds-settled-end-2 c = sym (part_length 16384 (length c.rooted.inside.roots.now) (roots_fit c.rooted.invariant))

pub take_all-requires-clause-fresh : goal.take_all-requires-clause-fresh
take_all-requires-clause-fresh c =
    let s = rw c.rooted.view_is at c.rooted.invariant in
    let n = length c.args.placed.now in
    let part : length {A = ℕ} (take n (replicate 4096 0)) ≡ modules c.args.rooted.now = part_length 4096 n (omega (arith, c.requires.size, s.accepted.sizes.normal)) ∙ c.requires.size in
    fresh-run c.new-met.ensures.empty (rw c.requires.size at c.new-list.ensures.empty) (rw (none-settled s, part) at c.new-notes.ensures.empty)
