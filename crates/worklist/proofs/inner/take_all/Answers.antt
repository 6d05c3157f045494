-- `take_all`: it starts from the seeds, and each step is one taking more.
-- Assumes nothing.
use Rattle.std.proofs.Common.{ℕ, length, ap, sym, ◌∙◌, arith}
use lib.ListN.{length-replicate}
use Rattle.tables.specs.Readings.{modules}
use Rattle.rule_sets.proofs.Sizes.{eligible-size}
use Rattle.request_queue.specs.inner.Growing.{Listing}
use Rattle.request_queue.proofs.Growing.{kept_none, kept-on}
use Rattle.worklist_batch.proofs.Noting.{kept_notes, kept-notes-on}
use Rattle.worklist.proofs.Running.{running-start, noted-start, steppable, running-next, noted-next, listed_few}
use Rattle.worklist.proofs.inner.take_all.Goals as goal

pub list_seeds-requires-clause-seeds : goal.list_seeds-requires-clause-seeds
list_seeds-requires-clause-seeds c =
    let sets = rw c.rooted.view_is at c.rooted.inside.sets.sets in
    λ i l. omega (arith, c.requires.seeds i l, eligible-size _ sets.eligible_set)

pub list_seeds-requires-clause-eligible : goal.list_seeds-requires-clause-eligible
list_seeds-requires-clause-eligible c =
    let sets = rw c.rooted.view_is at c.rooted.inside.sets.sets in
    ap (λ (l : Listing). length l.marks) c.requires.fresh.empty ∙ length-replicate {A = ℕ} (modules c.args.rooted.now) 0 ∙ sym (eligible-size _ sets.eligible_set)

pub loop-k-init : goal.loop-k-init
loop-k-init c =
    let s = rw c.rooted.view_is at c.rooted.invariant in
    let sets = rw c.rooted.view_is at c.rooted.inside.sets.sets in
    let h = rw sets.eligible_set at c.list_seeds.ensures.grown in
    record {
      met = kept_none _ c.args.met.now.standing;
      list = c.list_seeds.ensures.kept;
      notes = kept_notes _ c.args.notes.now.led;
      running = running-start _ s.accepted _ _ c.requires.graph c.requires.fresh h;
      noted = noted-start _ _ _ _;
    }

pub step-requires : goal.step-requires
step-requires c =
    let s = rw c.rooted.view_is at c.rooted.invariant in
    let sets = rw c.rooted.view_is at c.rooted.inside.sets.sets in
    let r = rw (c.reached.view_is, c.requires.same) at c.reached.invariant in
    rw (r.candidate_set, sets.eligible_set, c.threads.ensures) (record { steppable = steppable _ s.accepted _ _ c.requires.graph c.loop-k.invariant.running (rw c.len.ensures.count at c.loop-k-test.true) c.advance-end.ensures.advanced })

pub overflow_cast-lengths : goal.overflow_cast-lengths
overflow_cast-lengths c =
    let s = rw c.rooted.view_is at c.rooted.invariant in
    record { fits = omega (arith, c.len-listed.ensures.count, listed_few c.loop-k.invariant.running.state, s.accepted.sizes.normal) }

pub bounds-lengths-k : goal.bounds-lengths-k
bounds-lengths-k c =
    omega (arith, c.loop-k-test.true, c.len.ensures.count, listed_few c.loop-k.invariant.running.state, c.requires.room, c.loop-k.invariant.noted.room)

pub loop-k-smaller : goal.loop-k-smaller
loop-k-smaller c = omega (arith, c.loop-k-test.true, c.len.ensures.count, listed_few c.loop-k.invariant.running.state)

pub loop-k-preserved : goal.loop-k-preserved
loop-k-preserved c =
    let s = rw c.rooted.view_is at c.rooted.invariant in
    let sets = rw c.rooted.view_is at c.rooted.inside.sets.sets in
    let v = c.loop-k.invariant in
    let r = rw (c.reached.view_is, c.requires.same) at c.reached.invariant in
    let h = rw (r.candidate_set, sets.eligible_set, c.threads.ensures) at c.step.ensures.stepped in
    let ahead = rw c.len.ensures.count at c.loop-k-test.true in
    record {
      met = kept-on v.met c.step.ensures.met;
      list = kept-on v.list c.step.ensures.list;
      notes = kept-notes-on v.notes c.advance-end.ensures.kept;
      running = running-next _ s.accepted _ _ c.requires.graph v.running ahead c.advance-end.ensures.advanced h;
      noted = noted-next _ _ _ h.grown.grew c.len-listed.ensures.count v.running.takes (omega (arith, ahead, listed_few v.running.state, c.requires.room)) v.noted;
    }

pub offset_bounds-lengths-k : goal.offset_bounds-lengths-k
offset_bounds-lengths-k c =
    let s = rw c.rooted.view_is at c.rooted.invariant in
    record { fits = omega (arith, c.loop-k-test.true, c.len.ensures.count, listed_few c.loop-k.invariant.running.state, s.accepted.sizes.normal) }
