-- `advance`: a batch that isn't taken yet goes on, and for a new one all that is listed is noted where that can matter.
-- Assumes nothing.
use Rattle.std.proofs.Common.{◌+◌, sym, ◌∙◌, arith}
use lib.ListN.{length-drop}
use lib.Seq.{get_or-drop}
use Rattle.rule_sets.proofs.Sizes.{sensitive-size, candidate-size}
use Rattle.request_queue.specs.inner.Lent.{listing}
use Rattle.worklist_batch.proofs.Noting.{none-sensitive, none_open}
use Rattle.worklist_batch.proofs.inner.advancing.advance.Goals as goal

pub any_sensitive-requires : goal.any_sensitive-requires
any_sensitive-requires c =
    let sets = rw c.rooted.view_is at c.rooted.inside.sets.sets in
    let list = (listing c.args.list.now).list in
    let end = c.args.end in
    rw c.since.ensures
    (λ i l.
    omega (arith, (c.len-count.ensures.listed.placed (end + i) (omega (arith, l, length-drop end list))).0, get_or-drop end list i 0, c.requires.batch.size, sensitive-size _ sets.sensitive_set))

pub returns-then-not-any_sensitive-clause-advanced : goal.returns-then-not-any_sensitive-clause-advanced
returns-then-not-any_sensitive-clause-advanced c =
    let s = rw c.rooted.view_is at c.rooted.invariant in
    let sets = rw c.rooted.view_is at c.rooted.inside.sets.sets in
    let b = c.requires.batch in
    let none = rw (sets.sensitive_set, c.since.ensures) at (c.any_sensitive.ensures c.if-not-any_sensitive.true) in
    rw c.len-count.ensures.count
    record { batch = none-sensitive _ s.accepted _ _ _ _ c.len-count.ensures.listed b.batch none; before = b.ahead; within = omega arith }

pub any_open-requires-clause-one : goal.any_open-requires-clause-one
any_open-requires-clause-one c =
    let sets = rw c.rooted.view_is at c.rooted.inside.sets.sets in
    rw c.marks.ensures (sensitive-size _ sets.sensitive_set ∙ sym c.requires.batch.size)

pub any_open-requires-clause-two : goal.any_open-requires-clause-two
any_open-requires-clause-two c =
    let r = rw (c.reached.view_is, c.requires.same) at c.reached.invariant in
    rw c.marks.ensures (candidate-size _ r ∙ sym c.requires.batch.size)

pub returns-then-not-any_open-clause-advanced : goal.returns-then-not-any_open-clause-advanced
returns-then-not-any_open-clause-advanced c =
    let s = rw c.rooted.view_is at c.rooted.invariant in
    let sets = rw c.rooted.view_is at c.rooted.inside.sets.sets in
    let r = rw (c.reached.view_is, c.requires.same) at c.reached.invariant in
    let b = c.requires.batch in
    let shut = rw (sets.sensitive_set, r.candidate_set, c.marks.ensures) at (c.any_open.ensures c.if-not-any_open.true) in
    rw c.len-count.ensures.count
    record { batch = none_open _ s.accepted _ _ _ _ c.len-count.ensures.listed b.batch shut b.size; before = b.ahead; within = omega arith }

pub returns-clause-advanced : goal.returns-clause-advanced
returns-clause-advanced c =
    record { batch = (rw c.marks-2.ensures at c.note.ensures.batch) c.len-count.result; before = omega (arith, c.requires.batch.ahead, c.len-count.ensures.count); within = omega (arith, c.len-count.ensures.count) }
