-- `extend_entries`: a settled root is passed over, and another's order is extended.
-- Assumes nothing.
use Rattle.std.proofs.Common.{◌≡◌, Bool, true, false, get_or, refl}
use Rattle.std.specs.Prelude.{◌||◌}
use Rattle.lists.proofs.Laws.{mark-in}
use Rattle.lists.proofs.Tests.{or-false}
use Rattle.rule_sets.proofs.Sizes.{roots-in}
use Rattle.suffix_rule.proofs.Extending.{walked_start, walked_skip, walked_step}
use Rattle.suffix_rule.proofs.OfProject.{walked-end}
use Rattle.suffix_rule.proofs.inner.extend_entries.Goals as goal

or_some : (b : Bool) → (b || true) ≡ true
or_some true = refl
or_some false = refl

pub loop-k-init : goal.loop-k-init
loop-k-init c = walked_start _ _ _ _ _ _ c.requires.settled.size c.requires.settled.settles c.requires.plan.bits

pub loop-k-preserved-then-settled-k-ne0 : goal.loop-k-preserved-then-settled-k-ne0
loop-k-preserved-then-settled-k-ne0 c =
    let l = c.loop-k in
    let s = rw c.rooted.view_is at c.rooted.invariant in
    walked_skip _ _ _ _ _ _ _ _ _ l.invariant (rw s.root at c.loop-k-test.true) (mark-in (get_or l.settled l.k 0) c.if-settled-k-ne0.true)

pub loop-k-preserved-then-not-extend_entry : goal.loop-k-preserved-then-not-extend_entry
loop-k-preserved-then-not-extend_entry c =
    let l = c.loop-k in
    let s = rw c.rooted.view_is at c.rooted.invariant in
    rw (c.if-not-extend_entry.true, or-false l.changed) at (walked_step _ _ _ _ _ _ _ _ _ l.invariant (rw s.root at c.loop-k-test.true) (rw s.root at c.extend_entry.ensures))

pub loop-k-preserved : goal.loop-k-preserved
loop-k-preserved c =
    let l = c.loop-k in
    let s = rw c.rooted.view_is at c.rooted.invariant in
    rw (c.if-not-extend_entry.false, or_some l.changed) at (walked_step _ _ _ _ _ _ _ _ _ l.invariant (rw s.root at c.loop-k-test.true) (rw s.root at c.extend_entry.ensures))

pub returns : goal.returns
returns c =
    let s = rw c.rooted.view_is at c.rooted.invariant in
    walked-end _ _ (rw s.root at c.loop-k-test.false) c.loop-k.invariant

pub extend_entry-requires-clause-root : goal.extend_entry-requires-clause-root
extend_entry-requires-clause-root c = roots-in _ (rw c.rooted.view_is at c.rooted.invariant) c.loop-k.k c.loop-k-test.true
