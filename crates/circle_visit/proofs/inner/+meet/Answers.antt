-- `circle_visit::inner::meet` meets its contract.
-- Assumes nothing.
use Rattle.std.proofs.Common.{◌≡◌, ◌<◌, ◌+◌, ◌-◌, ℕ, List, length, get_or, take, drop, refl, sym, subst, ◌∙◌, arith, length-drop}
use lib.ListN.{length-take}
use lib.Seq.{get_or-take, get_or-drop}
use Rattle.circle_search.proofs.Searches.{going_start}
use Rattle.circle_rows.specs.Rows.{led_row}
use Rattle.circle_visit.specs.Visit.{write, led_by, Leads}
use Rattle.circle_visit.proofs.Turns.{place_left, between, missing_passed, numbered_passed, row_met, all_met}
use Rattle.circle_visit.proofs.inner.+meet.Goals as goal

-- a row of a part of the rows
row_of : (led : List ℕ) (first end i : ℕ) → i < length (take (end - first) (drop first led)) → (get_or (take (end - first) (drop first led)) i 0 ≡ get_or led (first + i) 0) × (first + i < length led)
row_of led first end i l =
    let n = length-take (end - first) (drop first led) in
    (get_or-take (end - first) (drop first led) i 0 (omega (arith, n)) ∙ get_or-drop first led i 0, omega (arith, n, length-drop first led))

next : (first i : ℕ) → first + (i + 1) ≡ first + i + 1
next first i = omega arith

pub bounds-stack-depth : goal.bounds-stack-depth
bounds-stack-depth t c = place_left c.requires.leads c.requires.room c.args.paths.now c.args.lengths.now {m = c.args.m} (omega arith) (omega arith)

pub loop-t-init : goal.loop-t-init
loop-t-init t c =
    let first = get_or c.args.starts.now c.args.m 0 in
    let e : first + 0 ≡ first = omega arith in
    rw e (going_start (led_by c.args.starts.now c.args.led.now) write (led_row c.args.led.now) _ _)

pub loop-t-preserved-then-t : goal.loop-t-preserved-then-t
loop-t-preserved-then-t t c =
    let r = row_of c.args.led.now _ _ _ c.loop-t-test.true in
    rw (next _ c.loop-t.t-index) (missing_passed c.args.starts.now c.args.led.now _ _ _ _ (sym r.0 ∙ c.if-t.true) c.loop-t.invariant)

pub bounds-states-t : goal.bounds-states-t
bounds-states-t t c =
    let r = row_of c.args.led.now _ _ _ c.loop-t-test.true in
    let b = between c.requires.leads c.requires.room c.args.paths.now c.args.lengths.now {m = c.args.m} (omega arith) (omega arith) c.loop-t.stack (omega arith) c.loop-t.invariant (omega (arith, r.1)) in
    grind (arith, b.long, r.0, c.requires.leads.within _ r.1)

pub loop-t-preserved-then-states-t-eq2 : goal.loop-t-preserved-then-states-t-eq2
loop-t-preserved-then-states-t-eq2 t c =
    let r = row_of c.args.led.now _ _ _ c.loop-t-test.true in
    let n = rw r.0 at c.if-t.false in
    let e = rw r.0 at c.if-states-t-eq2.true in
    rw (next _ c.loop-t.t-index) (numbered_passed c.args.starts.now c.args.led.now _ _ _ _ _ _ _ _ _ _ n e c.loop-t.invariant)

pub meet-so_far-requires : goal.meet-so_far-requires
meet-so_far-requires t c =
    let r = row_of c.args.led.now _ _ _ c.loop-t-test.true in
    let b = between c.requires.leads c.requires.room c.args.paths.now c.args.lengths.now {m = c.args.m} (omega arith) (omega arith) c.loop-t.stack (omega arith) c.loop-t.invariant (omega (arith, r.1)) in (
      omega (arith, b.fewer, c.decreases),
      (
        subst (Leads c.args.starts.now c.args.led.now) (sym b.long) c.requires.leads,
        (grind (arith, b.long, r.0, c.requires.leads.within _ r.1), b.room),
      ),
    )

pub loop-t-preserved : goal.loop-t-preserved
loop-t-preserved t c =
    let r = row_of c.args.led.now _ _ _ c.loop-t-test.true in
    let n = rw r.0 at c.if-t.false in
    rw (next _ c.loop-t.t-index) (row_met c.args.starts.now c.args.led.now _ _ _ n c.loop-t.invariant (rw r.0 at c.meet-so_far.ensures))

pub returns : goal.returns
returns t c =
    let a = c.args in
    let first = get_or a.starts.now a.m 0 in
    let end = get_or a.starts.now (a.m + 1) 0 in
    let e : first + c.loop-t.t-index ≡ end =
    omega (arith, length-take (end - first) (drop first a.led.now), length-drop first a.led.now, c.requires.leads.ordered a.m (omega arith), c.requires.leads.ends (a.m + 1) (omega arith)) in
    all_met c.requires.leads c.requires.room a.paths.now a.lengths.now {m = a.m} (omega arith) (omega arith) c.loop-t.stack (omega arith) c.loop-t.invariant refl e
