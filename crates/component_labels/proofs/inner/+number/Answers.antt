-- `component_labels::inner::number` meets its contract. The measure is the number of chunks that have no number.
-- Assumes nothing.
use Rattle.std.specs.Prelude.{◌≡◌, ℕ, suc, ◌+◌, ◌<◌, ◌≤◌, List, length, get_or, set}
use mathlib.Core.Path.{◌∙◌}
use native.Mathlib.Omega.{arith}
use Rattle.lists.specs.Words.{zeros}
use Rattle.walk.proofs.Visits.{set-zeros, fresh-zero}
use Rattle.tables.specs.Refusal.{chunk_limit}
use Rattle.threads.proofs.Turns.{turn-below}
use Rattle.component_labels.specs.inner.Labelling.{Numbered}
use Rattle.component_labels.proofs.Numbers.{numbered-left}
use Rattle.component_labels.proofs.inner.+number.Goals as goal

-- plain facts that the answers use
under : (old new : List ℕ) {last count t : ℕ} {numbers : List ℕ} → Numbered last new count numbers → suc (zeros new) ≡ zeros old → zeros old ≡ t → zeros numbers < t
under old new v q r = omega (arith, v.on, v.few)

few : (old new numbers : List ℕ) (last count : ℕ) → Numbered last new count numbers → suc (zeros new) ≡ zeros old → last + zeros old ≤ chunk_limit → count + zeros numbers < chunk_limit
few old new numbers last count v q r = omega (arith, v.few)

one_less : (old : List ℕ) (m : ℕ) → m < length old → get_or old m 0 ≡ 0 → suc (zeros (set old m 1)) ≡ zeros old
one_less old m p q = set-zeros old m (fresh-zero old m p q)

room : (old numbers : List ℕ) (m last count : ℕ) → m < length old → get_or old m 0 ≡ 0 → Numbered last (set old m 1) count numbers → last + zeros old ≤ chunk_limit → count + zeros numbers < chunk_limit
room old numbers m last count p q v r = few old (set old m 1) numbers last count v (one_less old m p q) r

pub number-count-requires : goal.number-count-requires
number-count-requires t c =
    let a = c.args in
    let v = c.loop-target.invariant in
    let below : a.m < length a.numbers.now = omega (arith, c.requires.size, c.requires.chunk) in
    let o = one_less a.numbers.now a.m below c.if-numbers-at-ne0.false in
    let inside : c.in-Some.target < a.graph.now.places = turn-below _ c.loop-target.yielded _ _ c.loop-target.yielded_by c.in-Some.ensures.steps (rw c.into_iter-target-iterator.ensures.into_iter_gives c.targets-target-items.ensures.inside) in (
      under a.numbers.now (set a.numbers.now a.m 1) v.1 o c.decreases,
      (v.0 ∙ c.requires.size, (inside, let h = few a.numbers.now (set a.numbers.now a.m 1) c.loop-target.numbers a.last c.loop-target.count v.1 o c.requires.few in omega arith)),
    )

pub overflow_add-numbers : goal.overflow_add-numbers
overflow_add-numbers t c =
    let h = room c.args.numbers.now c.loop-target.numbers c.args.m c.args.last c.loop-target.count (omega (arith, c.requires.size, c.requires.chunk)) c.if-numbers-at-ne0.false c.loop-target.invariant.1 c.requires.few in
    omega arith

pub overflow_add-result : goal.overflow_add-result
overflow_add-result t c =
    let h = room c.args.numbers.now c.loop-target.numbers c.args.m c.args.last c.loop-target.count (omega (arith, c.requires.size, c.requires.chunk)) c.if-numbers-at-ne0.false c.loop-target.invariant.1 c.requires.few in
    omega arith

pub returns : goal.returns
returns t c =
    numbered-left c.args.last c.loop-target.count c.args.m c.args.numbers.now c.loop-target.numbers
    (fresh-zero c.args.numbers.now c.args.m (omega (arith, c.requires.size, c.requires.chunk)) c.if-numbers-at-ne0.false) c.loop-target.invariant.1
