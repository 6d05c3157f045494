-- `sort_visit::inner::visit` meets its contract. What the turns do is said in `Turns`.
-- Assumes nothing.
use Rattle.sort_steps.specs.declared.inner.Counters.{Counters}
use Rattle.std.proofs.Common.{◌≡◌, ◌+◌, ◌<◌, List, ℕ, sym, subst, arith}
use Rattle.lists.specs.Words.{zeros}
use Rattle.sort_visit.proofs.Turns.{Now, at, Between, turn, between, is-marked, passed, begin, skip, call-ready, fewer, found, leave-ready, ended}
use Rattle.sort_visit.proofs.inner.+visit.Goals as goal
use Rattle.sort_visit.proofs.inner.+visit.Goals.{in-Some, in_default}

same-now : {c c' : Counters} {ms ms' ns ns' ss ss' : List ℕ} → c' ≡ c → ms' ≡ ms → ns' ≡ ns → ss' ≡ ss → at c' ms' ns' ss' ≡ at c ms ns ss
same-now e₁ e₂ e₃ e₄ = cc

pub returns-then-met : goal.returns-then-met
returns-then-met t c =
    let a = c.args in
    passed a.columns.now (at a.counters.now a.marks.now a.numbers.now a.sorted.now) a.m c.met.new.marks c.met.ensures c.if-met.true

pub loop-row-init : goal.loop-row-init
loop-row-init t c =
    let a = c.args in
    let t₀ = at a.counters.now a.marks.now a.numbers.now a.sorted.now in
    let k = is-marked t₀ a.m c.met.new.marks c.met.ensures c.if-met.false in
    let b = begin a.columns.now t₀ a.m a.starts.now c.requires k.0 in
    subst (λ (l : List ℕ). Between a.columns.now t₀ a.m a.starts.now b.row (at a.counters.now l a.numbers.now a.sorted.now)) (sym k.1) (between _ _ _ _ b)

pub visit-requires : goal.visit-requires
visit-requires t c =
    let a = c.args in
    let l = c.loop-row in
    let t₀ = at a.counters.now a.marks.now a.numbers.now a.sorted.now in
    let k = is-marked t₀ a.m c.met.new.marks c.met.ensures c.if-met.false in
    let u = turn a.columns.now t₀ a.m a.starts.now l.row (at l.counters l.marks l.numbers l.sorted) l.invariant in
    let less = c.loop-row-test.true in
    let e = c.in-Some.ensures in (
      (let h : zeros l.marks < zeros a.marks.now = fewer _ t₀ a.m a.starts.now c.requires k.0 u c.in-Some.t less e.leads in omega (arith, h, c.decreases)),
      call-ready _ t₀ a.m a.starts.now c.requires k.0 u c.in-Some.t less e.leads e.within,
    )

pub loop-row-preserved : goal.loop-row-preserved
loop-row-preserved t c =
    let a = c.args in
    let l = c.loop-row in
    let t₀ = at a.counters.now a.marks.now a.numbers.now a.sorted.now in
    let k = is-marked t₀ a.m c.met.new.marks c.met.ensures c.if-met.false in
    let u = turn a.columns.now t₀ a.m a.starts.now l.row (at l.counters l.marks l.numbers l.sorted) l.invariant in
    let less = c.loop-row-test.true in
    let kept : Now → Type 0 = Between a.columns.now t₀ a.m a.starts.now (l.row + 1) in
    elim c.match-unmet.branch [
      | in-Some w ↦
          let v = w.visit.new in
          let b = found a.columns.now t₀ a.m a.starts.now c.requires k.0 u w.in-Some.t less w.in-Some.ensures.leads (at v.counters v.marks v.numbers v.sorted) w.visit.ensures in
          subst kept (sym (same-now w.counters-is w.marks-is w.numbers-is w.sorted-is)) (between _ _ _ _ b)
      | in_default w ↦
          let b = skip a.columns.now t₀ a.m a.starts.now c.requires k.0 u less w.in_default.ensures.leads in
          subst kept (sym (same-now w.counters-is w.marks-is w.numbers-is w.sorted-is)) (between _ _ _ _ b)
    ]

pub leave-requires : goal.leave-requires
leave-requires t c =
    let a = c.args in
    let l = c.loop-row in
    let t₀ = at a.counters.now a.marks.now a.numbers.now a.sorted.now in
    let k = is-marked t₀ a.m c.met.new.marks c.met.ensures c.if-met.false in
    let u = turn a.columns.now t₀ a.m a.starts.now l.row (at l.counters l.marks l.numbers l.sorted) l.invariant in
    leave-ready _ t₀ a.m a.starts.now c.requires k.0 u

pub returns : goal.returns
returns t c =
    let a = c.args in
    let l = c.loop-row in
    let t₀ = at a.counters.now a.marks.now a.numbers.now a.sorted.now in
    let k = is-marked t₀ a.m c.met.new.marks c.met.ensures c.if-met.false in
    let u = turn a.columns.now t₀ a.m a.starts.now l.row (at l.counters l.marks l.numbers l.sorted) l.invariant in
    ended _ t₀ a.m a.starts.now c.requires k.0 u c.loop-row-test.false c.leave.result c.leave.new.numbers c.leave.new.sorted c.leave.ensures
