-- As many marks as modules, and each 0 or 1.
-- Assumes nothing.
use Rattle.std.specs.Prelude.{ℕ, ◌≤◌, ◌↔◌, IsTrue, EachIndex, slice_index}
use Rattle.std.proofs.Common.{rules, arith}
use Rattle.plan_conditions.proofs.Fitting.{fits-all}
use Rattle.plan_conditions.proofs.inner.plan_fits.Goals as goal

pub returns : goal.returns
returns c =
    let plan = c.args.plan.now in
    let h : IsTrue c.all.result ↔ EachIndex plan (λ (k : ℕ). slice_index plan k ≤ 1) = search rules in
    fits-all c.args.n plan c.all.result (omega arith) h
