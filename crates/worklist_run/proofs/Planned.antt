-- A complete chain of takings is the plan.
-- Assumes nothing.
use Rattle.std.specs.Prelude.{◌≡◌, ℕ, List, length}
use mathlib.Core.Path.{sym, ap, ◌∙◌}
use Rattle.lists.specs.Words.{elem, has, marks_of}
use Rattle.lists.proofs.Laws.{iff-eq, marks_of-cong}
use Rattle.tables.specs.Project.{Project}
use Rattle.tables.specs.Readings.{modules}
use Rattle.chunk_cycles.specs.Cycles.{labels_of}
use Rattle.wrap_rules.specs.Plan.{orders_of, plan_from}
use Rattle.wrap_rules.proofs.Monotone.{asked-monotone}
use Rattle.wrap_rules.proofs.Plans.{start-length, start-bits}
use Rattle.wrap_plan.specs.Promise.{plan_of}
use Rattle.takings.specs.Taking.{set_of, Takes}
use Rattle.takings.proofs.Takings.{taken-closes}
use Rattle.worklist_taking.specs.inner.State.{rule_of, start_of}
use Rattle.worklist_taking.proofs.Places.{elem-listed, listed-elem}
use Rattle.worklist_run.specs.inner.Run.{Ran}

-- a list whose members are all taken, each when its turn came, is the plan
pub takings-plan : (p : Project) (seeds list : List ℕ) → Takes (rule_of p) (start_of p seeds) list (length list) → set_of (modules p) list ≡ plan_of p seeds
unfolding plan_of plan_from
takings-plan p seeds list t =
    ap (λ (n : ℕ). set_of n list) (sym (start-length (orders_of p) (labels_of p) p seeds))
    ∙ taken-closes (rule_of p) (asked-monotone (orders_of p) (labels_of p) p) (start_of p seeds) (start-bits (orders_of p) (labels_of p) p seeds) t

-- so the listed modules are
pub taken-plan : (p : Project) (seeds placed lengths lengths' : List ℕ) (count : ℕ) → Ran p seeds placed lengths lengths' count → marks_of (has placed) (length placed) ≡ plan_of p seeds
taken-plan p seeds placed lengths lengths' count r =
    let t = r.taken in
    ap (marks_of (has placed)) t.size
    ∙ marks_of-cong (has placed) (λ (m : ℕ). elem m r.list) (modules p)
    (λ m l. iff-eq (has placed m) (elem m r.list) (listed-elem t.listed m) (elem-listed t.listed m))
    ∙ takings-plan p seeds r.list (rw t.count at t.takes)
