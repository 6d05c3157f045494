-- What the operation `check_plan` promises.
-- Assumes nothing.
use Rattle.std.specs.Prelude.{Bool, cond, List, ℕ, Option, None, Some, Result}
use Rattle.tables.specs.Readings.{modules}
use Rattle.tables.specs.Answers.{answer}
use Rattle.tables.specs.declared.Refusal.{Refusal}
use Rattle.tables.specs.declared.Refusal.TheVariants.{Argument, PlanForm}
use Rattle.table.specs.Table.{Lent}
use Rattle.seeds.specs.Seeds.{seeds_fit}
use Rattle.plan_conditions.specs.Form.{plan_fits}
use Rattle.plan_conditions.specs.Conditions.{judged}
use Rattle.plan_conditions.specs.declared.Judgement.{Judgement}

-- what refuses seeds and a plan: what refuses the project, else 5 for seeds that don't fit, else 9 for such a plan
abbrev pub form_verdict : Option Refusal → Bool → Bool → Option Refusal
form_verdict None seeds plan = cond seeds (cond plan None (Some PlanForm)) (Some Argument)
form_verdict (Some r) seeds plan = Some r

-- what refuses a call: the project's, else 5 for seeds that don't fit, else 9 for a plan that "isn't one mark a module or holds a mark other than 0 and 1"
abbrev pub check_verdict : Lent → List ℕ → List ℕ → Option Refusal
check_verdict t seeds plan = form_verdict t.refused (seeds_fit (modules t.project) seeds) (plan_fits (modules t.project) plan)

-- what a call answers: its refusal, else what is said of the plan; no lent slice changes
unfoldable pub judgement : Lent → List ℕ → List ℕ → Result Judgement Refusal
judgement t seeds plan = answer (check_verdict t seeds plan) (judged t.project seeds plan)
