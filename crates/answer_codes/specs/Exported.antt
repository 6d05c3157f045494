-- What an exported function answers and promises.
-- Assumes nothing.
use Rattle.std.specs.Prelude.{◌≡◌, List, ℕ, ◌+◌, ◌*◌, ◌^◌, Option, None, Some, Result, Ok, Err}
use Rattle.tables.specs.declared.Refusal.{Refusal}
use Rattle.tables.specs.Answers.{number}
use Rattle.table.specs.Table.{Lent}
use Rattle.plan_conditions.specs.declared.Judgement.{Judgement}
use Rattle.plan_conditions.specs.Conditions.{judgement_number}
use Rattle.planned_load.specs.declared.LoadStep.{LoadStep}
use Rattle.answer_codes.specs.Calls.{Call, Promise}

-- 2 ^ 32 plus the refusal's number
abbrev pub coded_refusal : Refusal → ℕ
coded_refusal r = 2 ^ 32 + number r

-- the count, or the refusal
abbrev pub coded : Result ℕ Refusal → ℕ
coded (Ok c) = c
coded (Err r) = coded_refusal r

-- what is said of a plan: 0 where it is accepted, the number of the broken condition times 2 ^ 16 plus the module, or 2 ^ 32 plus the refusal's number
abbrev pub coded_judgement : Result Judgement Refusal → ℕ
coded_judgement (Ok judgement) = judgement_number judgement
coded_judgement (Err r) = coded_refusal r

-- a step of a tried load: its module times 2 ^ 16 plus its host, 2 ^ 31 where none is left, or 2 ^ 32 plus the refusal's number
abbrev pub coded_step : Result (Option LoadStep) Refusal → ℕ
coded_step (Ok (Some step)) = step.module * 2 ^ 16 + step.host
coded_step (Ok None) = 2 ^ 31
coded_step (Err r) = coded_refusal r

-- the code of an answer that the operation promises
pub record Exported (call : Call) (t : Lent) (first second : List ℕ) (r : ℕ) (first' second' : List ℕ) : Type 0 where
  pub answer : Result ℕ Refusal
  pub code : r ≡ coded answer
  pub promised : Promise call t first second answer first' second'
