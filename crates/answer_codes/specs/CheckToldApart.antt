-- How a caller tells what is said of a plan, by the exported function's answer alone.
-- Each statement is a type; `proofs/CheckToldApart.antt` inhabits it.
-- Assumes nothing.
use Rattle.std.specs.Prelude.{◌≡◌, ◌⊎◌, List, ℕ, ◌+◌, ◌*◌, ◌^◌, ◌≤◌, ◌<◌, Result, Ok, Err}
use Rattle.tables.specs.Refusal.{module_limit}
use Rattle.tables.specs.Answers.{number}
use Rattle.tables.specs.declared.Refusal.{Refusal}
use Rattle.table.specs.Table.{lent}
use Rattle.plan_conditions.specs.declared.Judgement.{Judgement}
use Rattle.plan_conditions.specs.declared.Judgement.TheVariants.{Accepted, Broken}
use Rattle.plan_check.specs.Promise.{judgement}
use Rattle.answer_codes.specs.Exported.{coded_judgement}

-- the plan is accepted, and r is 0
pub record AcceptedCode (j : Result Judgement Refusal) (r : ℕ) : Type 0 where
  pub accepted : j ≡ Ok Accepted
  pub code : r ≡ 0

-- the plan breaks a condition, of 1 to 6, and r is its number times 2 ^ 16 plus the module, below 4,096
pub record BrokenCode (j : Result Judgement Refusal) (r : ℕ) : Type 0 where
  pub condition : ℕ
  pub named : ℕ
  pub broken : j ≡ Ok (Broken condition named)
  pub code : r ≡ condition * 2 ^ 16 + named
  pub least : 1 ≤ condition
  pub most : condition ≤ 6
  pub inside : named < module_limit

-- the call is refused, and r is 2 ^ 32 plus its number: 1 to 5, 9 or 10
pub record RefusedCode (j : Result Judgement Refusal) (r : ℕ) : Type 0 where
  pub why : Refusal
  pub refused : j ≡ Err why
  pub code : r ≡ 2 ^ 32 + number why
  pub least : 1 ≤ number why
  pub known : (number why ≤ 5) ⊎ ((number why ≡ 9) ⊎ (number why ≡ 10))

abbrev pub ToldBy : Result Judgement Refusal → ℕ → Type 0
ToldBy j r = AcceptedCode j r ⊎ (BrokenCode j r ⊎ RefusedCode j r)

-- every answer of the check is one of the three
unfoldable pub JudgementsAreToldApart : Type 0
JudgementsAreToldApart =
    (runtime dynamic : ℕ) (bounds columns names seeds plan : List ℕ) (r : ℕ) → r ≡ coded_judgement (judgement (lent runtime dynamic bounds columns names) seeds plan)
    → ToldBy (judgement (lent runtime dynamic bounds columns names) seeds plan) r

-- and the answer says which, with its condition and module, or its number: one code is of one judgement
unfoldable pub OneCodeOneJudgement : Type 0
OneCodeOneJudgement = (j k : Result Judgement Refusal) (r : ℕ) → ToldBy j r → ToldBy k r → j ≡ k
