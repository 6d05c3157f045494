-- How a caller tells an accepted call from a refused one, by the exported function's answer alone.
-- Each statement is a type; `proofs/ToldApart.antt` inhabits it.
-- Assumes nothing.
use Rattle.std.specs.Prelude.{◌≡◌, ◌⊎◌, Bool, true, false, cond, List, ℕ, ◌+◌, ◌^◌, ◌≤◌, ◌<◌, None, Result, Ok, Err}
use Rattle.tables.specs.Refusal.{module_limit, row_limit}
use Rattle.tables.specs.Answers.{number, refused_of}
use Rattle.tables.specs.declared.Refusal.{Refusal}
use Rattle.answer_codes.specs.Calls.{Call, lent_to, Sort, Circles, Expected, Entries, Actual, Labels, Reach, OrderRisk, CycleRisk, Plan, Takings, Whole, Grounds, Share, Line, Page, Arrange, Load, Test}
use Rattle.answer_codes.specs.Exported.{Exported}

abbrev pub is_circles : Call → Bool
is_circles Circles = true
is_circles Sort = false
is_circles (Expected root) = false
is_circles (Entries entries) = false
is_circles (Actual root) = false
is_circles Labels = false
is_circles (Reach chunk) = false
is_circles (OrderRisk root) = false
is_circles (CycleRisk root) = false
is_circles (Plan seeds) = false
is_circles (Takings seeds) = false
is_circles Whole = false
is_circles Share = false
is_circles (Line root number) = false
is_circles (Page root grounds plan) = false
is_circles (Arrange names) = false
is_circles (Load root plan) = false
is_circles Grounds = false
is_circles Test = false

-- a count is 4,096 at most, that of circles 2 ^ 27, that of member rows 16,384, that of a page's bytes 41 times 4,096
abbrev pub count_limit : Call → ℕ
count_limit Circles = 2 ^ 27
count_limit (Arrange names) = row_limit
count_limit Sort = module_limit
count_limit (Expected root) = module_limit
count_limit (Entries entries) = module_limit
count_limit (Actual root) = module_limit
count_limit Labels = module_limit
count_limit (Reach chunk) = module_limit
count_limit (OrderRisk root) = module_limit
count_limit (CycleRisk root) = module_limit
count_limit (Plan seeds) = module_limit
count_limit (Takings seeds) = module_limit
count_limit Whole = module_limit
count_limit Grounds = module_limit
count_limit Share = module_limit
count_limit (Load root plan) = module_limit
count_limit (Line root number) = module_limit
count_limit (Page root grounds plan) = 167936
count_limit Test = module_limit

abbrev pub is_load : Call → Bool
is_load (Load root plan) = true
is_load Sort = false
is_load Circles = false
is_load (Expected root) = false
is_load (Entries entries) = false
is_load (Actual root) = false
is_load Labels = false
is_load (Reach chunk) = false
is_load (OrderRisk root) = false
is_load (CycleRisk root) = false
is_load (Plan seeds) = false
is_load (Takings seeds) = false
is_load Whole = false
is_load Grounds = false
is_load Share = false
is_load (Line root number) = false
is_load (Page root grounds plan) = false
is_load (Arrange names) = false
is_load Test = false

-- the number of a refusal is 6 at most, that of circles 8, that of a tried load 9, or 10
abbrev pub number_limit : Call → ℕ
number_limit call = cond (is_load call) 9 (cond (is_circles call) 8 6)

-- the call is accepted, and r is its count
pub record AcceptedWith (call : Call) (answer : Result ℕ Refusal) (r : ℕ) : Type 0 where
  pub accepted : answer ≡ Ok r
  pub within : r ≤ count_limit call

-- the call is refused, and r is 2 ^ 32 plus its number, 1 at least
pub record RefusedWith (call : Call) (answer : Result ℕ Refusal) (r : ℕ) : Type 0 where
  pub why : Refusal
  pub refused : answer ≡ Err why
  pub code : r ≡ 2 ^ 32 + number why
  pub least : 1 ≤ number why
  pub known : (number why ≤ number_limit call) ⊎ (number why ≡ 10)

-- every answer is one of the two
unfoldable pub AnswersAreToldApart : Type 0
AnswersAreToldApart =
    (call : Call) (runtime dynamic : ℕ) (bounds columns names first second : List ℕ) (r : ℕ) (first' second' : List ℕ)
    (e : Exported call (lent_to call runtime dynamic bounds columns names) first second r first' second') → AcceptedWith call e.answer r ⊎ RefusedWith call e.answer r

-- an answer is below 2 ^ 32 exactly if the call is accepted
unfoldable pub BelowExactlyIfAccepted : Type 0
BelowExactlyIfAccepted =
    (call : Call) (runtime dynamic : ℕ) (bounds columns names first second : List ℕ) (r : ℕ) (first' second' : List ℕ)
    (e : Exported call (lent_to call runtime dynamic bounds columns names) first second r first' second')
    → (r < 2 ^ 32 → refused_of e.answer ≡ None) × (refused_of e.answer ≡ None → r < 2 ^ 32)
