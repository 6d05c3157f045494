-- The share of eligible modules that are planned.
-- Assumes nothing.
use Rattle.std.specs.Prelude.{ℕ, ◌*◌, ◌/◌, ◌%◌, cond, Option, Result}
use Rattle.lists.specs.Words.{is_zero}
use Rattle.tables.specs.Answers.{answer}
use Rattle.tables.specs.declared.Refusal.{Refusal}
use Rattle.share_totals.specs.declared.Share.{Share}

-- "the quotient and remainder of 1,000 times p by e, both 0 where e is 0"
abbrev pub quotient_of : ℕ → ℕ → ℕ
quotient_of e p = cond (is_zero e) 0 (1000 * p / e)

abbrev pub remainder_of : ℕ → ℕ → ℕ
remainder_of e p = cond (is_zero e) 0 (1000 * p % e)

-- "eligible e, planned p", the quotient and the remainder
abbrev pub share_of : ℕ → ℕ → Share
share_of e p = record { eligible = e; planned = p; quotient = quotient_of e p; remainder = remainder_of e p }

-- the outcome of a project: its share, or what refuses it
abbrev pub outcome : Option Refusal → ℕ → ℕ → Result Share Refusal
outcome v e p = answer v (share_of e p)
