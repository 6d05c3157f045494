-- The share of a project, and what its operations promise.
-- Assumes nothing.
use Rattle.std.specs.Prelude.{◌≡◌, ℕ, true, List, [], ◌∷◌, length, nat_le, Option, Result}
use Rattle.tables.specs.Project.{Project}
use Rattle.tables.specs.Answers.{verdict, answer, after}
use Rattle.tables.specs.declared.Refusal.{Refusal}
use Rattle.table.specs.Table.{Lent}
use Rattle.share_totals.specs.declared.Share.{Share}
use Rattle.share_totals.specs.Shares.{quotient_of, remainder_of, outcome}
use Rattle.table_share.specs.Counts.{eligible_count, planned_count}

-- a project's outcome: its share, or what its tests refuse it for
abbrev pub outcome_of : Lent → Result Share Refusal
outcome_of t = outcome t.refused (eligible_count t.project) (planned_count t.project)

-- the four numbers of a share
abbrev pub share_numbers : Project → List ℕ
share_numbers p = eligible_count p ∷ planned_count p ∷ quotient_of (eligible_count p) (planned_count p) ∷ remainder_of (eligible_count p) (planned_count p) ∷ []

-- what refuses a call that writes them: 6 for a slice shorter than 4, and never 5
abbrev pub share_verdict : Lent → ℕ → Option Refusal
share_verdict t room = verdict t.refused true (nat_le 4 room)

-- such a call's answer, and the slice that it leaves
pub record WrittenShare (t : Lent) (out : List ℕ) (r : Result ℕ Refusal) (out' : List ℕ) : Type 0 where
  pub answered : r ≡ answer (share_verdict t (length out)) 4
  pub written : out' ≡ after (share_verdict t (length out)) out (share_numbers t.project)
