-- The form of a lent plan.
-- Assumes nothing.
use Rattle.std.specs.Prelude.{ℕ, Bool, ◌&&◌, List, length, ◌==◌, nat_le}
use Rattle.lists.specs.Words.{every}

-- "one mark a module" and no "mark other than 0 and 1"; n is the module count
abbrev pub plan_fits : ℕ → List ℕ → Bool
plan_fits n plan = length plan == n && every (λ (mark : ℕ). nat_le mark 1) plan
