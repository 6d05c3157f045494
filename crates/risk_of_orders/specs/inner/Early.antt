-- Early modules by a running maximum: the terms in which the code's loop speaks.
-- Assumes nothing.
use Rattle.std.specs.Prelude.{ℕ, zero, suc, cond, List}
use mathlib.Core.List.{foldl}
use Rattle.lists.specs.Words.{elem}
use Rattle.tables.specs.Lookups.{greater_of}
use Rattle.risk_of_orders.specs.Risk.{place}

-- the place of m in a list, from 1; 0 where it has none
unfoldable pub rank : List ℕ → ℕ → ℕ
rank order m = cond (elem m order) (suc (place m order)) zero

-- the greatest rank so far
unfoldable pub highest : (ℕ → ℕ) → List ℕ → ℕ
highest ranks xs = foldl (λ (a x : ℕ). greater_of a (ranks x)) zero xs
