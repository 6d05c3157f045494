-- "Risk of an entry", over its two orders, its hosts, and whether its chunk reaches a cyclic one.
-- Assumes nothing.
use Rattle.std.specs.Prelude.{ℕ, zero, suc, Bool, cond, not, ◌&&◌, ◌||◌, List, [], ◌∷◌, ◌++◌, ◌==◌, nat_lt, slice_index_or}
use Rattle.lists.specs.Words.{keep, any, elem, marks_of}
use Rattle.tables.specs.Project.{missing}

-- the place of x in a list, from 0
abbrev pub place : ℕ → List ℕ → ℕ
place x [] = zero
place x (y ∷ ys) = cond (x == y) zero (suc (place x ys))

-- what stands before x in a list
abbrev pub before : ℕ → List ℕ → List ℕ
before x [] = []
before x (y ∷ ys) = cond (x == y) [] (y ∷ before x ys)

-- exactly one of the two
abbrev pub just_one : Bool → Bool → Bool
just_one a b = (a && not b) || (not a && b)

-- "If the entry chunk reaches a cyclic chunk, all eligible expected modules are at risk too."
unfoldable pub cycle_risk : (ℕ → Bool) → List ℕ → Bool → ℕ → Bool
cycle_risk eligible expected reaches_cycle m = reaches_cycle && (eligible m && elem m expected)

module _ (sensitive eligible : ℕ → Bool) (expected actual hosts : List ℕ) where
  -- "The entry's two sensitive orders"
  abbrev pub expected_sensitive : List ℕ
  expected_sensitive = keep sensitive expected

  abbrev pub actual_sensitive : List ℕ
  actual_sensitive = keep sensitive actual

  -- "with an earlier sensitive module of the expected order at a greater actual place; a module without actual place counts nowhere"
  unfoldable pub early : ℕ → Bool
  early m =
      elem m actual_sensitive
      && any (λ (e : ℕ). elem e actual_sensitive && nat_lt (place m actual_sensitive) (place e actual_sensitive)) (before m expected_sensitive)

  -- "Flagged are the sensitive modules in just one order, and those with an earlier .."
  unfoldable pub is_flagged : ℕ → Bool
  is_flagged m = just_one (elem m expected_sensitive) (elem m actual_sensitive) || (elem m expected_sensitive && early m)

  -- "A flagged eligible module is at risk; else its host, if noted and eligible."
  unfoldable pub order_risk : ℕ → Bool
  order_risk m =
      eligible m
      && (is_flagged m || any (λ (x : ℕ). is_flagged x && (not (eligible x) && slice_index_or hosts x missing == m)) (expected_sensitive ++ actual_sensitive))

  -- the risk of an entry over n modules: 0 or 1 for each
  unfoldable pub risk_of : Bool → ℕ → List ℕ
  risk_of reaches_cycle n = marks_of (λ (m : ℕ). order_risk m || cycle_risk eligible expected reaches_cycle m) n
