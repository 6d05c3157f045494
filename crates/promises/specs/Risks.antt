-- The risk of an entry is its order risk and its cycle risk, joined; of definitions, and of the two calls.
-- Each statement is a type; `proofs/` inhabits it under the same name in small letters.
-- Assumes nothing.
use Rattle.std.specs.Prelude.{◌≡◌, Bool, ◌||◌, List, ℕ, None, Result}
use Rattle.lists.specs.Words.{has, marks_of}
use Rattle.tables.specs.Project.{Project}
use Rattle.tables.specs.Readings.{modules}
use Rattle.tables.specs.Answers.{refused_of}
use Rattle.tables.specs.declared.Refusal.{Refusal}
use Rattle.table.specs.Table.{Lent}
use Rattle.arrangement.specs.OfProject.{named, named_lent}
use Rattle.at_risk.specs.Promise.{order_risk_of_entry, cycle_risk_of_entry, risk_of_entry, EntryOrderRisk, EntryCycleRisk}

-- a module is in one set or in the other
abbrev pub in_either : List ℕ → List ℕ → ℕ → Bool
in_either a b m = has a m || has b m

-- "Callers of the old operation join the two": the risk of 01, a mark a module
unfoldable pub RiskIsTheJoin : Type 0
RiskIsTheJoin = (p : Project) (root : ℕ) → risk_of_entry p root ≡ marks_of (in_either (order_risk_of_entry p root) (cycle_risk_of_entry p root)) (modules p)

-- what two accepted calls leave, joined over the modules, is that risk; the members as they are read, which the cycle risk doesn't ask for
unfoldable pub JoinedCallsGiveTheRisk : Type 0
JoinedCallsGiveTheRisk =
    (t : Lent) (names : List ℕ) (root : ℕ) (early cycle early' cycle' : List ℕ) (r s : Result ℕ Refusal)
    → EntryOrderRisk (named_lent names t) root early r early' → EntryCycleRisk t root cycle s cycle' → refused_of r ≡ None → refused_of s ≡ None
    → risk_of_entry (named t.project names) root ≡ marks_of (in_either early' cycle') (modules t.project)
