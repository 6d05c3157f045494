-- What marking the suffixes of several entries asks and leaves.
-- Assumes nothing.
use Rattle.std.specs.Prelude.{◌≡◌, ℕ, Bool, true, List}
use mathlib.Core.List.{Memᴰ}
use Rattle.tables.specs.Project.{Project}
use Rattle.expected_visit.specs.OfProject.{expected_of}
use Rattle.eligibility.specs.Eligible.{eligible}
use Rattle.marks.specs.Steps.{Added}
use Rattle.wrap_rules.specs.Rules.{suffix_asks}
use Rattle.wrap_rules.specs.Plan.{orders_of}
use Rattle.suffix_rule.specs.inner.Suffix.{InSuffix}

-- m stands in the suffix of one of the roots' expected orders
pub record InSome (p : Project) (root_list sensitive S : List ℕ) (m : ℕ) : Type 0 where
  pub root : ℕ
  pub listed : Memᴰ root root_list
  pub inside : InSuffix (expected_of p root) sensitive S m

-- just what the rule asks for with the plan is added to it
abbrev pub SuffixesAdded : Project → List ℕ → List ℕ → Bool → Type 0
SuffixesAdded p plan copy changed = Added (λ (m : ℕ). suffix_asks (eligible p) (orders_of p) plan m ≡ true) plan copy changed
