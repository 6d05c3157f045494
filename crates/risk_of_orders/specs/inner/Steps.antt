-- What the steps of the code add to a set of marks.
-- Assumes nothing.
use Rattle.std.specs.Prelude.{◌≡◌, ℕ, zero, suc, ◌<◌, ◌≤◌, Bool, cond, not, ◌&&◌, List, [], ◌∷◌, length, ◌==◌, nat_lt, slice_index}
use Rattle.lists.specs.Words.{keep, any, has, Distinct}
use Rattle.tables.specs.Refusal.{module_limit}
use Rattle.tables.specs.Accepted.{Below}
use Rattle.risk_of_orders.specs.Risk.{before}
use Rattle.risk_of_orders.specs.inner.Blame.{blamed}
use Rattle.risk_of_orders.specs.inner.Early.{rank, highest}

-- a set with those that pass a test marked 1 besides
abbrev pub join_from : ℕ → List ℕ → (ℕ → Bool) → List ℕ
join_from i [] f = []
join_from i (x ∷ marks) f = cond (f i) 1 x ∷ join_from (suc i) marks f

unfoldable pub join : List ℕ → (ℕ → Bool) → List ℕ
join marks f = join_from zero marks f

-- the members of an order that are in a set
abbrev pub listed : List ℕ → List ℕ → ℕ → Bool
listed order which m = any (λ (x : ℕ). has which x && m == x) order

-- a flagged x puts m at risk: m is eligible, and whom x blames
abbrev pub puts : List ℕ → List ℕ → ℕ → ℕ → Bool
puts eligible hosts x m = has eligible m && blamed (has eligible) hosts x == m

-- what the members of an order that pass a test put at risk
abbrev pub puts_of : List ℕ → List ℕ → (ℕ → Bool) → List ℕ → ℕ → Bool
puts_of eligible hosts test order m = any (λ (x : ℕ). test x && puts eligible hosts x m) order

-- sensitive, and without a mark in the other order
abbrev pub unmet : List ℕ → List ℕ → ℕ → Bool
unmet sensitive other x = has sensitive x && not (has other x)

-- sensitive, with a place, and with a greater place earlier in the sensitive order
abbrev pub overtaken : List ℕ → List ℕ → List ℕ → ℕ → Bool
overtaken sensitive places expected x =
    has sensitive x
    && (has places x && nat_lt (slice_index places x) (highest (λ (y : ℕ). slice_index places y) (before x (keep (has sensitive) expected))))

-- each module's place in an order, from 1; 0 where it has none
unfoldable pub Ranked : List ℕ → List ℕ → Type 0
Ranked order places = (m : ℕ) → m < length places → slice_index places m ≡ rank order m

-- an order of n modules: no module twice, and not too long to count in
pub record Order (order : List ℕ) (n : ℕ) : Type 0 where
  pub members : Below n order
  pub once : Distinct order
  pub few : length order ≤ module_limit

-- what the order risk reads of each module: its host, whether it is sensitive, whether it is eligible
pub record ModuleColumns : Type 0 where
  pub hosts : List ℕ
  pub sensitive : List ℕ
  pub eligible : List ℕ

-- a column of n modules each
pub record Columns (hosts sensitive eligible : List ℕ) (n : ℕ) : Type 0 where
  pub host_rows : length hosts ≡ n
  pub sensitive_rows : length sensitive ≡ n
  pub eligible_rows : length eligible ≡ n
