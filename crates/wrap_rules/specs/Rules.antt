-- The four rules of "Plan from seeds", each over any set of modules S, a list of marks as long as the module count.
-- Assumes nothing.
use Rattle.std.specs.Prelude.{Bool, cond, not, ◌&&◌, ◌||◌, List, [], ◌∷◌, ℕ, length, get_or, eqb}
use Rattle.lists.specs.Words.{up_to, any, elem, has}
use Rattle.walk.specs.Walk.{everywhere, post_order}
use Rattle.tables.specs.Project.{Project, missing}
use Rattle.tables.specs.Readings.{modules, flagged, is_import, any_target, targets_of, rows_of, values_of}

-- what stands from the first that passes on
abbrev pub from_first : (ℕ → Bool) → List ℕ → List ℕ
from_first f [] = []
from_first f (x ∷ xs) = cond (f x) (x ∷ xs) (from_first f xs)

-- (i) "from the first planned module of an analysed entry's expected sensitive order on, every eligible one"; `orders` are these orders
unfoldable pub suffix_asks : (ℕ → Bool) → List (List ℕ) → List ℕ → ℕ → Bool
suffix_asks eligible orders S m = eligible m && any (λ (order : List ℕ). elem m (from_first (has S) order)) orders

-- two chunks of one cyclic component, by their labels
abbrev pub same_component : List ℕ → ℕ → ℕ → Bool
same_component labels c d = eqb (get_or labels c missing) (get_or labels d missing) && not (eqb (get_or labels c missing) missing)

-- (ii) "for a planned module whose chunk is cyclic, every sensitive eligible member of its component"
unfoldable pub component_asks : (ℕ → Bool) → (ℕ → Bool) → List ℕ → Project → List ℕ → ℕ → Bool
component_asks sensitive eligible labels p S m =
    sensitive m
    && (eligible m
    && any (λ (row : ℕ). eqb (get_or p.member row 0) m && any (λ (x : ℕ). has S x && same_component labels (get_or p.chunk x missing) (get_or p.member_chunk row 0)) (up_to (modules p))) (up_to (length p.member)))

-- the targets of a module's kind 0 records
abbrev pub imports_of : Project → ℕ → List ℕ
imports_of p = targets_of is_import any_target p.normal p.record_module p.record_kind p.record_target

-- t "is planned or leads to a planned module by kind 0 records"
unfoldable pub leads : Project → List ℕ → ℕ → Bool
leads p S t = any (has S) (post_order (imports_of p) everywhere (modules p) (t ∷ []))

-- (iii) "an eligible module reached .., with a planned dependency and a kind 0 target that is planned or leads to a planned module"
unfoldable pub import_asks : (ℕ → Bool) → (ℕ → Bool) → Project → List ℕ → ℕ → Bool
import_asks eligible reached p S m =
    eligible m && (reached m && (any (has S) (values_of p.dependency_module p.dependency m) && any (leads p S) (imports_of p m)))

-- "A symbol touches by its owner, its canonical's owner, or a link owner in either's chain."
abbrev pub chain_touches : Project → List ℕ → ℕ → Bool
chain_touches p S y = has S (get_or p.owner y missing) || any (λ (link : ℕ). has S (get_or p.owner link missing)) (values_of p.chain_symbol p.chain_link y)

unfoldable pub symbol_touches : Project → List ℕ → ℕ → Bool
symbol_touches p S y = chain_touches p S y || chain_touches p S (get_or p.canonical y missing)

-- "form 0 or 1 by its symbol, form 2 by `resolved` or a depended symbol"
unfoldable pub reference_touches : Project → List ℕ → ℕ → Bool
reference_touches p S r =
    cond (eqb (get_or p.reference_form r 0) 2)
    ((not (eqb (get_or p.reference_symbol r missing) missing) && symbol_touches p S (get_or p.reference_symbol r missing))
    || any (symbol_touches p S) (values_of p.depended_reference p.depended r))
    (symbol_touches p S (get_or p.reference_symbol r missing))

-- (iv) "such a reached eligible module with `reads` 1 and any statement, included or not, whose reference touches the plan"
unfoldable pub read_asks : (ℕ → Bool) → (ℕ → Bool) → Project → List ℕ → ℕ → Bool
read_asks eligible reached p S m =
    eligible m
    && (reached m
    && (flagged p.reads m && any (λ (s : ℕ). any (reference_touches p S) (rows_of p.reference_statement s)) (rows_of p.statement_module m)))
