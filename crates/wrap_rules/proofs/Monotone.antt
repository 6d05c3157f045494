-- Each of the four rules asks for no less where more is in, and so does their join.
-- Assumes nothing.
use mathlib.Core.Path.{◌≡◌}
use mathlib.Core.Logic.{⊎_elim}
use mathlib.Core.Bool.{Bool, true, not}
use mathlib.Core.List.{List, [], ◌∷◌, Memᴰ}
use Prim.Native.Nat.{ℕ}
use lib.ListN.{length, get_or}
use lib.Dec.{eqb}
use Rattle.lists.specs.Words.{up_to, elem, has}
use Rattle.lists.proofs.Laws.{both, or_parts, or_left, or_right, elem_mem, mem-elem}
use Rattle.lists.proofs.Tests.{any-more, and-more, and_right, or-more, cond_more}
use Rattle.walk.specs.Walk.{everywhere, post_order}
use Rattle.walk.specs.Close.{Within, Monotone}
use Rattle.tables.specs.Project.{Project, missing}
use Rattle.tables.specs.Readings.{modules, flagged, rows_of, values_of}
use Rattle.sensitivity.specs.Marks.{sensitive}
use Rattle.eligibility.specs.Eligible.{eligible}
use Rattle.wrap_rules.specs.Rules.{from_first, suffix_asks, same_component, component_asks, imports_of, leads, import_asks, chain_touches, symbol_touches, reference_touches, read_asks}
use Rattle.wrap_rules.specs.Plan.{Rule, suffix_rule, component_rule, import_rule, read_rule, reached, asks, asked}

-- (i) what stands from the first that passes on stands in the list
pub mem-from_first : (f : ℕ → Bool) {x : ℕ} (xs : List ℕ) → Memᴰ x (from_first f xs) → Memᴰ x xs
mem-from_first f [] h = absurd (mathlib.Core.List.Memᴰ.not-nil h)
mem-from_first f {x} (y ∷ xs) h = ⊎_elim (λ e. rw e at h) (λ e. mathlib.Core.List.Memᴰ.tail (mem-from_first f xs (rw e at h))) (both (f y))

pub from_first-more : (f g : ℕ → Bool) → ((x : ℕ) → f x ≡ true → g x ≡ true) → {x : ℕ} (xs : List ℕ) → Memᴰ x (from_first f xs) → Memᴰ x (from_first g xs)
from_first-more f g w [] h = h
from_first-more f g w {x} (y ∷ xs) h =
    ⊎_elim (λ e. rw (w y e) (rw e at h))
    (λ e.
    let t : Memᴰ x (from_first f xs) = rw e at h in
    ⊎_elim (λ q. rw q (mathlib.Core.List.Memᴰ.tail (mem-from_first f xs t))) (λ q. rw q (from_first-more f g w xs t)) (both (g y)))
    (both (f y))

module _ (S T : List ℕ) (w : (i : ℕ) → has S i ≡ true → has T i ≡ true) where
  pub suffix-more : (eligible : ℕ → Bool) (orders : List (List ℕ)) (m : ℕ) → suffix_asks eligible orders S m ≡ true → suffix_asks eligible orders T m ≡ true
  unfolding suffix_asks
  suffix-more eligible orders m =
      and_right (eligible m)
      (any-more (λ (order : List ℕ). elem m (from_first (has S) order)) (λ (order : List ℕ). elem m (from_first (has T) order)) orders
      (λ order e. mem-elem m (from_first (has T) order) (from_first-more (has S) (has T) w order (elem_mem m (from_first (has S) order) e))))

  component-more : (sensitive eligible : ℕ → Bool) (labels : List ℕ) (p : Project) (m : ℕ) → component_asks sensitive eligible labels p S m ≡ true → component_asks sensitive eligible labels p T m ≡ true
  unfolding component_asks
  component-more sensitive eligible labels p m =
      and_right (sensitive m)
      (and_right (eligible m)
      (any-more _ _ (up_to (length p.member))
      (λ row. and_right (eqb (get_or p.member row 0) m) (any-more _ _ (up_to (modules p)) (λ x. and-more (w x) (λ e. e))))))

  leads-more : (p : Project) (t : ℕ) → leads p S t ≡ true → leads p T t ≡ true
  unfolding leads
  leads-more p t = any-more (has S) (has T) (post_order (imports_of p) everywhere (modules p) (t ∷ [])) w

  import-more : (eligible reached : ℕ → Bool) (p : Project) (m : ℕ) → import_asks eligible reached p S m ≡ true → import_asks eligible reached p T m ≡ true
  unfolding import_asks
  import-more eligible reached p m =
      and_right (eligible m)
      (and_right (reached m)
      (and-more (any-more (has S) (has T) (values_of p.dependency_module p.dependency m) w) (any-more (leads p S) (leads p T) (imports_of p m) (leads-more p))))

  chain_more : (p : Project) (y : ℕ) → chain_touches p S y ≡ true → chain_touches p T y ≡ true
  chain_more p y =
      or-more (w (get_or p.owner y missing))
      (any-more _ _ (values_of p.chain_symbol p.chain_link y) (λ link. w (get_or p.owner link missing)))

  symbol-more : (p : Project) (y : ℕ) → symbol_touches p S y ≡ true → symbol_touches p T y ≡ true
  unfolding symbol_touches
  symbol-more p y = or-more (chain_more p y) (chain_more p (get_or p.canonical y missing))

  reference-more : (p : Project) (r : ℕ) → reference_touches p S r ≡ true → reference_touches p T r ≡ true
  unfolding reference_touches
  reference-more p r =
      cond_more (eqb (get_or p.reference_form r 0) 2)
      (or-more (and_right (not (eqb (get_or p.reference_symbol r missing) missing)) (symbol-more p (get_or p.reference_symbol r missing))) (any-more (symbol_touches p S) (symbol_touches p T) (values_of p.depended_reference p.depended r) (symbol-more p)))
      (symbol-more p (get_or p.reference_symbol r missing))

  read_more : (eligible reached : ℕ → Bool) (p : Project) (m : ℕ) → read_asks eligible reached p S m ≡ true → read_asks eligible reached p T m ≡ true
  unfolding read_asks
  read_more eligible reached p m =
      and_right (eligible m)
      (and_right (reached m)
      (and_right (flagged p.reads m)
      (any-more _ _ (rows_of p.statement_module m)
      (λ s. any-more (reference_touches p S) (reference_touches p T) (rows_of p.reference_statement s) (reference-more p)))))

module _ (orders : List (List ℕ)) (labels : List ℕ) (p : Project) where
  -- each rule
  pub asks-monotone : (rule : Rule) → Monotone (asks orders labels p rule)
  unfolding Monotone Within
  asks-monotone suffix_rule s t n w m = suffix-more s t w (eligible p) orders m
  asks-monotone component_rule s t n w m = component-more s t w (sensitive p) (eligible p) labels p m
  asks-monotone import_rule s t n w m = import-more s t w (eligible p) (reached p) p m
  asks-monotone read_rule s t n w m = read_more s t w (eligible p) (reached p) p m

  -- the four together
  pub asked-monotone : Monotone (asked orders labels p)
  unfolding Monotone asked
  asked-monotone s t n w m =
      or-more (asks-monotone suffix_rule s t n w m)
      (or-more (asks-monotone component_rule s t n w m) (or-more (asks-monotone import_rule s t n w m) (asks-monotone read_rule s t n w m)))

  -- one rule asks where the four together do, and the other way round
  pub asks-asked : (rule : Rule) (S : List ℕ) (m : ℕ) → asks orders labels p rule S m ≡ true → asked orders labels p S m ≡ true
  unfolding asked
  asks-asked suffix_rule S m e = or_left (asks orders labels p suffix_rule S m) _ e
  asks-asked component_rule S m e = or_right (asks orders labels p suffix_rule S m) _ (or_left (asks orders labels p component_rule S m) _ e)
  asks-asked import_rule S m e =
      or_right (asks orders labels p suffix_rule S m) _ (or_right (asks orders labels p component_rule S m) _ (or_left (asks orders labels p import_rule S m) _ e))
  asks-asked read_rule S m e =
      or_right (asks orders labels p suffix_rule S m) _
      (or_right (asks orders labels p component_rule S m) _ (or_right (asks orders labels p import_rule S m) (asks orders labels p read_rule S m) e))

  pub asked-asks : (S : List ℕ) (m : ℕ) → asked orders labels p S m ≡ true → (rule : Rule) × (asks orders labels p rule S m ≡ true)
  unfolding asked
  asked-asks S m e =
      ⊎_elim (λ a. (suffix_rule, a))
      (λ r. ⊎_elim (λ a. (component_rule, a)) (λ q. ⊎_elim (λ a. (import_rule, a)) (λ a. (read_rule, a)) (or_parts (asks orders labels p import_rule S m) _ q)) (or_parts (asks orders labels p component_rule S m) _ r))
      (or_parts (asks orders labels p suffix_rule S m) _ e)

-- with labels under which chunks of one component still are of one, each rule asks for no less
module _ (labels labels' : List ℕ) (more : (c d : ℕ) → same_component labels c d ≡ true → same_component labels' c d ≡ true) where
  component-labels : (sensitive eligible : ℕ → Bool) (p : Project) (S : List ℕ) (m : ℕ) → component_asks sensitive eligible labels p S m ≡ true → component_asks sensitive eligible labels' p S m ≡ true
  unfolding component_asks
  component-labels sensitive eligible p S m =
      and_right (sensitive m)
      (and_right (eligible m)
      (any-more _ _ (up_to (length p.member))
      (λ row. and_right (eqb (get_or p.member row 0) m) (any-more _ _ (up_to (modules p)) (λ x. and_right (has S x) (more (get_or p.chunk x missing) (get_or p.member_chunk row 0)))))))

  pub asks-labels : (orders : List (List ℕ)) (p : Project) (rule : Rule) (S : List ℕ) (m : ℕ) → asks orders labels p rule S m ≡ true → asks orders labels' p rule S m ≡ true
  asks-labels orders p suffix_rule S m e = e
  asks-labels orders p component_rule S m e = component-labels (sensitive p) (eligible p) p S m e
  asks-labels orders p import_rule S m e = e
  asks-labels orders p read_rule S m e = e
