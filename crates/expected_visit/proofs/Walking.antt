-- A module that is visited: what holds between its rows, and when it is left.
-- Assumes nothing.
use Rattle.std.specs.Prelude.{◌≡◌, ℕ, ◌+◌, ◌<◌, ◌≤◌, List, [], ◌∷◌, length, get_or, set}
use mathlib.Core.Path.{refl, sym, ap, subst, ◌∙◌}
use native.Mathlib.Omega.{arith}
use borrow.Author.Tests.{eq-eqb, ne_eqb}
use Rattle.lists.specs.Words.{zeros}
use Rattle.walk.specs.Walk.{Placed, place, everywhere, leave, Visits}
use Rattle.walk.proofs.Visits.{Grown, fresh-zero, fresh-not, set-zeros}
use Rattle.walk.proofs.Going.{Going, going_start, going-none, going-found, going_end, met-visited, left-visited, visited-grown, visited-keeps, visited-room}
use Rattle.walk.proofs.Placing.{place-count, place-length, place-yes, place-no}
use Rattle.tables.specs.Project.{Project}
use Rattle.tables.specs.Readings.{modules, flagged, is_import, normal_target, resolved, row_targets}
use Rattle.tables.specs.Lookups.{FirstRows}
use Rattle.tables.specs.declared.Target.{Target}
use Rattle.tables.specs.declared.Target.TheVariants.{Missing, External, Normal}
use Rattle.tables.proofs.Rows.{run-ordered, targets-of-run}
use Rattle.tables.proofs.Targets.{led-kind, led-import, target-in}
use Rattle.expected_visit.specs.Visit.{normal_imports, held}

-- a target that is not a normal module leads nowhere
other-nowhere : (t : Target) → ((x : ℕ) → t ≡ Normal x → ⊥) → normal_target t ≡ []
other-nowhere Missing n = refl
other-nowhere (External m) n = refl
other-nowhere (Normal m) n = absurd (n m refl)

module _ (p : Project) where
  abbrev act : Placed → ℕ → Placed
  act = place (flagged p.included)

  abbrev rows : ℕ → List ℕ
  rows = row_targets is_import normal_target p.normal p.record_kind p.record_target

  -- a module that was met
  pub visit_met : (marks order : List ℕ) (m placed : ℕ) → (get_or marks m 0 ≡ 0 → ⊥) → Visits (normal_imports p) everywhere act (held marks order placed) (m ∷ []) (held marks order placed)
  visit_met marks order m placed n = met-visited (normal_imports p) everywhere act (held marks order placed) m (fresh-not marks m n)

  -- the module m is marked and its rows from `first` to `row` are walked, in a word that does not unfold at the code's goals
  unfoldable pub Walking : List ℕ → List ℕ → ℕ → ℕ → ℕ → ℕ → List ℕ → List ℕ → ℕ → Type 0
  Walking marks₀ order₀ m placed first row marks order count = Going (normal_imports p) everywhere act rows first (held (set marks₀ m 1) order₀ placed) row (held marks order count)

  module _ (marks₀ order₀ : List ℕ) (m placed first : ℕ) where
    pub walking_start : Walking marks₀ order₀ m placed first first (set marks₀ m 1) order₀ placed
    unfolding Walking
    walking_start = going_start (normal_imports p) everywhere act rows first (held (set marks₀ m 1) order₀ placed)

    module _ (row : ℕ) (marks order : List ℕ) (count : ℕ) (g : Walking marks₀ order₀ m placed first row marks order count) where
      -- what is known of the slices between two rows
      module _ (below : m < length marks₀) (zero_there : get_or marks₀ m 0 ≡ 0) where
        -- fewer are not met than before the module was
        pub walking-fewer : zeros marks < zeros marks₀
        unfolding Walking
        walking-fewer =
            let grown : Grown (set marks₀ m 1) marks = visited-grown (normal_imports p) everywhere act g.so_far in
            omega (arith, grown.fewer, set-zeros marks₀ m (fresh-zero marks₀ m below zero_there))

        -- there is room for as many, and for the module
        pub walking-room : placed + zeros marks₀ ≤ length order₀ → count + zeros marks < length order
        unfolding Walking
        walking-room r =
            let same : length order ≡ length order₀ = visited-keeps (normal_imports p) everywhere act (λ (q : Placed). length q.order ≡ length order₀) (place-length (flagged p.included) (length order₀)) g.so_far refl in
            omega (arith, r, same, visited-room (normal_imports p) everywhere act (λ (q : Placed). q.count) (place-count (flagged p.included)) g.so_far, set-zeros marks₀ m (fresh-zero marks₀ m below zero_there))

        pub walking_place : placed + zeros marks₀ ≤ length order₀ → count < length order
        walking_place r = omega (arith, walking-room r)

      -- a row of another kind
      pub walking_other : (get_or p.record_kind row 0 ≡ 0 → ⊥) → Walking marks₀ order₀ m placed first (row + 1) marks order count
      unfolding Walking
      walking_other n = going-none (normal_imports p) everywhere act rows first (held (set marks₀ m 1) order₀ placed) g
          (led-kind p.normal p.record_kind p.record_target row (ne_eqb (get_or p.record_kind row 0) 0 n))

      module _ (found : Target) (import : get_or p.record_kind row 0 ≡ 0) (is : found ≡ resolved p.normal p.record_target row) where
        led : rows row ≡ normal_target found
        led = led-import p.normal p.record_kind p.record_target row found (eq-eqb (get_or p.record_kind row 0) 0 import) (sym is)

        -- one without a normal target
        pub walking_nowhere : ((x : ℕ) → found ≡ Normal x → ⊥) → Walking marks₀ order₀ m placed first (row + 1) marks order count
        unfolding Walking
        walking_nowhere n = going-none (normal_imports p) everywhere act rows first (held (set marks₀ m 1) order₀ placed) g (led ∙ other-nowhere found n)

        module _ (t : ℕ) (normal : found ≡ Normal t) where
          -- one whose target was met, or is visited
          pub walking_met : (get_or marks t 0 ≡ 0 → ⊥) → Walking marks₀ order₀ m placed first (row + 1) marks order count
          unfolding Walking
          walking_met n = going-found (normal_imports p) everywhere act rows first (held (set marks₀ m 1) order₀ placed) g (led ∙ ap normal_target normal) (visit_met marks order t count n)

          pub walking_visited : {marks' order' : List ℕ} {count' : ℕ} → Visits (normal_imports p) everywhere act (held marks order count) (t ∷ []) (held marks' order' count') → Walking marks₀ order₀ m placed first (row + 1) marks' order' count'
          unfolding Walking
          walking_visited v = going-found (normal_imports p) everywhere act rows first (held (set marks₀ m 1) order₀ placed) g (led ∙ ap normal_target normal) v

      -- past the last row it is left
      module _ (starts : List ℕ) (s : FirstRows p.record_module starts) (few : m + 1 < length starts) (below : m < length marks₀) (zero_there : get_or marks₀ m 0 ≡ 0)
          (from : first ≡ get_or starts m 0) (within : row ≤ get_or starts (m + 1) 0) (past : get_or starts (m + 1) 0 ≤ row) where
        left : Visits (normal_imports p) everywhere act (held marks₀ order₀ placed) (m ∷ []) (leave act m (held marks order count))
        unfolding Walking
        left =
            left-visited (normal_imports p) everywhere act (held marks₀ order₀ placed) (held marks order count) m refl (fresh-zero marks₀ m below zero_there)
            (going_end (normal_imports p) everywhere act rows first (held (set marks₀ m 1) order₀ placed) g {end = get_or starts (m + 1) 0} (omega (arith, within, past))
            (rw from (targets-of-run p.record_module m _ _ (s.firsts m (omega (arith, few))) (s.firsts (m + 1) few) is_import normal_target p.normal p.record_kind p.record_target)))

        pub walked_listed : get_or p.included m 0 ≡ 1 → Visits (normal_imports p) everywhere act (held marks₀ order₀ placed) (m ∷ []) (held marks (set order count m) (count + 1))
        walked_listed e =
            subst (λ (q : Placed). Visits (normal_imports p) everywhere act (held marks₀ order₀ placed) (m ∷ []) (record { marks = marks; made = q }))
            (place-yes (flagged p.included) (record { order = order; count = count }) m (eq-eqb _ _ e)) left

        pub walked_through : (get_or p.included m 0 ≡ 1 → ⊥) → Visits (normal_imports p) everywhere act (held marks₀ order₀ placed) (m ∷ []) (held marks order count)
        walked_through n =
            subst (λ (q : Placed). Visits (normal_imports p) everywhere act (held marks₀ order₀ placed) (m ∷ []) (record { marks = marks; made = q }))
            (place-no (flagged p.included) (record { order = order; count = count }) m (ne_eqb _ _ n)) left

-- the rows of a module end behind where they start
pub rows_ordered : (column starts : List ℕ) → FirstRows column starts → (m : ℕ) → m + 1 < length starts → get_or starts m 0 ≤ get_or starts (m + 1) 0
rows_ordered column starts s m l = run-ordered column m _ _ (s.firsts m (omega arith)) (s.firsts (m + 1) l)

-- a record's normal target has a mark
pub target-marked : (p : Project) (marks : List ℕ) (row t : ℕ) (found : Target) → length marks ≡ modules p → found ≡ resolved p.normal p.record_target row → found ≡ Normal t → t < length marks
target-marked p marks row t found l e n = omega (arith, l, target-in p.normal p.record_kind p.record_target row t (sym e ∙ n))

pub ruleset walking_steps = (visit_met, walking_start, walking_other, walking_nowhere, walking_met, walking_visited, walked_listed, walked_through, walking_place, rows_ordered)
