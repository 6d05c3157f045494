-- From visits of the entries in turn to the list of entries' order.
-- Assumes nothing.
use Rattle.std.specs.Prelude.{◌≡◌, ℕ, ◌+◌, ◌-◌, ◌≤◌, List, [], ◌∷◌, ◌++◌, length, get_or, drop, replicate}
use mathlib.Core.Path.{sym, ap, ◌∙◌}
use mathlib.Core.List.{flat_map}
use borrow.Author.Tests.{eq-eqb, ne_eqb}
use Rattle.lists.specs.Words.{keep, count_from, zeros}
use Rattle.lists.proofs.Laws.{and-out}
use Rattle.lists.proofs.Maps.{keep-flat}
use Rattle.walk.specs.Walk.{St, Placed, place, everywhere, walk, Visits}
use Rattle.walk.proofs.Going.{Going, going_start, going-none, going-found, going_end, visited-walk, visited-room, column-rows}
use Rattle.walk.proofs.Placing.{placed-order, place-count}
use native.Mathlib.Omega.{arith}
use Rattle.tables.specs.Project.{Project}
use Rattle.tables.specs.Readings.{modules, is_normal, flagged}
use Rattle.expected_visit.specs.Visit.{normal_imports, held}
use Rattle.entries_order.specs.Entries.{is_walked, entries_order}
use Rattle.entries_order.specs.OfEntries.{expected_of_entries}
use Rattle.entries_order.specs.inner.Walked.{Written}

module _ (normal included entries : List ℕ) where
  -- what a row of the list leads to: its entry, if it is walked
  abbrev pub turn : ℕ → List ℕ
  turn row = keep (is_walked normal included) (get_or entries row 0 ∷ [])

  -- all rows in turn
  pub all-turns : keep (is_walked normal included) entries ≡ flat_map turn (count_from 0 (length entries - 0))
  all-turns =
      ap (keep (is_walked normal included)) (column-rows entries)
      ∙ keep-flat (is_walked normal included) (λ (row : ℕ). get_or entries row 0 ∷ []) (count_from 0 (length entries - 0))

module _ (p : Project) (entries : List ℕ) (s : St Placed) where
  abbrev act : Placed → ℕ → Placed
  act = place (flagged p.included)

  -- the entries before place k are visited, in a word that does not unfold at the code's goals
  unfoldable pub Turns : ℕ → St Placed → Type 0
  Turns k t = Going (normal_imports p) everywhere act (turn p.normal p.included entries) 0 s k t

  pub turns_start : Turns 0 s
  unfolding Turns
  turns_start = going_start (normal_imports p) everywhere act (turn p.normal p.included entries) 0 s

  module _ (k : ℕ) (t : St Placed) (g : Turns k t) where
    -- an entry that is not included, or not normal, is passed over
    pub excluded_passed : (get_or p.included (get_or entries k 0) 0 ≡ 1 → ⊥) → Turns (k + 1) t
    unfolding Turns
    excluded_passed n = going-none (normal_imports p) everywhere act (turn p.normal p.included entries) 0 s g (rw (ne_eqb (get_or p.included (get_or entries k 0) 0) 1 n))

    pub external_passed : (get_or p.normal (get_or entries k 0) 0 ≡ 1 → ⊥) → Turns (k + 1) t
    unfolding Turns
    external_passed n = going-none (normal_imports p) everywhere act (turn p.normal p.included entries) 0 s g
        (rw (and-out (flagged p.included (get_or entries k 0)) (is_normal p.normal (get_or entries k 0)) (ne_eqb (get_or p.normal (get_or entries k 0) 0) 1 n)))

    -- any other is visited
    pub entry_walked : get_or p.included (get_or entries k 0) 0 ≡ 1 → get_or p.normal (get_or entries k 0) 0 ≡ 1
        → {u : St Placed} → Visits (normal_imports p) everywhere act t (get_or entries k 0 ∷ []) u → Turns (k + 1) u
    unfolding Turns
    entry_walked e n {u} v = going-found (normal_imports p) everywhere act (turn p.normal p.included entries) 0 s g
        (rw (eq-eqb (get_or p.included (get_or entries k 0) 0) 1 e, eq-eqb (get_or p.normal (get_or entries k 0) 0) 1 n)) v

    -- the list has room for what is not met
    pub room-left : t.made.count + zeros t.marks ≤ s.made.count + zeros s.marks
    unfolding Turns
    room-left = visited-room (normal_imports p) everywhere act (λ (q : Placed). q.count) (place-count (flagged p.included)) g.so_far

    -- past the last entry, all are visited
    pub entries_walked : length entries ≤ k → k ≤ length entries → Visits (normal_imports p) everywhere act s (keep (is_walked p.normal p.included) entries) t
    unfolding Turns
    entries_walked l b = going_end (normal_imports p) everywhere act (turn p.normal p.included entries) 0 s g {end = length entries} (omega (arith, l, b)) (all-turns p.normal p.included entries)

pub ruleset turn_steps = (turns_start, excluded_passed, external_passed, entry_walked, entries_walked)

module _ (p : Project) (entries order : List ℕ) where
  -- visits from nothing met list the order
  pub entries-written : (marks marks' order' : List ℕ) (n r : ℕ) → marks ≡ replicate n 0 → n ≡ modules p → modules p ≤ length order
      → Visits (normal_imports p) everywhere (place (flagged p.included)) (held marks order 0) (keep (is_walked p.normal p.included) entries) (held marks' order' r)
      → Written (expected_of_entries p entries) order order' r
  unfolding expected_of_entries entries_order
  entries-written marks marks' order' n r b e l v = record { count = ap (λ (q : Placed). q.count) made; written = ap (λ (q : Placed). q.order) made }
    where
      list : List ℕ
      list = expected_of_entries p entries

      made : ◌≡◌ {A = Placed} (record { order = order'; count = r }) (record { order = list ++ drop (length list) order; count = length list })
      made =
          sym (ap (λ (s : St Placed). s.made) (visited-walk (normal_imports p) everywhere (place (flagged p.included)) v))
          ∙ ap (λ (m : List ℕ). (walk (normal_imports p) everywhere (place (flagged p.included)) (held m order 0) (keep (is_walked p.normal p.included) entries)).made) (b ∙ ap (λ (i : ℕ). replicate {A = ℕ} i 0) e)
          ∙ placed-order (flagged p.included) (normal_imports p) everywhere (modules p) (keep (is_walked p.normal p.included) entries) order l
