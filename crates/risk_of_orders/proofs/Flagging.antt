-- Marking the members of an order that pass a test, member by member, in words that do not unfold at the code's goals.
-- Assumes nothing.
use Rattle.std.specs.Prelude.{◌≡◌, ℕ, ◌+◌, ◌<◌, ◌≤◌, Bool, not, ◌&&◌, eqb, ltb, List, length, get_or, set, take}
use mathlib.Core.Path.{ap, ◌∙◌}
use borrow.Author.Tests.{lt-ltb, le-ltb}
use Rattle.std.specs.Ordering.{ord_max, nat_cmp}
use Rattle.lists.specs.Words.{keep, has, Distinct}
use Rattle.lists.proofs.Laws.{has-not, has-yes}
use Rattle.risk_of_orders.specs.inner.Early.{highest}
use Rattle.risk_of_orders.specs.inner.Steps.{join, listed, puts, puts_of, unmet, overtaken}
use Rattle.risk_of_orders.proofs.Joins.{Added, added-start, added_more, added-skip, added-end, join-set}
use Rattle.risk_of_orders.proofs.Running.{highest-none, overtaken-out, overtaken-below, greatest_out, greatest_in}

-- those below place k that are in a set
unfoldable pub ListedBelow : List ℕ → List ℕ → List ℕ → ℕ → List ℕ → Type 0
ListedBelow which order old k marks = Added (has which) (λ (x m : ℕ). eqb m x) order old k marks

module _ (which order old : List ℕ) where
  pub listed_start : ListedBelow which order old 0 old
  unfolding ListedBelow
  listed_start = added-start _ _ _ _

  module _ (k : ℕ) (marks : List ℕ) (a : ListedBelow which order old k marks) where
    pub listed_passed : k < length order → get_or which (get_or order k 0) 0 ≡ 0 → ListedBelow which order old (k + 1) marks
    unfolding ListedBelow
    listed_passed l z = added-skip _ _ _ _ _ _ a l (has-not which (get_or order k 0) z)

    pub listed_marked : k < length order → (get_or which (get_or order k 0) 0 ≡ 0 → ⊥) → get_or order k 0 < length marks → ListedBelow which order old (k + 1) (set marks (get_or order k 0) 1)
    unfolding ListedBelow
    listed_marked l n i = added_more _ _ _ _ _ _ a _ l (has-yes which (get_or order k 0) n) (join-set marks (get_or order k 0) i)

    pub listed_end : length order ≤ k → marks ≡ join old (listed order which)
    unfolding ListedBelow
    listed_end h = added-end _ _ _ _ _ _ a h

pub ruleset listing = (listed_start, listed_passed, listed_marked, listed_end)

-- what those below place k put at risk that are sensitive and have no mark in the other order
unfoldable pub UnmetBelow : List ℕ → List ℕ → List ℕ → List ℕ → List ℕ → List ℕ → ℕ → List ℕ → Type 0
UnmetBelow eligible hosts sensitive other order old k out = Added (unmet sensitive other) (puts eligible hosts) order old k out

module _ (eligible hosts sensitive other order old : List ℕ) where
  pub unmet_start : UnmetBelow eligible hosts sensitive other order old 0 old
  unfolding UnmetBelow
  unmet_start = added-start _ _ _ _

  module _ (k : ℕ) (out : List ℕ) (a : UnmetBelow eligible hosts sensitive other order old k out) where
    abbrev x : ℕ
    x = get_or order k 0

    pub steady_passed : k < length order → get_or sensitive x 0 ≡ 0 → UnmetBelow eligible hosts sensitive other order old (k + 1) out
    unfolding UnmetBelow
    steady_passed l z = added-skip _ _ _ _ _ _ a l (ap (λ (b : Bool). b && not (has other x)) (has-not sensitive x z))

    pub met_passed : k < length order → (get_or sensitive x 0 ≡ 0 → ⊥) → (get_or other x 0 ≡ 0 → ⊥) → UnmetBelow eligible hosts sensitive other order old (k + 1) out
    unfolding UnmetBelow
    met_passed l s n = added-skip _ _ _ _ _ _ a l (ap (λ (b : Bool). b && not (has other x)) (has-yes sensitive x s) ∙ ap not (has-yes other x n))

    pub unmet_flagged : (more : List ℕ) → k < length order → (get_or sensitive x 0 ≡ 0 → ⊥) → get_or other x 0 ≡ 0 → more ≡ join out (puts eligible hosts x) → UnmetBelow eligible hosts sensitive other order old (k + 1) more
    unfolding UnmetBelow
    unmet_flagged more l s z e = added_more _ _ _ _ _ _ a more l (ap (λ (b : Bool). b && not (has other x)) (has-yes sensitive x s) ∙ ap not (has-not other x z)) e

    pub unmet_end : length order ≤ k → out ≡ join old (puts_of eligible hosts (unmet sensitive other) order)
    unfolding UnmetBelow
    unmet_end h = added-end _ _ _ _ _ _ a h

pub ruleset unmetting = (unmet_start, steady_passed, met_passed, unmet_flagged, unmet_end)

-- what those below place k put at risk that are overtaken, and the greatest place among the sensitive ones
unfoldable pub OvertakenBelow : List ℕ → List ℕ → List ℕ → List ℕ → List ℕ → List ℕ → ℕ → List ℕ → ℕ → Type 0
OvertakenBelow eligible hosts sensitive places order old k out latest =
    Added (overtaken sensitive places order) (puts eligible hosts) order old k out × (latest ≡ highest (λ (y : ℕ). get_or places y 0) (keep (has sensitive) (take k order)))

module _ (eligible hosts sensitive places order old : List ℕ) where
  pub overtaken_start : OvertakenBelow eligible hosts sensitive places order old 0 old 0
  unfolding OvertakenBelow
  overtaken_start = (added-start _ _ _ _, highest-none _)

  module _ (k : ℕ) (out : List ℕ) (latest : ℕ) (a : OvertakenBelow eligible hosts sensitive places order old k out latest) where
    pub overtaken_end : length order ≤ k → out ≡ join old (puts_of eligible hosts (overtaken sensitive places order) order)
    unfolding OvertakenBelow
    overtaken_end h = added-end _ _ _ _ _ _ a.0 h

    module _ (l : k < length order) (once : Distinct order) where
      abbrev y : ℕ
      y = get_or order k 0

      pub insensitive_passed : get_or sensitive y 0 ≡ 0 → OvertakenBelow eligible hosts sensitive places order old (k + 1) out latest
      unfolding OvertakenBelow
      insensitive_passed z =
          let s = has-not sensitive y z in
          (added-skip _ _ _ _ _ _ a.0 l (overtaken-out sensitive places order k l once s), a.1 ∙ greatest_out sensitive places order k l once s)

      module _ (s : get_or sensitive y 0 ≡ 0 → ⊥) (next : ℕ) (e : next ≡ ord_max nat_cmp latest (get_or places y 0)) where
        below : overtaken sensitive places order y ≡ (has places y && ltb (get_or places y 0) latest)
        unfolding OvertakenBelow
        below = overtaken-below sensitive places order k l once latest a.1 (has-yes sensitive y s)

        greatest : next ≡ highest (λ (z : ℕ). get_or places z 0) (keep (has sensitive) (take (k + 1) order))
        unfolding OvertakenBelow
        greatest = greatest_in sensitive places order k l once latest next a.1 e (has-yes sensitive y s)

        pub unplaced_passed : get_or places y 0 ≡ 0 → OvertakenBelow eligible hosts sensitive places order old (k + 1) out next
        unfolding OvertakenBelow
        unplaced_passed z = (added-skip _ _ _ _ _ _ a.0 l (below ∙ ap (λ (b : Bool). b && ltb (get_or places y 0) latest) (has-not places y z)), greatest)

        module _ (n : get_or places y 0 ≡ 0 → ⊥) where
          placed : (has places y && ltb (get_or places y 0) latest) ≡ ltb (get_or places y 0) latest
          placed = ap (λ (b : Bool). b && ltb (get_or places y 0) latest) (has-yes places y n)

          pub last_passed : latest ≤ get_or places y 0 → OvertakenBelow eligible hosts sensitive places order old (k + 1) out next
          unfolding OvertakenBelow
          last_passed h = (added-skip _ _ _ _ _ _ a.0 l (below ∙ placed ∙ le-ltb _ _ h), greatest)

          pub overtaken_flagged : (more : List ℕ) → get_or places y 0 < latest → more ≡ join out (puts eligible hosts y) → OvertakenBelow eligible hosts sensitive places order old (k + 1) more next
          unfolding OvertakenBelow
          overtaken_flagged more h f = (added_more _ _ _ _ _ _ a.0 more l (below ∙ placed ∙ lt-ltb _ _ h) f, greatest)

pub ruleset overtaking = (overtaken_start, insensitive_passed, unplaced_passed, last_passed, overtaken_flagged, overtaken_end)
