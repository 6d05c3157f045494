-- The post-order walk over any successor function, gate and action on leaving: an executable definition, by fuel.
-- Assumes nothing.
use Rattle.std.specs.Prelude.{◌≡◌, Bool, true, false, cond, ℕ, zero, suc, ◌+◌, ◌≤◌, length, get_or, set, replicate}
use mathlib.Core.List.{List, [], ◌∷◌, ◌++◌, foldl}
use Rattle.lists.specs.Words.{is_zero, zeros}

-- the state of a walk: a mark for each place, 0 where it was not met, and what the walk has made so far
pub record St (A : Type 0) : Type 0 where
  pub marks : List ℕ
  pub made : A

module _ {A : Type 0} where
  -- m has a mark and was not met. A place that has no mark counts as met
  abbrev pub fresh : St A → ℕ → Bool
  fresh st m = is_zero (get_or st.marks m 1)

  abbrev pub enter : ℕ → St A → St A
  enter m st = record { marks = set st.marks m 1; made = st.made }

  abbrev pub leave : (A → ℕ → A) → ℕ → St A → St A
  leave act m st = record { marks = st.marks; made = act st.made m }

  module _ (succ : ℕ → List ℕ) (gate : ℕ → Bool) (act : A → ℕ → A) where
    -- one visit: a place that was met, or that the gate stops, is passed; any other is marked, its successors are visited
    -- in order, and then the action is done
    unfoldable pub visit : ℕ → St A → ℕ → St A
    visit zero st m = st
    visit (suc k) st m =
        elim (cond (gate m) (fresh st m) false) [ true ↦ leave act m (foldl (visit k) (enter m st) (succ m)) | false ↦ st ]

    -- a walk from several roots, with as much fuel as there are places
    unfoldable pub walk : St A → List ℕ → St A
    walk st roots = foldl (visit (length st.marks)) st roots

    -- t is what visits of several places in turn make of s, with any fuel for as many places as are not met
    pub record Visits (s : St A) (places : List ℕ) (t : St A) : Type 0 where
      pub same : (k : ℕ) → zeros s.marks ≤ k → foldl (visit k) s places ≡ t

-- one more at the end
abbrev pub snoc : List ℕ → ℕ → List ℕ
snoc l m = l ++ (m ∷ [])

-- n places, none of them met, and nothing listed
abbrev pub unmet : ℕ → St (List ℕ)
unmet n = record { marks = replicate n 0; made = [] }

-- every place passes
abbrev pub everywhere : ℕ → Bool
everywhere m = true

-- the post-order from several roots, over n places
unfoldable pub post_order : (ℕ → List ℕ) → (ℕ → Bool) → ℕ → List ℕ → List ℕ
post_order succ gate n roots = (walk succ gate snoc (unmet n) roots).made

-- a list in a slice: its places below `count`
pub record Placed : Type 0 where
  pub order : List ℕ
  pub count : ℕ

-- one more is placed, if it is kept
abbrev pub place : (ℕ → Bool) → Placed → ℕ → Placed
place kept p m = record { order = cond (kept m) (set p.order p.count m) p.order; count = cond (kept m) (p.count + 1) p.count }
