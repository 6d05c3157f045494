-- For the reader's inner functions: values row by row, cut into columns.
-- Assumes nothing.
use Rattle.std.specs.Prelude.{ℕ, zero, suc, ◌+◌, ◌-◌, ◌/◌, ◌≤◌, List, [], ◌∷◌, ◌++◌, map, slice_index}
use Rattle.lists.specs.Words.{up_to}

-- n values of vs from p on, w apart: a column of n rows
unfoldable pub stripe : ℕ → ℕ → ℕ → List ℕ → List ℕ
stripe w p zero vs = []
stripe w p (suc n) vs = slice_index vs p ∷ stripe w (p + w) n vs

-- the columns of n rows of w values that begin at p, those given in ks
unfoldable pub stripes : ℕ → ℕ → ℕ → List ℕ → List ℕ → List (List ℕ)
stripes w p n vs ks = map (λ (k : ℕ). stripe w (p + k) n vs) ks

-- the columns of lists of the widths ws, which end at es, where the first begins at p
unfoldable pub cut : List ℕ → List ℕ → ℕ → List ℕ → List (List ℕ)
cut [] es p vs = []
cut (w ∷ ws) [] p vs = []
cut (w ∷ ws) (e ∷ es) p vs = stripes w p ((e - p) / w) vs (up_to w) ++ cut ws es e vs

-- each end is at or behind the one before, from p to `limit`
pub data Climbs : ℕ → List ℕ → ℕ → Type 0 where
  at-end : {p limit : ℕ} → p ≤ limit → Climbs p [] limit
  step : {p e limit : ℕ} {es : List ℕ} → p ≤ e → Climbs e es limit → Climbs p (e ∷ es) limit
