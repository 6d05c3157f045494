-- Adding edges row by row, as steps from one list to the next.
-- Assumes nothing.
use Rattle.std.specs.Prelude.{◌≡◌, ℕ, ◌+◌, ◌<◌, ◌≤◌, List, [], ◌∷◌, ◌++◌, length, get_or}
use mathlib.Core.Path.{refl}
use Rattle.tables.specs.Refusal.{row_limit}
use Rattle.request_edges.specs.inner.Edges.{RowsBelow, Rows, EdgeRows, Adds}
use Rattle.request_edges.proofs.Adding.{Adding, adding_start, adding_unsourced, adding_unaimed, adding_put, adding_end}

-- the rows below `row` are added, in a word that does not unfold at the code's goals
unfoldable pub AddedBelow : EdgeRows → List ℕ → ℕ → List ℕ → ℕ → ℕ → EdgeRows → Type 0
AddedBelow e sources a targets b row e' = Adds (RowsBelow sources a targets b row) row e e'

module _ (e : EdgeRows) (sources : List ℕ) (a : ℕ) (targets : List ℕ) (b : ℕ) where
  -- no row is added at first
  pub added_start : AddedBelow e sources a targets b 0 e
  unfolding AddedBelow Adding
  added_start = adding_start sources a targets b e

  module _ (row : ℕ) (e' : EdgeRows) (g : AddedBelow e sources a targets b row e') where
    -- at the end all rows are
    pub added_end : row ≡ length sources → Adds (Rows sources a targets b) (length sources) e e'
    unfolding AddedBelow Adding
    added_end q = adding_end sources a targets b e row e' g q

    -- a row that has no number in the one column is passed
    pub added_unsourced : row_limit ≤ get_or sources row 0 → AddedBelow e sources a targets b (row + 1) e'
    unfolding AddedBelow Adding
    added_unsourced m = adding_unsourced sources a targets b e row e' g m

    -- so is one that has none in the other
    pub added_unaimed : row_limit ≤ get_or targets row 0 → AddedBelow e sources a targets b (row + 1) e'
    unfolding AddedBelow Adding
    added_unaimed m = adding_unaimed sources a targets b e row e' g m

    -- one that has both is added
    pub added_put : get_or sources row 0 < row_limit → get_or targets row 0 < row_limit → length e'.to ≡ length e'.from
        → AddedBelow e sources a targets b (row + 1) (record { from = e'.from ++ (get_or sources row 0 + a) ∷ []; to = e'.to ++ (get_or targets row 0 + b) ∷ []; room = e'.room })
    unfolding AddedBelow Adding
    added_put s t same = adding_put sources a targets b e row e' g s t same refl
