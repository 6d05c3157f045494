-- What the functions ask and ensure.
-- Assumes nothing.
use Rattle.std.specs.Prelude.{◌≡◌, ℕ, ◌<◌, cond, List, length, ◌==◌, slice_index}
use Rattle.tables.specs.Project.{Project}
use Rattle.tables.specs.Lookups.{Rising}

-- every place has what f says
abbrev pub Filled : (ℕ → ℕ) → List ℕ → Type 0
Filled f slots = (m : ℕ) → m < length slots → slice_index slots m ≡ f m

-- the columns of n modules
pub record Modules (p : Project) (n : ℕ) : Type 0 where
  pub normals : length p.normal ≡ n
  pub sensitives : length p.sensitive ≡ n
  pub rising : Rising p.record_module

-- a place after the numbers are put in: the number, but where the group is that of the leaves what stood there
abbrev pub place_by : List ℕ → List ℕ → List ℕ → ℕ → ℕ
place_by groups numbers places m = cond (slice_index groups m == 1) (slice_index places m) (slice_index numbers m)
