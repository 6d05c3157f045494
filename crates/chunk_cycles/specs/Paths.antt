-- Strong connection of directed graphs, by paths over import rows. Nothing here names a walk.
-- Assumes nothing.
use Rattle.std.specs.Prelude.{◌≡◌, ℕ, ◌<◌, ◌≤◌, ◌⊎◌, length, ◌≢◌, slice_index_or}
use Rattle.tables.specs.Project.{Project}

-- an import row from c to d
pub record Edge (p : Project) (c d : ℕ) : Type 0 where
  pub row : ℕ
  pub there : row < length p.import_chunk
  pub from : slice_index_or p.import_chunk row 0 ≡ c
  pub to : slice_index_or p.imports row 0 ≡ d

-- a path of zero or more import rows
pub data Path* (p : Project) : ℕ → ℕ → Type 0 where
  stay : {c d : ℕ} → d ≡ c → Path* p c d
  go : {c e d : ℕ} → Edge p c e → Path* p e d → Path* p c d

-- a path of one or more import rows
unfoldable pub Path⁺ : Project → ℕ → ℕ → Type 0
Path⁺ p c d = (e : ℕ) × Edge p c e × Path* p e d

-- strong connection: paths both ways
unfoldable pub Connected : Project → ℕ → ℕ → Type 0
Connected p c d = Path* p c d × Path* p d c

-- "Cyclic: in a component of two or more, or with an edge to itself."
unfoldable pub Cyclic : Project → ℕ → Type 0
Cyclic p c = ((d : ℕ) × (d ≢ c) × Connected p c d) ⊎ Edge p c c

-- r is the lowest row of c's component
pub record Lowest (p : Project) (c r : ℕ) : Type 0 where
  pub member : Connected p c r
  pub least : (d : ℕ) → Connected p c d → r ≤ d

-- "more chunk imports": every import pair of p is one of q, at whatever row
unfoldable pub MoreImports : Project → Project → Type 0
MoreImports p q = (c d : ℕ) → Edge p c d → Edge q c d
