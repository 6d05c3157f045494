-- What the functions ask.
-- Assumes nothing.
use Rattle.std.specs.Prelude.{◌≡◌, ℕ, ◌≤◌, true, List, length}
use Rattle.tables.specs.Project.{Project}
use Rattle.tables.specs.Readings.{chunks}
use Rattle.tables.specs.Lookups.{Rising}
use Rattle.tables.specs.Refusal.{module_limit}
use Rattle.tables.specs.Accepted.{Below}
use Rattle.names.specs.Names.{names_fit}
use Rattle.module_keys.specs.inner.Filling.{Modules}

-- member rows by rising chunk
pub record Members (member_chunk member : List ℕ) (chunks : ℕ) : Type 0 where
  pub rising : Rising member_chunk
  pub lengths : length member ≡ length member_chunk
  pub owners : Below chunks member_chunk

-- what arranging asks: columns that fit each other, the names of all modules, and a number for each
pub record Fit (p : Project) (names numbers : List ℕ) : Type 0 where
  pub modules : Modules p (length p.normal)
  pub few : length p.normal ≤ module_limit
  pub named : names_fit (length p.normal) names ≡ true
  pub numbered : length numbers ≡ length p.normal
  pub chunked : Members p.member_chunk p.member (chunks p)
  pub inside : Below (length p.normal) p.member
