-- A project that is accepted as it is written is accepted as it is read.
-- Assumes nothing.
use Rattle.std.specs.Prelude.{◌≡◌, ℕ, ◌<◌, ◌≤◌, true, List, length, get_or}
use mathlib.Core.Path.{refl, ◌∙◌}
use mathlib.Core.Logic.{⊎_map}
use native.Mathlib.Omega.{arith}
use Rattle.std.proofs.lemmas.List.{get_or-map}
use Rattle.tables.specs.Project.{Project, missing}
use Rattle.tables.specs.Refusal.{module_limit, newer_fits}
use Rattle.tables.specs.Accepted.{Below, BelowOrMissing, Accepted}
use Rattle.replacement.specs.Replacement.{latest, as_read}
use Rattle.replacement.proofs.Chains.{latest-in, latest-past}
use Rattle.table.specs.Table.{current}
use Rattle.table.proofs.Current.{read_length}
use Rattle.table.proofs.Reading.{accepted-read}

module _ (newer : List ℕ) (n : ℕ) (same : length newer ≡ n) (few : n ≤ module_limit) (fits : newer_fits newer ≡ true) where
  -- a module stays a module
  latest-below : (m : ℕ) → m < n → latest newer m < n
  latest-below m l = let r = latest-in newer fits m (omega arith) in omega arith

  -- and the mark the mark
  latest-missing : (m : ℕ) → m ≡ missing → latest newer m ≡ missing
  latest-missing m e = latest-past newer m (omega arith) ∙ e

  -- so do those of a column
  below-read : (column : List ℕ) → Below n column → Below n (as_read newer column)
  below-read column b i h =
      let l : i < length column = omega (arith, read_length newer column) in
      rw (get_or-map (latest newer) column i 0 0 l) (latest-below (get_or column i 0) (b i l))

  below-or-missing-read : (column : List ℕ) → BelowOrMissing n column → BelowOrMissing n (as_read newer column)
  below-or-missing-read column b i h =
      let l : i < length column = omega (arith, read_length newer column) in
      rw (get_or-map (latest newer) column i 0 0 l) (⊎_map (latest-below (get_or column i 0)) (latest-missing (get_or column i 0)) (b i l))

-- only targets and dependencies are others
pub read_accepted : (p : Project) → Accepted p → Accepted (current p)
unfolding current
read_accepted p ok =
    accepted-read p ok
    record {
      target_rows = read_length p.newer p.record_target;
      target_values = below-or-missing-read p.newer (length p.normal) ok.sizes.newer ok.sizes.normal ok.newer p.record_target ok.values.record_target;
      dependency_rows = read_length p.newer p.dependency;
      dependency_values = below-read p.newer (length p.normal) ok.sizes.newer ok.sizes.normal ok.newer p.dependency ok.values.dependency;
      member_rows = refl;
      member_values = ok.values.member;
    }
