-- Entries are read as they are written.
-- Assumes nothing.
use Rattle.std.specs.Prelude.{◌≡◌, ◌≢◌, ℕ, true, false}
use mathlib.Core.Path.{sym, ap, subst}
use Rattle.tables.specs.Project.{Project, missing}
use Rattle.tables.specs.Readings.{is_analysed, entry_chunk_of}
use Rattle.table.specs.Table.{read, current}
use Rattle.analysed_entries.specs.inner.Entries.{Entry, ReadFrom}

-- the mark where the root is no analysed entry, else its entry chunk
pub record Found (p : Project) (root chunk : ℕ) : Type 0 where
  pub none : chunk ≡ missing → is_analysed p root ≡ false
  pub some : (chunk ≢ missing) → (is_analysed p root ≡ true) × Entry p root chunk

-- what is found of a project is found of it as it is read
pub found-read : (p : Project) (root chunk : ℕ) → Found p root chunk → Found (current p) root chunk
unfolding current read is_analysed entry_chunk_of
found-read p root chunk f = record {
  none = f.none;
  some = λ n. let s = f.some n in (s.0, record { within = s.1.within; from = s.1.from; inside = s.1.inside });
}

-- other import records, dependencies and members leave the entries as they are

module _ (p q : Project) (f : ReadFrom p q) (root : ℕ) where
  pub entry_kept : {chunk : ℕ} → Entry p root chunk → Entry q root chunk
  unfolding read entry_chunk_of
  entry_kept {chunk} e = subst (λ (x : Project). Entry x root chunk) (sym f) (record { within = e.within; from = e.from; inside = e.inside })

  pub analysed_kept : is_analysed q root ≡ is_analysed p root
  unfolding read is_analysed
  analysed_kept = ap (λ (x : Project). is_analysed x root) f

pub ruleset keeping = (entry_kept, analysed_kept)
