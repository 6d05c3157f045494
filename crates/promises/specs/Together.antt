-- C-12: what is told of many entries walked together, of every project and every list of entries.
-- Assumes nothing.
use Rattle.std.specs.Prelude.{◌≡◌, true, false, not, ◌&&◌, List, [], ◌∷◌, ◌++◌, ℕ}
use Rattle.lists.specs.Words.{keep, elem, Distinct}
use Rattle.tables.specs.Project.{Project}
use Rattle.tables.specs.Readings.{is_normal, flagged}
use Rattle.expected_visit.specs.OfProject.{expected_of}
use Rattle.entries_order.specs.OfEntries.{expected_of_entries}

pub record EntriesStandInParts : Type 0 where
  -- "each listed module stands once, in the part of the first included entry that reaches it": one included entry more adds those of its own
  -- expected order that aren't listed yet
  pub one_more : (p : Project) (entries : List ℕ) (e : ℕ) → flagged p.included e ≡ true
      → expected_of_entries p (entries ++ (e ∷ [])) ≡ expected_of_entries p entries ++ keep (λ (m : ℕ). not (elem m (expected_of_entries p entries))) (expected_of p e)
  -- "Entries that aren't included are passed over", and external ones
  pub passed_over : (p : Project) (entries : List ℕ) (e : ℕ) → (flagged p.included e && is_normal p.normal e) ≡ false
      → expected_of_entries p (entries ++ (e ∷ [])) ≡ expected_of_entries p entries
  -- "For a list of one included entry the result equals the old one."
  pub one_entry : (p : Project) (e : ℕ) → flagged p.included e ≡ true → expected_of_entries p (e ∷ []) ≡ expected_of p e
  -- "each listed module stands once"
  pub once : (p : Project) (entries : List ℕ) → Distinct (expected_of_entries p entries)
