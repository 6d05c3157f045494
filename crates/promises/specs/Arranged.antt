-- 02's chunk contents: what the arrangement holds, and what doesn't read it. `AsRead` says that a call's project with it is a project like any other.
-- Each statement is a type; `proofs/` inhabits it under the same name in small letters.
-- Assumes nothing.
use Rattle.std.specs.Prelude.{◌≡◌, false, List, [], ℕ, ◌<◌, length, get_or, eqb, None}
use Rattle.lists.specs.Words.{keep}
use Rattle.tables.specs.Project.{Project}
use Rattle.tables.specs.Readings.{chunks, members_of}
use Rattle.tables.specs.Refusal.{refusal}
use Rattle.merge_sort.specs.Sort.{ahead}
use Rattle.arrangement.specs.OfProject.{key_in, arranged_of, named}
use Rattle.sort_modules.specs.OfProject.{numbers_of, sorted_of}
use Rattle.expected_visit.specs.OfProject.{expected_of}
use Rattle.chunk_cycles.specs.Cycles.{labels_of}
use Rattle.at_risk.specs.Promise.{cycle_risk_of_entry}

-- "each chunk's result stands at its member rows", no module before one whose key goes ahead, "and holds the same modules as often as before"
pub record ChunkArranged (p : Project) (names : List ℕ) (c : ℕ) : Type 0 where
  pub in_order : let part = members_of p.member_chunk (arranged_of p names) c in (i j : ℕ) → i < j → j < length part → ahead (key_in p names) (get_or part j 0) (get_or part i 0) ≡ false
  pub same : (m : ℕ) → length (keep (eqb m) (members_of p.member_chunk (arranged_of p names) c)) ≡ length (keep (eqb m) (members_of p.member_chunk p.member c))

unfoldable pub ChunksAreArranged : Type 0
ChunksAreArranged =
    (p : Project) (names : List ℕ) → refusal p ≡ None
    → (length (arranged_of p names) ≡ length p.member) × ((c : ℕ) → c < chunks p → ChunkArranged p names c)

-- "a project without the list .. is still read": as it is
unfoldable pub WithoutNamesNothingMoves : Type 0
WithoutNamesNothingMoves = (p : Project) → named p [] ≡ p

-- numbers, expected orders, labels and cycle risks don't read members
pub record MembersUnread (p : Project) (names : List ℕ) : Type 0 where
  pub numbers : numbers_of (named p names) ≡ numbers_of p
  pub sorted : sorted_of (named p names) ≡ sorted_of p
  pub expected : (root : ℕ) → expected_of (named p names) root ≡ expected_of p root
  pub labels : labels_of (named p names) ≡ labels_of p
  pub cycle_risk : (root : ℕ) → cycle_risk_of_entry (named p names) root ≡ cycle_risk_of_entry p root

unfoldable pub OthersDontReadMembers : Type 0
OthersDontReadMembers = (p : Project) (names : List ℕ) → MembersUnread p names
