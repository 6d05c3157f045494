-- What the two operations promise.
-- Assumes nothing.
use Rattle.std.specs.Prelude.{◌≡◌, ℕ, true, List, length, nat_le, nat_lt, Option, Result}
use Rattle.lists.specs.Words.{bit}
use Rattle.tables.specs.declared.Refusal.{Refusal}
use Rattle.tables.specs.Readings.{chunks}
use Rattle.tables.specs.Answers.{verdict, answer, after}
use Rattle.table.specs.Table.{Lent}
use Rattle.chunk_cycles.specs.Cycles.{labels_of, cyclic_of, reaches_cycle_of}

-- what refuses a call of `labels`: 6 if the slice is shorter than the chunk count
abbrev pub labels_verdict : Lent → ℕ → Option Refusal
labels_verdict t room = verdict t.refused true (nat_le (chunks t.project) room)

-- `labels`: the number of cyclic chunks, and the labels from place 0
pub record LabelsPromise (t : Lent) (labels : List ℕ) (r : Result ℕ Refusal) (labels' : List ℕ) : Type 0 where
  pub answered : r ≡ answer (labels_verdict t (length labels)) (length (cyclic_of t.project))
  pub written : labels' ≡ after (labels_verdict t (length labels)) labels (labels_of t.project)

-- what refuses a call of `chunk_reach`: 5 for a chunk without a row
abbrev pub reach_verdict : Lent → ℕ → Option Refusal
reach_verdict t chunk = verdict t.refused (nat_lt chunk (chunks t.project)) true

-- `chunk_reach`: 1 if the chunk reaches a cyclic one, else 0
pub record ReachPromise (t : Lent) (chunk : ℕ) (r : Result ℕ Refusal) : Type 0 where
  pub answered : r ≡ answer (reach_verdict t chunk) (bit (reaches_cycle_of t.project chunk))
