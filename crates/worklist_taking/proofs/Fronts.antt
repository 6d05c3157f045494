-- A taking lists behind what was listed.
-- Assumes nothing.
use Rattle.std.specs.Prelude.{◌≡◌, ℕ, List, length, take}
use Rattle.strong_connection.specs.inner.Graph.{EdgeColumns}
use Rattle.request_queue.specs.inner.Growing.{Listing}
use Rattle.worklist_step.specs.inner.Step.{Stepped}
use Rattle.worklist_taking.proofs.Places.{front_same}

-- after one taking more the old list is the front of the new one
pub list-front : {g : EdgeColumns} {candidates eligible asked : List ℕ} {met list met' list' : Listing} {k : ℕ} → Stepped g candidates eligible asked met list k met' list' → take (length list.list) list'.list ≡ list.list
list-front h = front_same h.grown.grew
