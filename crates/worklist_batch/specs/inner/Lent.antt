-- Notes by their fields: what is noted, that it is threaded, and that the slices stay the same.
-- Assumes nothing.
use Rattle.std.specs.Prelude.{◌≡◌}
use Rattle.worklist_taking.specs.inner.State.{RuleNotes}
use Rattle.worklist_batch.specs.declared.inner.Notes.{Notes}
use Rattle.worklist_batch.specs.inner.Noting.{Led}

-- what is noted
abbrev pub notes_of : Notes → RuleNotes
notes_of n = record { settled = n.settled.now; asked = n.asked.now }

-- what is asked for is threaded
abbrev pub NotesLed : Notes → Type 0
NotesLed n = Led n.asked.now n.heads.now n.nexts.now

-- n' has the slices of n, and is threaded
pub record NotesKept (n n' : Notes) : Type 0 where
  pub settled : n'.settled.ghost_name ≡ n.settled.ghost_name
  pub asked : n'.asked.ghost_name ≡ n.asked.ghost_name
  pub heads : n'.heads.ghost_name ≡ n.heads.ghost_name
  pub nexts : n'.nexts.ghost_name ≡ n.nexts.ghost_name
  pub led : NotesLed n'
