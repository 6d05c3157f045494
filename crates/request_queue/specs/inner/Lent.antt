-- A queue by its fields: its list, that its slices hold one, and that they stay the same slices.
-- Assumes nothing.
use Rattle.std.specs.Prelude.{◌≡◌, take}
use Rattle.request_queue.specs.declared.inner.Queue.{Queue}
use Rattle.request_queue.specs.inner.Growing.{Listing, Standing}

-- its list, and the marks
abbrev pub listing : Queue → Listing
listing q = record { marks = q.marks.now; list = take q.count q.queue.now }

-- its slices hold a list
abbrev pub Queued : Queue → Type 0
Queued q = Standing q.marks.now q.queue.now q.count

-- q' has the slices of q, and they hold a list
pub record Kept (q q' : Queue) : Type 0 where
  pub marks : q'.marks.ghost_name ≡ q.marks.ghost_name
  pub queue : q'.queue.ghost_name ≡ q.queue.ghost_name
  pub queued : Queued q'
