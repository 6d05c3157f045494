-- The groups so far are found.
-- Assumes nothing.
use Rattle.std.proofs.Common.{◌≡◌, ℕ, ◌<◌, slice_index_or}
use Rattle.names.specs.Names.{turned}
use Rattle.name_order.specs.inner.Lines.{line_at}
use Rattle.module_keys.specs.Keys.{group_by}
use Rattle.module_keys.proofs.inner.fill_groups.Given as goal

abbrev pub invariant-loop-m : goal.invariant-loop-m
invariant-loop-m l = (k : ℕ) → k < l.m → slice_index_or l.groups k 0 ≡ group_by (turned (line_at l.names (slice_index_or l.starts k 0))) l.columns.normal l.columns.record_module l.columns.sensitive k
