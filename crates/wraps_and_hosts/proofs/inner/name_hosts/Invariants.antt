-- The hosts of the modules so far are written, and the rest is as it was.
-- Assumes nothing.
use Rattle.std.proofs.Common.{◌≡◌, ◌++◌, take, drop}
use Rattle.std.specs.Prelude.{map}
use Rattle.wraps_and_hosts.specs.Hosts.{host_by}
use Rattle.wraps_and_hosts.proofs.inner.name_hosts.Given as goal

abbrev pub invariant-loop-i : goal.invariant-loop-i
invariant-loop-i l = l.hosts ≡ map (host_by l.noted) (take l.i l.listed) ++ drop l.i l.initial.hosts
