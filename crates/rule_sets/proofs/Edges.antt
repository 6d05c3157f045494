-- The import records as edges, in the front parts of two arrays.
-- Assumes nothing.
use Rattle.std.specs.Prelude.{◌≡◌, ℕ, ◌≤◌, List, length, take}
use mathlib.Core.Path.{sym, subst, ◌∙◌}
use native.Mathlib.Omega.{arith}
use lib.Seq.{length-take-le}
use Rattle.tables.specs.Project.{Project}
use Rattle.tables.specs.Readings.{modules}
use Rattle.tables.specs.Accepted.{Accepted}
use Rattle.strong_connection.specs.inner.Graph.{Graph}
use Rattle.import_edges.specs.inner.Spread.{record_targets, EdgesOf}
use Rattle.import_edges.proofs.Edging.{edges-part}
use Rattle.import_edges.proofs.OfProject.{edges-graph}

module _ (p : Project) (ok : Accepted p) (from to : List ℕ) (count : ℕ) (e : EdgesOf p from to count) (f : length from ≡ 16384) (t : length to ≡ 16384) where
  pub few-edges : count ≤ 16384
  few-edges = omega (arith, e.few, ok.sizes.record_module)

  pub from-length : length (take count from) ≡ count
  from-length = let few = few-edges in length-take-le count from (omega arith)

  pub to-length : length (take count to) ≡ count
  to-length = let few = few-edges in length-take-le count to (omega arith)

  pub front-lengths : length (take count to) ≡ length (take count from)
  front-lengths = to-length ∙ sym from-length

  pub front-edges : EdgesOf p (take count from) (take count to) (length (take count from))
  front-edges = subst (EdgesOf p (take count from) (take count to)) (sym from-length) (edges-part p.record_module (record_targets p) e)

  pub front-graph : Graph (take count from) (take count to) (modules p)
  front-graph = edges-graph p ok (take count from) (take count to) front-lengths front-edges
