-- A list of edges by its fields: its edges, that they fit in its slices, and that these stay the same.
-- Assumes nothing.
use Rattle.std.specs.Prelude.{◌≡◌, ◌≤◌, length, take}
use Rattle.request_edges.specs.declared.inner.EdgeList.{EdgeList}
use Rattle.request_edges.specs.inner.Edges.{EdgeRows}

-- its edges, and how many there is room for
abbrev pub edges_of : EdgeList → EdgeRows
edges_of e = record { from = take e.count e.from.now; to = take e.count e.to.now; room = length e.from.now }

-- the edges are the fronts of two slices of one length
pub record Fitting (e : EdgeList) : Type 0 where
  pub same : length e.to.now ≡ length e.from.now
  pub within : e.count ≤ length e.from.now

-- e' has the slices of e, and its edges fit
pub record EdgesKept (e e' : EdgeList) : Type 0 where
  pub from : e'.from.ghost_name ≡ e.from.ghost_name
  pub to : e'.to.ghost_name ≡ e.to.ghost_name
  pub fitting : Fitting e'
