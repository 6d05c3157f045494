-- The edges that are written are those of the request graph.
-- Assumes nothing.
use Rattle.std.specs.Prelude.{◌≡◌, ℕ, ◌<◌, ◌≤◌, List, [], length, get_or}
use mathlib.Core.Path.{refl, subst}
use mathlib.Core.Logic.{⊎_elim}
use mathlib.Core.List.{Memᴰ}
use native.Mathlib.Omega.{arith}
use Rattle.tables.specs.Project.{Project}
use Rattle.tables.specs.Readings.{values_of}
use Rattle.tables.proofs.OwnerRows.{values-row, row-values}
use Rattle.strong_connection.specs.inner.Graph.{Graph}
use Rattle.request_edges.specs.inner.Edges.{RowsBelow, EdgeRows}
use Rattle.request_graph.specs.inner.Requests.{RequestEdge, Requests}
use Rattle.worklist_step.specs.inner.Step.{nodes}
use Rattle.worklist_taking.specs.inner.State.{GraphOf}

-- an edge joins places of the graph
rows_in : {s t : List ℕ} {a b k u v : ℕ} → RowsBelow s a t b k u v → a ≤ 32768 → b ≤ 32768 → (u < nodes) × (v < nodes)
rows_in r l h = (omega (arith, r.known, r.source), omega (arith, r.aimed, r.target))

edge_in : (p : Project) (u v : ℕ) → RequestEdge p u v → (u < nodes) × (v < nodes)
unfolding RequestEdge
edge_in p u v e =
    ⊎_elim (λ q. ⊎_elim (λ r. rows_in r (omega arith) (omega arith)) (λ r. rows_in r (omega arith) (omega arith)) q)
    (λ q.
    ⊎_elim
    (λ r. ⊎_elim (λ s. rows_in s (omega arith) (omega arith)) (λ s. ⊎_elim (λ t. rows_in t (omega arith) (omega arith)) (λ t. rows_in t (omega arith) (omega arith)) s) r)
    (λ r.
    ⊎_elim (λ s. ⊎_elim (λ t. rows_in t (omega arith) (omega arith)) (λ t. rows_in t (omega arith) (omega arith)) s)
    (λ s.
    ⊎_elim (λ t. rows_in t (omega arith) (omega arith))
    (λ t. ⊎_elim (λ w. rows_in w (omega arith) (omega arith)) (λ w. ⊎_elim (λ x. rows_in x (omega arith) (omega arith)) (λ x. rows_in x (omega arith) (omega arith)) w) t) s)
    r)
    q)
    e

-- added to a list that is this one
pub requests-from : (p : Project) {e e' e'' : EdgeRows} → e' ≡ e → Requests p e' e'' → Requests p e e''
requests-from p q a = rw q at a

-- the edges that are added to none
module _ (p : Project) (room : ℕ) (e : EdgeRows) (a : Requests p (record { from = []; to = []; room = room }) e) where
  edge_at : (i : ℕ) → i < length e.from → RequestEdge p (get_or e.from i 0) (get_or e.to i 0)
  edge_at i l = a.each i (omega arith) l

  pub edges-graph : length e.to ≡ length e.from → Graph e.from e.to nodes
  edges-graph same = record { lengths = same; froms = λ i l. (edge_in p _ _ (edge_at i l)).0; tos = λ i l. (edge_in p _ _ (edge_at i l)).1 }

  pub graph-of : GraphOf p (record { from = e.from; to = e.to; places = nodes })
  graph-of = record {
    places = refl;
    there = λ u v x.
        let r = a.new u v x in
        subst (λ (y : ℕ). Memᴰ y (values_of e.from e.to u)) r.3 (subst (λ (y : ℕ). Memᴰ (get_or e.to r.0 0) (values_of e.from e.to y)) r.2 (row-values e.from e.to r.0 r.1));
    back = λ u v i.
        let r = values-row e.from e.to u v i in
        subst (λ (y : ℕ). RequestEdge p y v) r.2 (subst (RequestEdge p (get_or e.from r.0 0)) r.3 (edge_at r.0 r.1));
  }
