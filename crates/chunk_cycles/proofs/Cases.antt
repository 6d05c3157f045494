-- The labels of document 01's listing, which computes: as it stands, with an edge 1 to 0 added, and with an edge 0 to 0 added.
-- Assumes nothing.
use Rattle.std.specs.Prelude.{◌≡◌, [], ◌∷◌}
use mathlib.Core.Path.{refl}
use Rattle.walk.specs.Walk.{visit, walk, post_order}
use Rattle.tables.specs.Project.{missing}
use Rattle.tables.specs.Readings.{rows_of, values_of}
use Rattle.strong_connection.specs.Cycles.{reached_from, connected, component, cyclic, label, labels}

pub listing-labels : labels 2 (values_of (0 ∷ []) (1 ∷ [])) ≡ missing ∷ missing ∷ []
unfolding labels label cyclic component connected reached_from post_order walk visit values_of rows_of
listing-labels = refl

pub back-edge-labels : labels 2 (values_of (0 ∷ 1 ∷ []) (1 ∷ 0 ∷ [])) ≡ 0 ∷ 0 ∷ []
unfolding labels label cyclic component connected reached_from post_order walk visit values_of rows_of
back-edge-labels = refl

pub self-edge-labels : labels 2 (values_of (0 ∷ 0 ∷ []) (0 ∷ 1 ∷ [])) ≡ 0 ∷ missing ∷ []
unfolding labels label cyclic component connected reached_from post_order walk visit values_of rows_of
self-edge-labels = refl
