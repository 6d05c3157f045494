-- "Cyclic chunks": labels and chunk reach, over any graph of n chunks.
-- Assumes nothing.
use Rattle.std.specs.Prelude.{ℕ, Bool, cond, not, ◌&&◌, ◌||◌, List, [], ◌∷◌, map, ◌==◌}
use Rattle.lists.specs.Words.{up_to, keep, any, elem}
use Rattle.walk.specs.Walk.{everywhere, post_order}
use Rattle.tables.specs.Project.{missing}
use Rattle.tables.specs.Readings.{first_of}

module _ (n : ℕ) (imported : ℕ → List ℕ) where
  -- the chunks that c reaches, itself counted
  unfoldable pub reached_from : ℕ → List ℕ
  reached_from c = post_order imported everywhere n (c ∷ [])

  -- c and d reach each other: they are in one component
  unfoldable pub connected : ℕ → ℕ → Bool
  connected c d = elem d (reached_from c) && elem c (reached_from d)

  -- the component of c, by rising row
  unfoldable pub component : ℕ → List ℕ
  component c = keep (connected c) (up_to n)

  -- "Cyclic: in a component of two or more, or with an edge to itself."
  unfoldable pub cyclic : ℕ → Bool
  cyclic c = any (λ (d : ℕ). not (d == c)) (component c) || elem c (imported c)

  -- "Label: lowest chunk row of the component (added), else the mark."
  unfoldable pub label : ℕ → ℕ
  label c = cond (cyclic c) (first_of (component c)) missing

  unfoldable pub labels : List ℕ
  labels = map label (up_to n)

  -- "`reachable_from` says whether a chunk reaches a cyclic one, itself counted."
  unfoldable pub reaches_cycle : ℕ → Bool
  reaches_cycle c = any cyclic (reached_from c)
