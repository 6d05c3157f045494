-- How chunks are numbered and labelled.
-- Assumes nothing.
use Rattle.std.specs.Prelude.{◌≡◌, ℕ, ◌+◌, ◌≤◌, Bool, cond, not, ◌&&◌, List, map, length, ◌==◌, slice_index}
use Rattle.lists.specs.Words.{keep, has, up_to, zeros}
use Rattle.tables.specs.Project.{missing}
use Rattle.tables.specs.Readings.{first_of}
use Rattle.strong_connection.specs.Cycles.{connected, component, cyclic, labels}

-- a numbering that went on from `last` to `last'`: at most one number for each place that had none. What the numbers are is left open
pub record Numbered (last : ℕ) (numbers : List ℕ) (last' : ℕ) (numbers' : List ℕ) : Type 0 where
  pub on : last ≤ last'
  pub few : last' + zeros numbers' ≤ last + zeros numbers

-- both sets of marks have d
abbrev pub in_both : List ℕ → List ℕ → ℕ → Bool
in_both ahead behind d = has ahead d && has behind d

-- the labels with c where a chunk passes a test, else as they were
abbrev pub relabelled : (ℕ → Bool) → ℕ → List ℕ → List ℕ
relabelled test c labels = map (λ (d : ℕ). cond (test d) c (slice_index labels d)) (up_to (length labels))

-- a label that is not the mark
abbrev pub labelled : ℕ → Bool
labelled l = not (l == missing)

-- the labels with its lowest row throughout c's component where c is cyclic, else as they were
abbrev pub component_labelled : ℕ → (ℕ → List ℕ) → ℕ → List ℕ → List ℕ
component_labelled n succ c labels = relabelled (λ (d : ℕ). cyclic n succ c && connected n succ c d) (first_of (component n succ c)) labels

-- every chunk is labelled, and the cyclic ones are counted
pub record ChunksLabelled (n : ℕ) (succ : ℕ → List ℕ) (labels' : List ℕ) (count : ℕ) : Type 0 where
  pub same : labels' ≡ labels n succ
  pub cyclics : count ≡ length (keep (cyclic n succ) (up_to n))
