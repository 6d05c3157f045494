-- A list written by its members' places.
-- Assumes nothing.
use Rattle.std.specs.Prelude.{◌≡◌, ℕ, ◌<◌, ◌≤◌, List, length, slice_index}
use Rattle.request_queue.specs.inner.Growing.{Listed}

-- of every list with these places the members below m are written, and nothing past its end
pub record WrittenBelow (placed out : List ℕ) (m : ℕ) (out' : List ℕ) : Type 0 where
  pub room : length out' ≡ length out
  pub done : (list : List ℕ) → Listed placed list → (i : ℕ) → i < length list → slice_index list i < m → slice_index out' i ≡ slice_index list i
  pub rest : (list : List ℕ) → Listed placed list → (i : ℕ) → length list ≤ i → slice_index out' i ≡ slice_index out i

abbrev pub ListWritten : List ℕ → List ℕ → List ℕ → Type 0
ListWritten placed out out' = WrittenBelow placed out (length placed) out'
