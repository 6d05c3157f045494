-- A run as it is written to two slices.
-- Assumes nothing.
use Rattle.std.specs.Prelude.{◌≡◌, ℕ, ◌<◌, ◌≤◌, List, length, get_or, take}
use mathlib.Core.Path.{sym, ap}
use native.Mathlib.Omega.{arith}
use native.Mathlib.Decide.{ℕ_discrete}
use lib.Seq.{get_or-take, length-take-le}
use Rattle.lists.proofs.Laws.{mark-in}
use Rattle.tables.specs.Project.{Project}
use Rattle.tables.specs.Readings.{modules}
use Rattle.request_queue.specs.inner.Growing.{Listed}
use Rattle.request_queue.proofs.Growing.{listed-fits}
use Rattle.worklist_ends.specs.inner.Ends.{ListWritten}
use Rattle.worklist_ends.proofs.Ends.{front_rest, list_written}
use Rattle.worklist.specs.inner.Taking.{Noted}
use Rattle.worklist_run.specs.inner.Run.{Ran}
use Rattle.worklist_plan.specs.inner.Written.{RunWritten}

-- no place is past the end of its list
pub place-fits : {placed list : List ℕ} → Listed placed list → (m : ℕ) → get_or placed m 0 ≤ length list
place-fits {placed} {list} h m = go (ℕ_discrete (get_or placed m 0) 0)
  where
    go : Dec (get_or placed m 0 ≡ 0) → get_or placed m 0 ≤ length list
    go (yes z) = omega arith
    go (no n) = let r = h.listed m (mark-in (get_or placed m 0) n) in omega (arith, r.1, (h.placed r.0 r.1).1, ap (λ (x : ℕ). get_or placed x 0) r.2)

-- no more are listed than there are modules
pub run_fits : {p : Project} {seeds placed lengths lengths' : List ℕ} {count : ℕ} → Ran p seeds placed lengths lengths' count → count ≤ modules p
run_fits r = omega (arith, listed-fits r.taken.listed, r.taken.count, r.taken.size)

pub run-written : {p : Project} {seeds placed lengths lengths' out out' : List ℕ} {count : ℕ} → Ran p seeds placed lengths lengths' count → modules p ≤ length out → modules p ≤ length lengths → ListWritten placed out out'
    → RunWritten p seeds out lengths out' lengths' count
run-written {p} {seeds} {placed} {lengths} {lengths'} {out} {out'} {count} r room room' w = record {
  members = r.list;
  sizes = sizes;
  run = record {
    sized = sizes-length;
    within = λ k l. rw (size-at k l) (noted.within k l);
    each = λ k l. rw (size-at k l) (noted.takes k l);
    all = rw r.taken.count at r.taken.takes;
  };
  count = r.taken.count;
  listed = list_written w r.taken.listed (omega (arith, fits, room));
  measured =
      front_rest sizes lengths lengths' (omega (arith, sizes-length, fits, room')) noted.room
      (λ i l. sym (size-at i (omega (arith, l, sizes-length)))) (λ i l. noted.rest i (omega (arith, l, sizes-length)));
}
  where
    n : ℕ
    n = length r.list

    noted : Noted p seeds r.list lengths lengths' n
    noted = rw r.taken.count at r.taken.noted

    fits : n ≤ modules p
    fits = omega (arith, run_fits r, r.taken.count)

    sizes : List ℕ
    sizes = take n lengths'

    sizes-length : length sizes ≡ n
    sizes-length = length-take-le n lengths' (omega (arith, fits, room', noted.room))

    size-at : (k : ℕ) → k < n → get_or sizes k 0 ≡ get_or lengths' k 0
    size-at k l = get_or-take n lengths' k 0 l
