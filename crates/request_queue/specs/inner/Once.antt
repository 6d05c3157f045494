-- A queue's slices hold its list in one way only.
-- Assumes nothing.
use Rattle.std.specs.Prelude.{◌≡◌, ℕ, ◌<◌, List, length, slice_index}
use Rattle.std.specs.Coded.{×_prop, le_prop}
use mathlib.Core.Path.{sym, ap, ◌∙◌}
use mathlib.Core.HLevel.{is_prop→PathP}
use native.Mathlib.Nat.{ℕ_set, add_right_cancel}
use Rattle.request_queue.specs.inner.Growing.{Listed, Standing}

module _ {marks list : List ℕ} where
  -- a member has one place
  place-prop : Listed marks list → (x : ℕ) → IsProp ((i : ℕ) × (i < length list) × (slice_index list i ≡ x))
  place-prop h x p q =
      λ k. (same k, is_prop→PathP (λ j. same j < length list) (λ j. le_prop) p.1 q.1 k, is_prop→PathP (λ j. slice_index list (same j) ≡ x) (λ j. ℕ_set _ _) p.2 q.2 k)
    where
      same : p.0 ≡ q.0
      same = add_right_cancel 1 (sym (h.placed p.0 p.1).1 ∙ ap (slice_index marks) (p.2 ∙ sym q.2) ∙ (h.placed q.0 q.1).1)

  listed-once : IsProp (Listed marks list)
  listed-once a b = λ k. record {
    all = ℕ_set _ _ a.all b.all k;
    placed = λ i l. ×_prop le_prop (ℕ_set _ _) (a.placed i l) (b.placed i l) k;
    listed = λ x e. place-prop a x (a.listed x e) (b.listed x e) k;
  }

pub standing-once : (marks queue : List ℕ) (count : ℕ) → IsProp (Standing marks queue count)
standing-once marks queue count a b = λ k. record {
  few = le_prop a.few b.few k;
  room = ℕ_set _ _ a.room b.room k;
  within = le_prop a.within b.within k;
  listed = listed-once a.listed b.listed k;
}
