-- A list that is written place by place to the front of a slice, and the wraps with a plan's modules read as 2.
-- Assumes nothing.
use Rattle.std.specs.Prelude.{◌≡◌, ℕ, zero, suc, ◌+◌, ◌<◌, List, [], ◌∷◌, ◌++◌, map, length, get_or, take, drop, set}
use mathlib.Core.Path.{refl, sym, ap, ◌∙◌}
use native.Mathlib.Omega.{arith}
use lib.ListN.{length-map}
use lib.Seq.{ext_get_or, length-take-le}
use Rattle.std.proofs.lemmas.List.{map-append}
use Rattle.lists.proofs.Laws.{front-more, take_more}
use Rattle.tables.proofs.Answering.{not-zero}
use Rattle.entry_run.specs.Actual.{read_as_two}

-- the front of a slice has the values of a list's first members, the rest is as it was
pub front_mapped : (f : ℕ → ℕ) (list old now : List ℕ) (i x : ℕ) → now ≡ map f (take i list) ++ drop i old → x ≡ f (get_or list i 0) → i < length list → i < length old → set now i x ≡ map f (take (i + 1) list) ++ drop (i + 1) old
front_mapped f list old now i x e q h k =
    let y = get_or list i 0 in
    rw (e, q)
    (front-more (map f (take i list)) old i (f y) (length-map (take i list) f ∙ length-take-le i list (omega arith)) k
    ∙ ap (λ (t : List ℕ). t ++ drop (i + 1) old) (sym (map-append f (take i list) (y ∷ [])) ∙ ap (λ (t : List ℕ). map f t) (take_more list i h)))

pub at_map : (f : ℕ → ℕ) (xs : List ℕ) (i : ℕ) → i < length xs → f (get_or xs i 0) ≡ get_or (map f xs) i 0
at_map f [] i h = absurd (omega arith)
at_map f (x ∷ xs) zero h = refl
at_map f (x ∷ xs) (suc i) h = at_map f xs i (omega arith)

-- the wraps with 2 for the modules of a set: as many, 2 where the mark isn't 0, as written elsewhere

pub as-two-length : (S wraps : List ℕ) → length (read_as_two S wraps) ≡ length wraps
as-two-length S [] = refl
as-two-length [] (w ∷ wraps) = refl
as-two-length (x ∷ S) (w ∷ wraps) = ap suc (as-two-length S wraps)

pub as_two_out : (S wraps : List ℕ) (m : ℕ) → m < length wraps → get_or S m 0 ≡ 0 → get_or wraps m 0 ≡ get_or (read_as_two S wraps) m 0
as_two_out S [] m h e = omega arith
as_two_out [] (w ∷ wraps) m h e = refl
as_two_out (x ∷ S) (w ∷ wraps) zero h e = rw e
as_two_out (x ∷ S) (w ∷ wraps) (suc m) h e = as_two_out S wraps m (omega arith) e

pub as_two_in : (S wraps : List ℕ) (m : ℕ) → m < length wraps → (get_or S m 0 ≡ 0 → ⊥) → 2 ≡ get_or (read_as_two S wraps) m 0
as_two_in S [] m h e = omega arith
as_two_in [] (w ∷ wraps) m h e = absurd (e refl)
as_two_in (x ∷ S) (w ∷ wraps) zero h e = rw (not-zero x e)
as_two_in (x ∷ S) (w ∷ wraps) (suc m) h e = as_two_in S wraps m (omega arith) e

pub as_two_written : (S wraps now : List ℕ) → length now ≡ length wraps → ((k : ℕ) → k < length now → get_or now k 0 ≡ get_or (read_as_two S wraps) k 0) → now ≡ read_as_two S wraps
as_two_written S wraps now e at = ext_get_or 0 now (read_as_two S wraps) (e ∙ sym (as-two-length S wraps)) at
