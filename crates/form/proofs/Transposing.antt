-- A list of lists turned about: its length, and that twice gives it back.
-- Assumes nothing.
use Prim.Native.Nat.{ℕ, ◌<◌}
use mathlib.Core.Path.{◌≡◌, sym, ap, ◌∙◌}
use mathlib.Core.List.{List, [], map, map-map}
use lib.ListN.{length, get_or, get_or-map, length-map}
use Rattle.lists.specs.Words.{up_to}
use Rattle.lists.proofs.Laws.{length-count_from}
use Rattle.lists.proofs.Maps.{map-up_to-cong, map-up_to-self}
use Rattle.form.specs.Form.{transpose}

pub transpose-length : (n : ℕ) (m : List (List ℕ)) → length (transpose n m) ≡ n
unfolding transpose
transpose-length n m = length-map (up_to n) (λ (i : ℕ). map (λ (l : List ℕ). get_or l i 0) m) ∙ length-count_from 0 n

-- turned about twice, lists of n numbers are themselves
pub transpose-twice : (n : ℕ) (m : List (List ℕ)) → ((k : ℕ) → k < length m → length (get_or m k []) ≡ n) → transpose (length m) (transpose n m) ≡ m
unfolding transpose
transpose-twice n m h = map-up_to-cong _ _ (length m) at ∙ map-up_to-self [] m
  where
    at : (k : ℕ) → k < length m → map (λ (l : List ℕ). get_or l k 0) (transpose n m) ≡ get_or m k []
    at k l =
        map-map (λ (l : List ℕ). get_or l k 0) (λ (i : ℕ). map (λ (l : List ℕ). get_or l i 0) m) (up_to n)
        ∙ map-up_to-cong _ _ n (λ i q. get_or-map (λ (l : List ℕ). get_or l i 0) m k [])
        ∙ ap (λ (j : ℕ). map (λ (i : ℕ). get_or (get_or m k []) i 0) (up_to j)) (sym (h k l))
        ∙ map-up_to-self 0 (get_or m k [])
