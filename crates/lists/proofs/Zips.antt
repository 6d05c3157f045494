-- A loop over two columns side by side: what a turn takes stands at the row that the turns before it count.
-- Assumes nothing.
use Rattle.std.specs.Prelude.{◌≡◌, ℕ, ◌+◌, ◌<◌, List, [], ◌∷◌, ◌++◌, length, get_or, Some}
use mathlib.Core.Path.{refl, sym}
use lib.ListN.{length-append}
use denote.Ref.{Bor}
use Rattle.std.specs.declared.iter.Zip.{Zip}
use Rattle.std.specs.declared.slice.Iter.{Iter}
use Rattle.std.specs.Iterator.{Yields}
use Rattle.std.specs.Iterator.Adapters.{zip_first, zip_second}
use Rattle.std.specs.Slice.Iter.{iter_rest}
use Rattle.std.proofs.iter.Yields.{fronts}
use Rattle.std.proofs.lemmas.Iterator.{zips}
use Rattle.std.proofs.lemmas.Slice.Zip.{zip_turn}

-- k and v stand at `row`, and the turn after this is `next`
pub record TurnAt (ks vs : List ℕ) (row k v next : ℕ) : Type 0 where
  pub first_in : row < length ks
  pub second_in : row < length vs
  pub first : get_or ks row 0 ≡ k
  pub second : get_or vs row 0 ≡ v
  pub more : next ≡ row + 1

module _ (ks vs : List ℕ) (xs : List (Bor ℕ × Bor ℕ)) (s t u : Zip (Iter ℕ) (Iter ℕ)) (first : iter_rest (zip_first s) ≡ ks) (second : iter_rest (zip_second s) ≡ vs) (y : Yields (zips fronts fronts) s xs t) where
  pub turn_at : (p : Bor ℕ × Bor ℕ) → zips fronts fronts t (Some p) u → TurnAt ks vs (length xs) p.0.now p.1.now (length (xs ++ (p ∷ [])))
  turn_at p h =
      let q = zip_turn ks vs xs s t u (Some p) first second y p refl h in
      record { first_in = q.0; second_in = q.1; first = sym (q.2 0); second = sym (q.3 0); more = length-append xs (p ∷ []) }
