-- The promises of specs/Arranged, inhabited.
-- Assumes nothing.
use mathlib.Core.Path.{◌≡◌, refl}
use mathlib.Core.Bool.{false}
use mathlib.Core.List.{List, [], ◌∷◌, Memᴰ}
use Prim.Native.Nat.{ℕ, zero, suc, ◌<◌}
use native.Mathlib.Omega.{arith}
use lib.ListN.{length, get_or}
use Rattle.tables.specs.Readings.{chunks, entry_chunk_of}
use Rattle.tables.proofs.Accepted.{accepted}
use Rattle.table.specs.Table.{read}
use Rattle.load_order.proofs.LoadOrders.{Pairs}
use Rattle.merge_sort.specs.Sort.{ahead}
use Rattle.sort_modules.specs.OfProject.{numbers_of, sorted_of}
use Rattle.expected_visit.specs.OfProject.{expected_of}
use Rattle.chunk_cycles.specs.Cycles.{labels_of, reaches_cycle_of}
use Rattle.eligibility.specs.Eligible.{eligible}
use Rattle.at_risk.specs.Promise.{cycle_risk_of_entry}
use Rattle.arrangement.specs.OfProject.{key_in, arranged_of, named}
use Rattle.arrangement.proofs.Laws.{arranged-size, arranged-times, arranged-order}
use Rattle.arrangement.proofs.OfProject.{members-fit, named_none}
use Rattle.promises.specs.Arranged.{ChunksAreArranged, WithoutNamesNothingMoves, OthersDontReadMembers}

at_mem : (xs : List ℕ) (i : ℕ) → i < length xs → Memᴰ (get_or xs i 0) xs
at_mem [] i l = absurd (omega arith)
at_mem (x ∷ xs) zero l = Memᴰ.head refl
at_mem (x ∷ xs) (suc i) l = Memᴰ.tail (at_mem xs i (omega arith))

-- what holds of all pairs of a list holds at any two of its places
pairs-places : (r : ℕ → ℕ → Type 0) (xs : List ℕ) → Pairs r xs → (i j : ℕ) → i < j → j < length xs → r (get_or xs i 0) (get_or xs j 0)
unfolding Pairs
pairs-places r [] h i j a b = absurd (omega arith)
pairs-places r (x ∷ xs) h i zero a b = absurd (omega arith)
pairs-places r (x ∷ xs) h zero (suc j) a b = h.0 (get_or xs j 0) (at_mem xs j (omega arith))
pairs-places r (x ∷ xs) h (suc i) (suc j) a b = pairs-places r xs h.1 i j (omega arith) (omega arith)

pub chunks_are_arranged : ChunksAreArranged
unfolding ChunksAreArranged arranged_of
chunks_are_arranged p names z =
    let fit = members-fit p (accepted p z) in (
      arranged-size (key_in p names) p.member_chunk p.member (chunks p) fit,
      λ c l. record {
        in_order = λ i j. pairs-places (λ (a b : ℕ). ahead (key_in p names) b a ≡ false) _ (arranged-order (key_in p names) p.member_chunk p.member (chunks p) fit c l) i j;
        same = arranged-times (key_in p names) p.member_chunk p.member (chunks p) fit c l;
      },
    )

pub without_names_nothing_moves : WithoutNamesNothingMoves
unfolding WithoutNamesNothingMoves
without_names_nothing_moves p = named_none p

pub others_dont_read_members : OthersDontReadMembers
unfolding OthersDontReadMembers named read numbers_of sorted_of expected_of labels_of cycle_risk_of_entry reaches_cycle_of eligible entry_chunk_of
others_dont_read_members p names = record { numbers = refl; sorted = refl; expected = λ root. refl; labels = refl; cycle_risk = λ root. refl }
