-- The laws of an arrangement: each chunk has the same modules as often as before, in the order of their keys, at its member rows.
-- Assumes nothing.
use Rattle.std.specs.Prelude.{◌≡◌, ℕ, ◌<◌, List, length, get_or}
use mathlib.Core.Path.{sym, ap, subst, ◌∙◌}
use mathlib.Core.List.{Memᴰ}
use native.Mathlib.Omega.{arith}
use Rattle.lists.specs.Words.{up_to}
use Rattle.lists.proofs.Maps.{flat-cong}
use Rattle.tables.specs.Accepted.{Below}
use Rattle.tables.specs.Readings.{values_of, members_of}
use Rattle.tables.proofs.OwnerRows.{row-values}
use Rattle.tables.proofs.Accepted.{below-mem}
use Rattle.load_order.proofs.Arranging.{values-below}
use Rattle.merge_sort.specs.Sort.{ahead}
use Rattle.merge_sort.proofs.Ahead.{ahead-asym, ahead-trans}
use Rattle.merge_sort.proofs.Sorting.{times, same_mem, sort-times, sort-length, InOrder, sort-order, sort-cong}
use Rattle.arrangement.specs.Arrangement.{sorted_members, arranged}
use Rattle.arrangement.specs.inner.Rows.{Members}
use Rattle.arrangement.proofs.Parts.{flat-size, flat-values}

module _ (key : ℕ → List ℕ) (member_chunk member : List ℕ) (chunks : ℕ) (f : Members member_chunk member chunks) where
  long : (c : ℕ) → length (sorted_members key member_chunk member c) ≡ length (values_of member_chunk member c)
  long c = sort-length (ahead key) (values_of member_chunk member c)

  -- as many rows
  pub arranged-size : length (arranged key chunks member_chunk member) ≡ length member
  unfolding arranged
  arranged-size = flat-size member_chunk member f.rising f.lengths (sorted_members key member_chunk member) long chunks f.owners ∙ sym f.lengths

  module _ (c : ℕ) (l : c < chunks) where
    -- a chunk's result stands at its member rows
    pub arranged-members : members_of member_chunk (arranged key chunks member_chunk member) c ≡ sorted_members key member_chunk member c
    unfolding arranged
    arranged-members = flat-values member_chunk member f.rising f.lengths (sorted_members key member_chunk member) long chunks f.owners c l

    -- "the same modules as often as before"
    pub arranged-times : (m : ℕ) → times m (members_of member_chunk (arranged key chunks member_chunk member) c) ≡ times m (members_of member_chunk member c)
    arranged-times m = ap (times m) arranged-members ∙ sort-times (ahead key) m (values_of member_chunk member c)

    -- in the order of their keys
    pub arranged-order : InOrder (ahead key) (members_of member_chunk (arranged key chunks member_chunk member) c)
    arranged-order = subst (InOrder (ahead key)) (sym arranged-members) (sort-order (ahead key) (ahead-asym key) (ahead-trans key) (values_of member_chunk member c))

  -- what every member is below, every one is still
  pub arranged-below : (n : ℕ) → Below n member → Below n (arranged key chunks member_chunk member)
  arranged-below n b i l =
      let here : i < length member_chunk = omega (arith, arranged-size, f.lengths) in
      let c : ℕ = get_or member_chunk i 0 in
      below-mem (values_of member_chunk member c) (values-below n member_chunk member c f.lengths b)
      (same_mem (members_of member_chunk (arranged key chunks member_chunk member) c) (members_of member_chunk member c) (arranged-times c (f.owners i here) (get_or (arranged key chunks member_chunk member) i 0)) (row-values member_chunk (arranged key chunks member_chunk member) i here))

-- keys that agree on the modules arrange alike

pub arranged-same : (key key' : ℕ → List ℕ) (chunks n : ℕ) (member_chunk member : List ℕ) → ((m : ℕ) → m < n → key m ≡ key' m) → length member ≡ length member_chunk → Below n member
    → arranged key chunks member_chunk member ≡ arranged key' chunks member_chunk member
unfolding arranged ahead
arranged-same key key' chunks n member_chunk member h e b =
    flat-cong (sorted_members key member_chunk member) (sorted_members key' member_chunk member) (up_to chunks)
    (λ c m. sort-cong (ahead key) (ahead key') (values_of member_chunk member c) (λ x y p q. rw (h x (inside c x p), h y (inside c y q))))
  where
    inside : (c x : ℕ) → Memᴰ x (values_of member_chunk member c) → x < n
    inside c x p = below-mem (values_of member_chunk member c) (values-below n member_chunk member c e b) p
