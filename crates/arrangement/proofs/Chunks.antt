-- The members sorted in place, chunk by chunk.
-- Assumes nothing.
use Rattle.std.specs.Prelude.{◌≡◌, ℕ, ◌+◌, ◌-◌, ◌≤◌, List, ◌++◌, length, take, drop}
use mathlib.Core.Path.{refl, sym, ap, ◌∙◌}
use mathlib.Core.List.{flat_map, append_assoc}
use native.Mathlib.Omega.{arith}
use lib.ListN.{length-append, length-drop}
use lib.Seq.{take_all, take_at, drop-drop, length-take-le}
use borrow.Rule.Slice.PartMut.{mid_of, post_of, put_mid, same_len_mid, drop_put}
use Rattle.lists.specs.Words.{up_to}
use Rattle.tables.specs.Lookups.{FirstRow}
use Rattle.tables.specs.Readings.{values_of}
use Rattle.tables.proofs.Rows.{run-ordered, values-part}
use Rattle.merge_sort.specs.Sort.{ahead, sort_with}
use Rattle.merge_sort.proofs.Sorting.{sort-length}
use Rattle.arrangement.specs.Arrangement.{sorted_members, arranged}
use Rattle.arrangement.specs.inner.Rows.{Members}
use Rattle.arrangement.proofs.Parts.{flat-more, first-end}

module _ (key : ℕ → List ℕ) (owner old : List ℕ) where
  abbrev parts : ℕ → List ℕ
  parts = sorted_members key owner old

  -- the rows of the owners below c are sorted; they end at `start`
  pub record Arranging (now : List ℕ) (c start : ℕ) : Type 0 where
    pub first : FirstRow owner c start
    pub size : length now ≡ length old
    pub done : take start now ≡ flat_map parts (up_to c)
    pub rest : drop start now ≡ drop start old

  pub arranging-start : Arranging old 0 0
  unfolding flat_map
  arranging-start = record {
    first = record { within = omega arith; below = λ i h. absurd (omega arith); above = λ i h k. omega arith };
    size = refl;
    done = refl;
    rest = refl;
  }

  module _ (n : ℕ) (f : Members owner old n) (now : List ℕ) (c start : ℕ) (g : Arranging now c start) where
    module _ (end : ℕ) (next : FirstRow owner (c + 1) end) where
      pub arranging-ordered : start ≤ end
      arranging-ordered = run-ordered owner c start end g.first next

      pub arranging-within : end ≤ length now
      arranging-within = omega (arith, next.within, g.size, f.lengths)

      span : length (mid_of start (end - start) now) ≡ end - start
      span = length-take-le (end - start) (drop start now) (omega (arith, length-drop start now, arranging-ordered, arranging-within))

      part : mid_of start (end - start) now ≡ values_of owner old c
      part = ap (take (end - start)) g.rest ∙ values-part owner c start end g.first next old f.lengths

      module _ (new : List ℕ) (sorted : new ≡ sort_with (ahead key) (mid_of start (end - start) now)) where
        abbrev after : List ℕ
        after = put_mid start (end - start) now new

        long : length new ≡ length (mid_of start (end - start) now)
        long = ap length sorted ∙ sort-length (ahead key) (mid_of start (end - start) now)

        pub arranging-next : Arranging after (c + 1) end
        arranging-next = record {
          first = next;
          size = same_len_mid start (end - start) now new long ∙ g.size;
          done =
              ap (take end) (sym (append_assoc (take start now) new (post_of start (end - start) now)))
              ∙ take_at (take start now ++ new) (post_of start (end - start) now) end reach
              ∙ ap (λ (l : List ℕ). l ++ new) g.done
              ∙ ap (λ (l : List ℕ). flat_map parts (up_to c) ++ l) (sorted ∙ ap (sort_with (ahead key)) part)
              ∙ sym (flat-more parts c);
          rest = drop_put start end now new arranging-ordered arranging-within (long ∙ span) ∙ later;
        }
          where
            reach : length (take start now ++ new) ≡ end
            reach = omega (arith, length-append (take start now) new, length-take-le start now (omega (arith, arranging-ordered, arranging-within)), long, span, arranging-ordered)

            later : drop end now ≡ drop end old
            later = let o = arranging-ordered in
                let e : start + (end - start) ≡ end = omega arith in
                ap (λ (k : ℕ). drop k now) (sym e) ∙ sym (drop-drop (end - start) start now) ∙ ap (drop (end - start)) g.rest ∙ drop-drop (end - start) start old ∙ ap (λ (k : ℕ). drop k old) e

  pub arranging-end : (n : ℕ) → Members owner old n → (now : List ℕ) (start : ℕ) → Arranging now n start → now ≡ arranged key n owner old
  unfolding arranged
  arranging-end n f now start g =
      let e : start ≡ length owner = first-end owner old f.rising f.lengths parts (λ c. sort-length (ahead key) (values_of owner old c)) n f.owners start g.first in
      sym (take_all start now (omega (arith, g.size, f.lengths))) ∙ g.done
