-- A column made of a part for each owner, by rising owner.
-- Assumes nothing.
use Rattle.std.specs.Prelude.{◌≡◌, ℕ, zero, suc, ◌+◌, ◌-◌, ◌<◌, List, [], ◌∷◌, ◌++◌, length, get_or, take, drop}
use mathlib.Core.Path.{refl, sym, ap, subst, ◌∙◌}
use mathlib.Core.List.{flat_map, append_assoc}
use native.Mathlib.Nat.{zero-add}
use native.Mathlib.Numerals.{add-one}
use native.Mathlib.Omega.{arith}
use native.Mathlib.Decide.{dec_lt}
use lib.ListN.{length-append, length-drop}
use lib.Seq.{take_at, drop_at, length-take-le}
use Rattle.lists.specs.Words.{up_to, count_from}
use Rattle.lists.proofs.Laws.{count_from-append}
use Rattle.lists.proofs.Maps.{flat_append, flat-one}
use Rattle.tables.specs.Lookups.{Rising, FirstRow}
use Rattle.tables.specs.Accepted.{Below}
use Rattle.tables.specs.Readings.{values_of}
use Rattle.tables.proofs.Rows.{run-ordered, values-part}

-- one owner more
pub flat-more : (f : ℕ → List ℕ) (c : ℕ) → flat_map f (up_to (c + 1)) ≡ flat_map f (up_to c) ++ f c
flat-more f c =
    ap (flat_map f) (count_from-append 0 c 1)
    ∙ flat_append f (up_to c) (count_from (0 + c) 1)
    ∙ ap (λ (i : ℕ). flat_map f (up_to c) ++ flat_map f (i ∷ [])) (zero-add c)
    ∙ ap (λ (l : List ℕ). flat_map f (up_to c) ++ l) (flat-one f c)

-- there is a first row that is at least x

module _ (xs : List ℕ) (rising : Rising xs) (x : ℕ) where
  seek : (fuel k : ℕ) → k + fuel ≡ length xs → ((i : ℕ) → i < k → get_or xs i 0 < x) → (r : ℕ) × FirstRow xs x r
  unfolding Rising
  seek zero k e b = (k, record { within = omega arith; below = b; above = λ i h l. absurd (omega arith) })
  seek (suc fuel) k e b = next (seek fuel (k + 1) (omega arith)) (dec_lt (get_or xs k 0) x)
    where
      up-to : get_or xs k 0 < x → (i : ℕ) → i < k + 1 → Dec (i < k) → get_or xs i 0 < x
      up-to h i l (yes q) = b i q
      up-to h i l (no q) = let same : i ≡ k = omega arith in rw same h

      next : (((i : ℕ) → i < k + 1 → get_or xs i 0 < x) → (r : ℕ) × FirstRow xs x r) → Dec (get_or xs k 0 < x) → (r : ℕ) × FirstRow xs x r
      next on (yes h) = on (λ i l. up-to h i l (dec_lt i k))
      next on (no h) = (k, record { within = omega arith; below = b; above = λ i l m. let r = rising k i l m in omega arith })

  pub first-row : (r : ℕ) × FirstRow xs x r
  first-row = seek (length xs) 0 (zero-add (length xs)) (λ i h. absurd (omega arith))

-- parts as long as the owners' values, one after the other

module _ (owner column : List ℕ) (rising : Rising owner) (lengths : length column ≡ length owner) (parts : ℕ → List ℕ) (same : (c : ℕ) → length (parts c) ≡ length (values_of owner column c)) where
  part_length : (c start end : ℕ) → FirstRow owner c start → FirstRow owner (c + 1) end → length (parts c) ≡ end - start
  part_length c start end first next =
      same c
      ∙ ap length (sym (values-part owner c start end first next column lengths))
      ∙ length-take-le (end - start) (drop start column) (omega (arith, length-drop start column, next.within, run-ordered owner c start end first next))

  -- the parts of the owners below c end at c's first row
  flat-length : (c start : ℕ) → FirstRow owner c start → length (flat_map parts (up_to c)) ≡ start
  unfolding flat_map
  flat-length zero start first = none start first
    where
      none : (start : ℕ) → FirstRow owner 0 start → 0 ≡ start
      none zero f = refl
      none (suc start) f = absurd (let b = f.below 0 (omega arith) in omega arith)
  flat-length (suc c) end next =
      let r = first-row owner rising c in
      let next' : FirstRow owner (c + 1) end = subst (λ (i : ℕ). FirstRow owner i end) (sym (add-one c)) next in
      ap (λ (i : ℕ). length (flat_map parts (up_to i))) (sym (add-one c))
      ∙ ap length (flat-more parts c)
      ∙ length-append (flat_map parts (up_to c)) (parts c)
      ∙ (let a = flat-length c r.0 r.1 in let b = part_length c r.0 end r.1 next' in let o = run-ordered owner c r.0 end r.1 next' in omega arith)

  module _ (n : ℕ) (owners : Below n owner) where
    -- a first row of n is the end
    pub first-end : (r : ℕ) → FirstRow owner n r → r ≡ length owner
    first-end r f = at-end (dec_lt r (length owner))
      where
        at-end : Dec (r < length owner) → r ≡ length owner
        at-end (yes h) = absurd (let a = f.above r (omega arith) h in let b = owners r h in omega arith)
        at-end (no h) = let w = f.within in omega arith

    pub flat-size : length (flat_map parts (up_to n)) ≡ length owner
    flat-size = let r = first-row owner rising n in flat-length n r.0 r.1 ∙ first-end r.0 r.1

    -- the values of an owner are its part
    pub flat-values : (c : ℕ) → c < n → values_of owner (flat_map parts (up_to n)) c ≡ parts c
    flat-values c l =
        let a = first-row owner rising c in
        let b = first-row owner rising (c + 1) in
        let m : ℕ = n - (c + 1) in
        let e : c + 1 + m ≡ n = omega arith in
        let rest : List ℕ = flat_map parts (count_from (0 + (c + 1)) m) in
        let cut : flat_map parts (up_to n) ≡ flat_map parts (up_to c) ++ (parts c ++ rest) =
        ap (λ (k : ℕ). flat_map parts (up_to k)) (sym e)
        ∙ ap (flat_map parts) (count_from-append 0 (c + 1) m)
        ∙ flat_append parts (up_to (c + 1)) (count_from (0 + (c + 1)) m)
        ∙ ap (λ (k : List ℕ). k ++ rest) (flat-more parts c)
        ∙ append_assoc (flat_map parts (up_to c)) (parts c) rest in
        sym (values-part owner c a.0 b.0 a.1 b.1 (flat_map parts (up_to n)) flat-size)
        ∙ ap (λ (k : List ℕ). take (b.0 - a.0) (drop a.0 k)) cut
        ∙ ap (take (b.0 - a.0)) (drop_at (flat_map parts (up_to c)) (parts c ++ rest) a.0 (flat-length c a.0 a.1))
        ∙ take_at (parts c) rest (b.0 - a.0) (part_length c a.0 b.0 a.1 b.1)
