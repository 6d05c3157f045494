-- The taken ones by their places, and one taking more.
-- Assumes nothing.
use mathlib.Core.Path.{◌≡◌, sym, ap, subst, ◌∙◌}
use mathlib.Core.Bool.{true}
use mathlib.Core.List.{List, [], ◌∷◌, Memᴰ}
use Prim.Native.Nat.{ℕ, suc, ◌+◌, ◌≤◌, ◌<◌}
use native.Mathlib.Omega.{arith}
use lib.ListN.{length, get_or, take}
use lib.Seq.{get_or-take, length-take-le, ext_get_or}
use Rattle.lists.specs.Words.{elem, has, Distinct}
use Rattle.lists.proofs.Laws.{elem_mem, mem-elem, has_in, mark-in, has-marks_of, length-marks_of}
use Rattle.lists.proofs.Members.{mem-at, get_d-mem}
use Rattle.takings.specs.Taking.{set_of}
use Rattle.request_queue.specs.inner.Growing.{Listing, Listed, Grew}

-- a list whose members have places of their own has each once
distinct-places : (xs : List ℕ) → ((i j : ℕ) → i < length xs → j < length xs → get_or xs i 0 ≡ get_or xs j 0 → i ≡ j) → Distinct xs
unfolding Distinct
distinct-places [] h = tt
distinct-places (x ∷ xs) h =
    (λ m. let r = mem-at xs m in let z : 0 ≡ suc r.0 = h 0 (suc r.0) (omega arith) (omega (arith, r.1)) (sym r.2) in omega arith, distinct-places xs (λ i j a b e. let z = h (suc i) (suc j) (omega arith) (omega arith) e in omega arith))

module _ {placed list : List ℕ} (h : Listed placed list) where
  pub once : Distinct list
  once = distinct-places list (λ i j a b e. omega (arith, (h.placed i a).1, (h.placed j b).1, ap (λ (x : ℕ). get_or placed x 0) e))

  -- the place of a member
  pub place : (x : ℕ) → has placed x ≡ true → (i : ℕ) × (i < length list) × (get_or list i 0 ≡ x) × (get_or placed x 0 ≡ i + 1)
  place x e = let r = h.listed x e in (r.0, r.1, r.2, ap (λ (y : ℕ). get_or placed y 0) (sym r.2) ∙ (h.placed r.0 r.1).1)

  pub at_place : (i : ℕ) → i < length list → has placed (get_or list i 0) ≡ true
  at_place i l = mark-in (get_or placed (get_or list i 0) 0) (λ z. omega (arith, z, (h.placed i l).1))

  pub mem-listed : (x : ℕ) → Memᴰ x list → has placed x ≡ true
  mem-listed x m = let r = mem-at list m in subst (λ (y : ℕ). has placed y ≡ true) r.2 (at_place r.0 r.1)

  pub elem-listed : (x : ℕ) → elem x list ≡ true → has placed x ≡ true
  elem-listed x e = mem-listed x (elem_mem x list e)

  pub listed-elem : (x : ℕ) → has placed x ≡ true → elem x list ≡ true
  listed-elem x e = let r = place x e in mem-elem x list (subst (λ (y : ℕ). Memᴰ y list) r.2 (get_d-mem list r.0 r.1))

  -- the first k
  module _ (k : ℕ) (within : k ≤ length list) (n : ℕ) (size : length placed ≡ n) where
    abbrev taken : List ℕ
    taken = set_of n (take k list)

    short : length (take k list) ≡ k
    short = length-take-le k list within

    pub has-taken : (x : ℕ) → has taken x ≡ true → (has placed x ≡ true) × (get_or placed x 0 ≤ k)
    has-taken x e =
        let l : x < n = omega (arith, has_in taken x e, length-marks_of (λ (y : ℕ). elem y (take k list)) n) in
        let r = mem-at (take k list) (elem_mem x (take k list) (sym (has-marks_of (λ (y : ℕ). elem y (take k list)) n x l) ∙ e)) in
        let i : r.0 < k = omega (arith, r.1, short) in
        let j : r.0 < length list = omega arith in
        let q : get_or list r.0 0 ≡ x = sym (get_or-take k list r.0 0 i) ∙ r.2 in
        (subst (λ (y : ℕ). has placed y ≡ true) q (at_place r.0 j), omega (arith, i, (h.placed r.0 j).1, ap (λ (y : ℕ). get_or placed y 0) q))

    pub taken-has : (x : ℕ) → has placed x ≡ true → get_or placed x 0 ≤ k → has taken x ≡ true
    taken-has x e b =
        let r = place x e in
        let i : r.0 < k = omega (arith, b, r.3) in
        let l : x < n = omega (arith, has_in placed x e, size) in
        has-marks_of (λ (y : ℕ). elem y (take k list)) n x l
        ∙ mem-elem x (take k list) (subst (λ (y : ℕ). Memᴰ y (take k list)) (get_or-take k list r.0 0 i ∙ r.2) (get_d-mem (take k list) r.0 (omega (arith, i, short))))

-- a list that has grown
module _ {f : ℕ → Type 0} {q q' : Listing} (g : Grew f q q') where
  -- what has an old place was there
  pub old-place : Listed q.marks q.list → (x : ℕ) → has q'.marks x ≡ true → get_or q'.marks x 0 ≤ length q.list → has q.marks x ≡ true
  old-place h x e b =
      let r = place (g.listed h) x e in
      let l : r.0 < length q.list = omega (arith, b, r.3) in
      subst (λ (y : ℕ). has q.marks y ≡ true) (sym (g.front r.0 l) ∙ r.2) (at_place h r.0 l)

  -- the old list is its front
  pub front_same : take (length q.list) q'.list ≡ q.list
  front_same =
      let n : length (take (length q.list) q'.list) ≡ length q.list = length-take-le (length q.list) q'.list g.more in
      ext_get_or 0 (take (length q.list) q'.list) q.list n (λ i l. let b : i < length q.list = omega (arith, l, n) in get_or-take (length q.list) q'.list i 0 b ∙ g.front i b)
