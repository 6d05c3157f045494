-- What a walk that numbers makes: the numbers by place in the post-order, and the sorted list.
-- Assumes nothing.
use Rattle.std.specs.Prelude.{◌≡◌, ℕ, zero, suc, ◌+◌, ◌<◌, ◌≤◌, true, false, eqb, List, [], ◌∷◌, ◌++◌, map, length, get_or, drop, set, replicate}
use mathlib.Core.Path.{refl, sym, ap, subst, ◌∙◌}
use mathlib.Core.Logic.{⊎_elim}
use mathlib.Core.List.{foldl, Memᴰ}
use native.Mathlib.Nat.{not-suc-le-zero, zero-add, add-zero, add-suc, suc-add}
use native.Mathlib.Numerals.{add-one}
use native.Mathlib.Omega.{arith}
use lib.ListN.{length-set, length-replicate}
use lib.Seq.{ext_get_or, get_or-set_same, get_or-set_other}
use borrow.Author.Tests.{eqb-true, eqb-false, ne_eqb}
use Rattle.lists.specs.Words.{count_from, up_to, Distinct}
use Rattle.lists.proofs.Laws.{both, length-keep}
use Rattle.walk.specs.Walk.{St, Placed, place, everywhere, Visits}
use Rattle.walk.proofs.Visits.{walk-made}
use Rattle.walk.proofs.Orders.{order-distinct, order-length}
use Rattle.walk.proofs.Going.{visited-walk}
use Rattle.walk.proofs.Placing.{placed-list}
use Rattle.tables.specs.Project.{Project, missing}
use Rattle.tables.specs.Readings.{modules, is_normal}
use Rattle.sort_modules.specs.Sort.{number_in, statics_of, visited, numbers, sorted}
use Rattle.sort_modules.specs.OfProject.{numbers_of, sorted_of}
use Rattle.sort_steps.specs.Steps.{Numbered, number}
use Rattle.sort_visit.specs.Visit.{held}
use Rattle.sort_modules.specs.Sorting.{Sorted}

module _ (normal : List ℕ) where
  -- the list is placed as if alone
  list-alone : (a : Numbered) (xs : List ℕ) → (foldl (number normal) a xs).list ≡ foldl (place (is_normal normal)) a.list xs
  list-alone a [] = refl
  list-alone a (x ∷ xs) = list-alone (number normal a x) xs

  -- one that isn't in the list has no number there
  not_in : (d m i : ℕ) (xs : List ℕ) → (Memᴰ m xs → ⊥) → number_in d m i xs ≡ d
  not_in d m i [] n = refl
  not_in d m i (x ∷ xs) n = rw (ne_eqb x m (λ e. n (Memᴰ.head (sym e)))) (not_in d m (suc i) xs (λ h. n (Memᴰ.tail h)))

  head-yes : (d x m i : ℕ) (xs : List ℕ) → eqb x m ≡ true → number_in d m i (x ∷ xs) ≡ i
  head-yes d x m i xs e = rw e

  head-no : (d x m i : ℕ) (xs : List ℕ) → eqb x m ≡ false → number_in d m i (x ∷ xs) ≡ number_in d m (suc i) xs
  head-no d x m i xs e = rw e

  numbered-at : (xs : List ℕ) (a : Numbered) (m : ℕ) → Distinct xs → m < length a.numbers → get_or (foldl (number normal) a xs).numbers m 0 ≡ number_in (get_or a.numbers m 0) m a.next xs
  unfolding Distinct
  numbered-at [] a m d l = refl
  numbered-at (x ∷ xs) a m d l =
      let b = number normal a x in
      let n = length-set a.numbers x a.next in
      let rest : get_or (foldl (number normal) b xs).numbers m 0 ≡ number_in (get_or b.numbers m 0) m (suc a.next) xs =
      numbered-at xs b m d.1 (omega arith) ∙ ap (λ (i : ℕ). number_in (get_or b.numbers m 0) m i xs) (add-one a.next) in
      ⊎_elim
      (λ e.
      let q = eqb-true x m e in
      let at : get_or b.numbers m 0 ≡ a.next = ap (λ (i : ℕ). get_or (set a.numbers i a.next) m 0) q ∙ get_or-set_same a.numbers m a.next 0 l in
      rest ∙ ap (λ (v : ℕ). number_in v m (suc a.next) xs) at ∙ not_in a.next m (suc a.next) xs (subst (λ (i : ℕ). Memᴰ i xs → ⊥) q d.0) ∙ sym (head-yes (get_or a.numbers m 0) x m a.next xs e))
      (λ e.
      let at : get_or b.numbers m 0 ≡ get_or a.numbers m 0 = get_or-set_other a.numbers x m a.next 0 (λ q. eqb-false x m e (sym q)) in
      rest ∙ ap (λ (v : ℕ). number_in v m (suc a.next) xs) at ∙ sym (head-no (get_or a.numbers m 0) x m a.next xs e))
      (both (eqb x m))

  kept-length : (xs : List ℕ) (a : Numbered) → length (foldl (number normal) a xs).numbers ≡ length a.numbers
  kept-length [] a = refl
  kept-length (x ∷ xs) a = kept-length xs (number normal a x) ∙ length-set a.numbers x a.next

-- one place of a mapped run

length-map-run : (f : ℕ → ℕ) (i n : ℕ) → length (map f (count_from i n)) ≡ n
length-map-run f i zero = refl
length-map-run f i (suc n) = ap suc (length-map-run f (suc i) n)

map-run-at : (f : ℕ → ℕ) (i n j : ℕ) → j < n → get_or (map f (count_from i n)) j 0 ≡ f (i + j)
map-run-at f i zero j l = absurd (not-suc-le-zero l)
map-run-at f i (suc n) zero l = ap f (sym (add-zero i))
map-run-at f i (suc n) (suc j) l = map-run-at f (suc i) n j (omega arith) ∙ ap f (suc-add i j ∙ sym (add-suc i j))

replicate-at : (n v j : ℕ) → j < n → get_or (replicate n v) j 0 ≡ v
replicate-at zero v j l = absurd (not-suc-le-zero l)
replicate-at (suc n) v zero l = refl
replicate-at (suc n) v (suc j) l = replicate-at n v j (omega arith)

module _ (dynamic : ℕ) (normal record_module record_kind record_target : List ℕ) (runtime : ℕ) (entry : List ℕ) where
  -- there is a number for each module
  pub numbers-count : length (numbers dynamic normal record_module record_kind record_target runtime entry) ≡ length normal
  unfolding numbers
  numbers-count = length-map-run _ 0 (length normal)

module _ (p : Project) where
  abbrev targets : ℕ → List ℕ
  targets = statics_of p.dynamic p.normal p.record_module p.record_kind p.record_target

  abbrev order : List ℕ
  order = visited p.dynamic p.normal p.record_module p.record_kind p.record_target p.runtime p.entry

  -- from nothing numbered, nothing listed
  abbrev fresh_start : List ℕ → Numbered
  fresh_start room = record { numbers = replicate (modules p) missing; next = 0; list = record { order = room; count = 0 } }

  order-once : Distinct order
  unfolding visited
  order-once = order-distinct targets everywhere (modules p) (p.runtime ∷ p.entry)

  order-fits : length order ≤ modules p
  unfolding visited
  order-fits = order-length targets everywhere (modules p) (p.runtime ∷ p.entry)

  made-numbers : (room : List ℕ) → (foldl (number p.normal) (fresh_start room) order).numbers ≡ numbers_of p
  unfolding numbers_of numbers
  made-numbers room =
      let n : ℕ = modules p in
      let f : ℕ → ℕ = λ (m : ℕ). number_in missing m zero order in
      let a : Numbered = fresh_start room in
      let len : length (foldl (number p.normal) a order).numbers ≡ n = kept-length p.normal order a ∙ length-replicate n missing in
      ext_get_or 0 (foldl (number p.normal) a order).numbers (map f (up_to n)) (len ∙ sym (length-map-run f 0 n))
      (λ j l.
      let k : j < n = omega arith in
      numbered-at p.normal order a j order-once (let r = length-replicate {A = ℕ} n missing in omega arith)
      ∙ ap (λ (d : ℕ). number_in d j 0 order) (replicate-at n missing j k)
      ∙ sym (map-run-at f 0 n j k ∙ ap f (zero-add j)))

  made_list : (room : List ℕ) → modules p ≤ length room
      → let l = sorted_of p in
      (foldl (number p.normal) (fresh_start room) order).list ≡ record { order = l ++ drop (length l) room; count = length l }
  unfolding sorted_of sorted
  made_list room r =
      list-alone p.normal (fresh_start room) order ∙ placed-list (is_normal p.normal) order room (let o = order-fits in omega (arith, length-keep (is_normal p.normal) order))

  -- a walk over the runtime and the entries, from nothing met, numbers and lists as defined
  pub walk-sorted : {marks room marks₁ marks' numbers' sorted' : List ℕ} {placed next : ℕ} → modules p ≤ length room → marks' ≡ replicate (length marks) 0
      → Visits targets everywhere (number p.normal) (held (replicate (modules p) 0) (replicate (modules p) missing) room 0 0) (p.runtime ∷ p.entry) (held marks₁ numbers' sorted' placed next)
      → Sorted (numbers_of p) (sorted_of p) marks room marks' numbers' sorted' placed
  unfolding visited
  walk-sorted {room = room} {numbers' = numbers'} {sorted' = sorted'} {placed = placed} {next = next} r z v = record {
    count = ap (λ (p : Placed). p.count) list;
    numbers = ap (λ (a : Numbered). a.numbers) made ∙ made-numbers room;
    written = ap (λ (p : Placed). p.order) list;
    cleared = z;
  }
    where
      made : ◌≡◌ {A = Numbered} (record { numbers = numbers'; next = next; list = record { order = sorted'; count = placed } }) (foldl (number p.normal) (fresh_start room) order)
      made = sym (ap (λ (s : St Numbered). s.made) (visited-walk targets everywhere (number p.normal) v)) ∙ walk-made targets everywhere (number p.normal) (fresh_start room) (modules p) (p.runtime ∷ p.entry)

      list : ◌≡◌ {A = Placed} (record { order = sorted'; count = placed })
          (let l = sorted_of p in record { order = l ++ drop (length l) room; count = length l })
      list = ap (λ (a : Numbered). a.list) made ∙ made_list room r
