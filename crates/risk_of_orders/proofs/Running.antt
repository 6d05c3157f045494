-- The sensitive members of an order before one of its places, and the greatest place among them.
-- Assumes nothing.
use Rattle.std.specs.Prelude.{◌≡◌, ℕ, zero, suc, ◌+◌, ◌<◌, Bool, true, false, cond, ◌&&◌, eqb, ltb, List, [], ◌∷◌, ◌++◌, length, get_or, take}
use mathlib.Core.Path.{refl, sym, ap, subst, ◌∙◌}
use mathlib.Core.Logic.{⊎_elim}
use mathlib.Core.List.{append-nil, foldl, foldl-append, Memᴰ}
use native.Mathlib.Nat.{not-suc-le-zero}
use native.Mathlib.Numerals.{add-one}
use native.Mathlib.Omega.{arith}
use lib.Seq.{take-suc}
use borrow.Author.Tests.{eq-eqb, ne_eqb}
use Rattle.std.specs.Ordering.{ord_max, nat_cmp}
use Rattle.std.proofs.lemmas.Bool.Decides.{nat_tests}
use Rattle.lists.specs.Words.{keep, has, Distinct}
use Rattle.lists.proofs.Laws.{both, keep_append}
use Rattle.lists.proofs.Members.{get_d-mem}
use Rattle.tables.specs.Lookups.{greater_of}
use Rattle.risk_of_orders.specs.Risk.{before}
use Rattle.risk_of_orders.specs.inner.Early.{highest}
use Rattle.risk_of_orders.specs.inner.Steps.{overtaken}

-- before a kept member stand the kept ones of the places before it
before-keep : (s : ℕ → Bool) (xs : List ℕ) (k : ℕ) → Distinct xs → k < length xs → s (get_or xs k 0) ≡ true → before (get_or xs k 0) (keep s xs) ≡ keep s (take k xs)
unfolding Distinct
before-keep s [] k d l e = absurd (not-suc-le-zero l)
before-keep s (x ∷ xs) zero d l e = rw e (ap (λ (b : Bool). cond b [] (x ∷ before x (keep s xs))) (eq-eqb x x refl))
before-keep s (x ∷ xs) (suc k) d l e =
    let y = get_or xs k 0 in
    let n : eqb y x ≡ false = ne_eqb y x (λ q. d.0 (subst (λ (z : ℕ). Memᴰ z xs) q (get_d-mem xs k (omega arith)))) in
    let rest : before y (keep s xs) ≡ keep s (take k xs) = before-keep s xs k d.1 (omega arith) e in
    ⊎_elim
    (λ q. rw q (ap (λ (b : Bool). cond b [] (x ∷ before y (keep s xs))) n ∙ ap (λ (r : List ℕ). x ∷ r) rest))
    (λ q. rw q rest)
    (both (s x))

greater-max : (a b : ℕ) → ord_max nat_cmp a b ≡ greater_of a b
greater-max a b = grind (arith, nat_tests)

module _ (s : ℕ → Bool) (xs : List ℕ) (k : ℕ) (l : k < length xs) where
  keep-more : keep s (take (k + 1) xs) ≡ keep s (take k xs) ++ keep s (get_or xs k 0 ∷ [])
  keep-more = ap (λ (j : ℕ). keep s (take j xs)) (add-one k) ∙ ap (keep s) (take-suc xs k 0 l) ∙ keep_append s (take k xs) (get_or xs k 0 ∷ [])

  pub keep-in : s (get_or xs k 0) ≡ true → keep s (take (k + 1) xs) ≡ keep s (take k xs) ++ (get_or xs k 0 ∷ [])
  keep-in e = keep-more ∙ ap (λ (b : Bool). keep s (take k xs) ++ cond b (get_or xs k 0 ∷ []) []) e

  pub keep_out : s (get_or xs k 0) ≡ false → keep s (take (k + 1) xs) ≡ keep s (take k xs)
  keep_out e = keep-more ∙ ap (λ (b : Bool). keep s (take k xs) ++ cond b (get_or xs k 0 ∷ []) []) e ∙ append-nil (keep s (take k xs))

  -- the greatest so far, over one place more
  pub highest-in : (ranks : ℕ → ℕ) → s (get_or xs k 0) ≡ true → highest ranks (keep s (take (k + 1) xs)) ≡ greater_of (highest ranks (keep s (take k xs))) (ranks (get_or xs k 0))
  unfolding highest
  highest-in ranks e =
      ap (foldl (λ (a x : ℕ). greater_of a (ranks x)) zero) (keep-in e) ∙ foldl-append (λ (a x : ℕ). greater_of a (ranks x)) zero (keep s (take k xs)) (get_or xs k 0 ∷ [])

-- whether the member at place k is overtaken, by the greatest place before it
module _ (sensitive places expected : List ℕ) (k : ℕ) (l : k < length expected) (d : Distinct expected) where
  abbrev at-k : ℕ
  at-k = get_or expected k 0

  abbrev greatest : ℕ
  greatest = highest (λ (y : ℕ). get_or places y 0) (keep (has sensitive) (take k expected))

  pub overtaken-at : has sensitive at-k ≡ true → overtaken sensitive places expected at-k ≡ (has places at-k && ltb (get_or places at-k 0) greatest)
  overtaken-at e =
      ap (λ (b : Bool). b && (has places at-k && ltb (get_or places at-k 0) (highest (λ (y : ℕ). get_or places y 0) (before at-k (keep (has sensitive) expected))))) e
      ∙ ap (λ (ys : List ℕ). has places at-k && ltb (get_or places at-k 0) (highest (λ (y : ℕ). get_or places y 0) ys)) (before-keep (has sensitive) expected k d l e)

  -- one that isn't sensitive is not
  pub overtaken-out : has sensitive at-k ≡ false → overtaken sensitive places expected at-k ≡ false
  overtaken-out e = ap (λ (b : Bool). b && (has places at-k && ltb (get_or places at-k 0) (highest (λ (y : ℕ). get_or places y 0) (before at-k (keep (has sensitive) expected))))) e

  -- the greatest place so far, past the member
  pub greatest_out : has sensitive at-k ≡ false → greatest ≡ highest (λ (y : ℕ). get_or places y 0) (keep (has sensitive) (take (k + 1) expected))
  greatest_out e = ap (highest (λ (y : ℕ). get_or places y 0)) (sym (keep_out (has sensitive) expected k l e))

  pub greatest_in : (latest next : ℕ) → latest ≡ greatest → next ≡ ord_max nat_cmp latest (get_or places at-k 0) → has sensitive at-k ≡ true
      → next ≡ highest (λ (y : ℕ). get_or places y 0) (keep (has sensitive) (take (k + 1) expected))
  greatest_in latest next g n e =
      n ∙ greater-max latest (get_or places at-k 0) ∙ ap (λ (x : ℕ). greater_of x (get_or places at-k 0)) g ∙ sym (highest-in (has sensitive) expected k l (λ (y : ℕ). get_or places y 0) e)

  -- a sensitive one is overtaken where it has a place below the greatest so far
  pub overtaken-below : (latest : ℕ) → latest ≡ greatest → has sensitive at-k ≡ true → overtaken sensitive places expected at-k ≡ (has places at-k && ltb (get_or places at-k 0) latest)
  overtaken-below latest g e = overtaken-at e ∙ ap (λ (x : ℕ). has places at-k && ltb (get_or places at-k 0) x) (sym g)

-- before the first member, no place
pub highest-none : (ranks : ℕ → ℕ) → 0 ≡ highest ranks []
unfolding highest
highest-none ranks = refl
