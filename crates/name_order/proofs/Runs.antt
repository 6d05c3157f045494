-- Lines past the bytes that both begin with, run by run.
-- Assumes nothing.
use mathlib.Core.Bool.{true≢false}
use Rattle.std.specs.Prelude.{◌≡◌, ℕ, zero, suc, ◌+◌, ◌*◌, ◌<◌, Bool, true, false, not, ◌&&◌, ◌||◌, eqb, List, [], ◌∷◌, length, get_or, take, drop}
use mathlib.Core.Path.{refl, sym, ap, ◌∙◌}
use native.Mathlib.Omega.{arith}
use lib.Seq.{drop-drop}
use borrow.Author.Tests.{eq-eqb}
use Rattle.std.specs.List.{list_any}
use Rattle.std.specs.Simd.{first_chunks}
use Rattle.std.specs.Str.{bytes_eq}
use Rattle.std.proofs.lemmas.Slice.Eq.{bytes_eq-Decides}
use Rattle.lists.proofs.Laws.{and_parts, not-true}
use Rattle.name_order.specs.Sooner.{sooner}
use Rattle.name_order.specs.inner.Lines.{first_line, line_at}

-- the runs of a text

pub run-at : (n m k : ℕ) (s : List ℕ) → k < m → get_or (first_chunks n m s) k [] ≡ take n (drop (k * n) s)
run-at n zero k s l = absurd (omega (arith, l))
run-at n (suc m) zero s l = let none : 0 ≡ 0 * n = omega arith in ap (λ (i : ℕ). take n (drop i s)) none
run-at n (suc m) (suc k) s l =
    let next : n + k * n ≡ suc k * n = omega arith in
    run-at n m k (drop n s) (omega (arith, l)) ∙ ap (take n) (drop-drop (k * n) n s) ∙ ap (λ (i : ℕ). take n (drop i s)) next

-- lines past a run that both texts have

or_neither : (a b : Bool) → (a || b) ≡ false → (a ≡ false) × (b ≡ false)
or_neither false b e = (refl, e)
or_neither true b e = absurd (true≢false e)

abbrev feed : ℕ → Bool
feed b = eqb b 10

past : (n : ℕ) (s t : List ℕ) → take n s ≡ take n t → list_any feed (take n s) ≡ false → sooner (first_line (drop n s)) (first_line (drop n t)) ≡ sooner (first_line s) (first_line t)
unfolding first_line sooner
past zero s t e h = refl
past (suc n) [] [] e h = refl
past (suc n) [] (c ∷ t) e h = absurd (omega (arith, ap length e))
past (suc n) (b ∷ s) [] e h = absurd (omega (arith, ap length e))
past (suc n) (b ∷ s) (c ∷ t) e h =
    let r = or_neither (eqb b 10) (list_any feed (take n s)) h in
    let q : c ≡ b = sym (ap (λ (l : List ℕ). get_or l 0 0) e) in
    past n s t (ap (drop 1) e) r.1 ∙ sym (rw (q, r.0, eq-eqb b b refl) refl)

module _ (n i : ℕ) (s t x y : List ℕ) (b : Bool) (is : b ≡ (bytes_eq x y && not (list_any feed x))) (yes : b ≡ true) where
  same : (x ≡ y) × (list_any feed x ≡ false)
  same =
      let r = and_parts (bytes_eq x y) (not (list_any feed x)) (sym is ∙ yes) in
      ((bytes_eq-Decides x y).0 r.0, not-true (list_any feed x) r.1)

  pub past-run : x ≡ take n (drop i s) → y ≡ take n (drop i t) → sooner (line_at s (i + n)) (line_at t (i + n)) ≡ sooner (line_at s i) (line_at t i)
  past-run p q =
      ap (λ (l : List ℕ). sooner (first_line l) (line_at t (i + n))) (sym (drop-drop n i s))
      ∙ ap (λ (l : List ℕ). sooner (first_line (drop n (drop i s))) (first_line l)) (sym (drop-drop n i t))
      ∙ past n (drop i s) (drop i t) (sym p ∙ same.0 ∙ q) (ap (list_any feed) (sym p) ∙ same.1)
