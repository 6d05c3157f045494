-- A loop that joins the tests of each row with the row above computes the test of a column's order.
-- Assumes nothing.
use Rattle.std.specs.Prelude.{◌≡◌, ℕ, ◌<◌, ◌≤◌, Bool, true, false, ◌&&◌, leb, List, [], ◌∷◌, length, get_or, take, drop}
use mathlib.Core.Path.{refl, sym, ◌∙◌}
use native.Mathlib.Omega.{arith}
use Rattle.lists.proofs.Tests.{and-true}
use Rattle.tables.specs.Refusal.{rises}

and_assoc : (a b c : Bool) → ((a && b) && c) ≡ (a && (b && c))
and_assoc true b c = refl
and_assoc false b c = refl

rises-few : (xs : List ℕ) → length xs < 2 → rises xs ≡ true
unfolding rises
rises-few [] h = refl
rises-few (x ∷ []) h = refl
rises-few (x ∷ y ∷ ys) h = absurd (omega arith)

-- one more pair is compared
pub rise-joined : (xs ys pair : List ℕ) (all ok : Bool) → (ok && rises xs) ≡ all → 2 ≤ length xs → pair ≡ take 2 xs → ys ≡ drop 1 xs → ((ok && leb (get_or pair 0 0) (get_or pair 1 0)) && rises ys) ≡ all
unfolding rises
rise-joined [] ys pair all ok h l e f = absurd (omega arith)
rise-joined (x ∷ []) ys pair all ok h l e f = absurd (omega arith)
rise-joined (x ∷ y ∷ xs) ys pair all ok h l e f = rw (e, f) (and_assoc ok (leb x y) (rises (y ∷ xs)) ∙ h)

-- at most one row is left
pub rises-joined : (xs : List ℕ) (all ok : Bool) → (ok && rises xs) ≡ all → length xs < 2 → ok ≡ all
rises-joined xs all ok h l = sym (and-true ok) ∙ (rw (rises-few xs l) at h)

pub ruleset risen = (rise-joined, rises-joined)
