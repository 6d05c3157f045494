-- Writing a path.
-- Assumes nothing.
use Rattle.std.specs.Prelude.{◌≡◌, ℕ, suc, ◌+◌, ◌-◌, List, [], ◌∷◌, length, take, drop, set}
use mathlib.Core.Path.{sym, ap, ◌∙◌}
use native.Mathlib.Omega.{arith}
use lib.ListN.{length-append, length-drop}
use lib.Seq.{sets, take_all}
use Rattle.walk.specs.Walk.{snoc}
use Rattle.circle_search.specs.Circles.{from, path_to}

-- the rest of a list, as a part of it
pub rest-same : (l : List ℕ) (start : ℕ) → take (length l - start) (drop start l) ≡ drop start l
rest-same l start = take_all (length l - start) (drop start l) (omega (arith, length-drop start l))

sets-snoc : (xs slots : List ℕ) (at x : ℕ) → sets slots at (snoc xs x) ≡ set (sets slots at xs) (at + length xs) x
sets-snoc [] slots at x = let n : at + 0 ≡ at = omega arith in rw n
sets-snoc (y ∷ xs) slots at x =
    let n : at + suc (length xs) ≡ suc at + length xs = omega arith in
    rw n (sets-snoc xs (set slots at y) (suc at) x)

-- the begun modules from m on, and then m again
module _ (begun slots : List ℕ) (m start used : ℕ) (found : drop start begun ≡ from m begun) where
  pub open-length : length (from m begun) ≡ length begun - start
  open-length = ap length (sym found) ∙ length-drop start begun

  pub path-written : set (sets slots used (drop start begun)) (used + (length begun - start)) m ≡ sets slots used (path_to m begun)
  path-written =
      ap (λ (l : List ℕ). set (sets slots used l) (used + (length begun - start)) m) found
      ∙ ap (λ (n : ℕ). set (sets slots used (from m begun)) (used + n) m) (sym open-length)
      ∙ sym (sets-snoc (from m begun) slots used m)

  pub path-long : length begun - start + 1 ≡ length (path_to m begun)
  path-long = omega (arith, open-length, length-append (from m begun) (m ∷ []))
