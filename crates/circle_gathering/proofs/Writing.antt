-- What is left of the circles in the slices.
-- Assumes nothing.
use Rattle.std.specs.Prelude.{◌≡◌, ℕ, suc, ◌+◌, ◌<◌, ◌≤◌, Bool, cond, ◌&&◌, leb, List, [], ◌∷◌, ◌++◌, length, drop, set, None, Some, Ok, Err}
use mathlib.Core.Path.{refl, sym, ap, ◌∙◌}
use mathlib.Core.List.{foldl}
use native.Mathlib.Nat.{add-zero, zero-add}
use native.Mathlib.Numerals.{add-one}
use native.Mathlib.Omega.{arith}
use lib.ListN.{length-append, length-map}
use lib.Seq.{sets}
use borrow.Author.Tests.{le-leb, lt-leb}
use Rattle.lists.proofs.Laws.{and-join, and-out}
use Rattle.lists.proofs.Fronts.{sets-front}
use Rattle.tables.specs.declared.Refusal.TheVariants.{ShortForCircles}
use Rattle.tables.proofs.Answering.{answer-refused, answer-accepted, after-refused, after-accepted}
use Rattle.circle_visit.specs.Visit.{Listed, listed, write}
use Rattle.circle_gathering.specs.Gathering.{joined, lengths_of, room_refusal, Gathered}

sets-append : (l : List ℕ) (i : ℕ) (xs ys : List ℕ) → sets l i (xs ++ ys) ≡ sets (sets l i xs) (i + length xs) ys
sets-append l i [] ys = ap (λ (k : ℕ). sets l k ys) (sym (add-zero i))
sets-append l i (x ∷ xs) ys =
    let n : suc i + length xs ≡ i + suc (length xs) = omega arith in
    sets-append (set l i x) (suc i) xs ys ∙ ap (λ (k : ℕ). sets (sets (set l i x) (suc i) xs) k ys) n

-- all paths are written in turn
writes : (circles : List (List ℕ)) (paths lengths : List ℕ) (count used : ℕ)
    → foldl write (listed paths lengths count used) circles ≡ listed (sets paths used (joined circles)) (sets lengths count (lengths_of circles)) (count + length circles) (used + length (joined circles))
writes [] paths lengths count used =
    let c : count ≡ count + 0 = omega arith in
    let u : used ≡ used + 0 = omega arith in
    ap (λ (k : ℕ). listed paths lengths k used) c ∙ ap (λ (k : ℕ). listed paths lengths (count + 0) k) u
writes (p ∷ ps) paths lengths count used =
    let c : count + 1 + length ps ≡ count + suc (length ps) = omega arith in
    let u : used + length p + length (joined ps) ≡ used + length (p ++ joined ps) = omega (arith, length-append p (joined ps)) in
    writes ps (sets paths used p) (set lengths count (length p)) (count + 1) (used + length p)
    ∙ ap (λ (l : List ℕ). listed l (sets (set lengths count (length p)) (count + 1) (lengths_of ps)) (count + 1 + length ps) (used + length p + length (joined ps))) (sym (sets-append paths used p (joined ps)))
    ∙ ap (λ (k : ℕ). listed (sets paths used (p ++ joined ps)) (sets (set lengths count (length p)) k (lengths_of ps)) (count + 1 + length ps) (used + length p + length (joined ps))) (add-one count)
    ∙ ap (λ (k : ℕ). listed (sets paths used (p ++ joined ps)) (sets lengths count (lengths_of (p ∷ ps))) k (used + length p + length (joined ps))) c
    ∙ ap (λ (k : ℕ). listed (sets paths used (p ++ joined ps)) (sets lengths count (lengths_of (p ∷ ps))) (count + suc (length ps)) k) u

module _ (circles : List (List ℕ)) (paths lengths : List ℕ) {paths' lengths' : List ℕ} {count used : ℕ} (e : listed paths' lengths' count used ≡ foldl write (listed paths lengths 0 0) circles) where
  whole : listed paths' lengths' count used ≡ listed (sets paths 0 (joined circles)) (sets lengths 0 (lengths_of circles)) (0 + length circles) (0 + length (joined circles))
  whole = e ∙ writes circles paths lengths 0 0

  pub counted-all : count ≡ length circles
  counted-all = ap (λ (a : Listed). a.count) whole ∙ zero-add (length circles)

  pub used-all : used ≡ length (joined circles)
  used-all = ap (λ (a : Listed). a.used) whole ∙ zero-add (length (joined circles))

  pub paths-all : length (joined circles) ≤ length paths → paths' ≡ joined circles ++ drop (length (joined circles)) paths
  paths-all h = ap (λ (a : Listed). a.paths) whole ∙ sets-front paths (joined circles) h

  pub lengths-all : length circles ≤ length lengths → lengths' ≡ lengths_of circles ++ drop (length (lengths_of circles)) lengths
  lengths-all h = ap (λ (a : Listed). a.lengths) whole ∙ sets-front lengths (lengths_of circles) (omega (arith, length-map circles length))

-- the three answers
module _ (circles : List (List ℕ)) (paths lengths : List ℕ) where
  short : room_refusal circles (length paths) (length lengths) ≡ Some ShortForCircles → Gathered circles paths lengths (Err ShortForCircles) paths lengths
  short e = record { answered = answer-refused (length circles) e; listed = after-refused paths (joined circles) e; measured = after-refused lengths (lengths_of circles) e }

  pub paths-short : length paths < length (joined circles) → Gathered circles paths lengths (Err ShortForCircles) paths lengths
  paths-short h = short (ap (λ (b : Bool). cond (b && leb (length circles) (length lengths)) None (Some ShortForCircles)) (lt-leb (length (joined circles)) (length paths) h))

  pub lengths-short : length lengths < length circles → Gathered circles paths lengths (Err ShortForCircles) paths lengths
  lengths-short h =
      short
      (ap (λ (b : Bool). cond b None (Some ShortForCircles)) (and-out (leb (length (joined circles)) (length paths)) (leb (length circles) (length lengths)) (lt-leb (length circles) (length lengths) h)))

  room : length (joined circles) ≤ length paths → length circles ≤ length lengths → room_refusal circles (length paths) (length lengths) ≡ None
  room a b =
      ap (λ (x : Bool). cond x None (Some ShortForCircles))
      (and-join (leb (length (joined circles)) (length paths)) (leb (length circles) (length lengths)) (le-leb (length (joined circles)) (length paths) a) (le-leb (length circles) (length lengths) b))

  pub both-fit : {paths' lengths' : List ℕ} {count used r : ℕ} → length (joined circles) ≤ length paths → length circles ≤ length lengths → r ≡ length circles
      → listed paths' lengths' count used ≡ foldl write (listed paths lengths 0 0) circles → Gathered circles paths lengths (Ok r) paths' lengths'
  both-fit a b c e =
      let z = room a b in
      record {
        answered = answer-accepted z c;
        listed = after-accepted paths (joined circles) z (paths-all circles paths lengths e a);
        measured = after-accepted lengths (lengths_of circles) z (lengths-all circles paths lengths e b);
      }

-- there is none
pub none-there : (circles : List (List ℕ)) (paths lengths : List ℕ) → length circles ≡ 0 → Gathered circles paths lengths (Ok 0) paths lengths
none-there [] paths lengths z = both-fit [] paths lengths {count = 0} {used = 0} (omega arith) (omega arith) refl refl
none-there (x ∷ l) paths lengths z = absurd (omega arith)
