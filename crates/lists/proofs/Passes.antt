-- A pass that writes a mark a place.
-- Assumes nothing.
use Rattle.std.specs.Prelude.{◌≡◌, ℕ, zero, suc, ◌+◌, ◌<◌, ◌≤◌, Bool, List, [], ◌∷◌, ◌++◌, length, drop, set}
use mathlib.Core.Path.{refl, sym, ap, ◌∙◌}
use mathlib.Core.List.{append-nil}
use native.Mathlib.Nat.{add-zero, add-suc, suc-add, zero-add, le_antisymm}
use native.Mathlib.Numerals.{add-one}
use native.Mathlib.Omega.{arith}
use lib.ListN.{length-append, length-drop}
use lib.Seq.{drop-length}
use Rattle.lists.specs.Words.{bit, marks_from, marks_of}
use Rattle.lists.proofs.Laws.{length-marks_of, front-more}

marks_from-more : (f : ℕ → Bool) (i n : ℕ) → marks_from f i (suc n) ≡ marks_from f i n ++ (bit (f (i + n)) ∷ [])
marks_from-more f i zero = rw add-zero
marks_from-more f i (suc n) = ap (λ (l : List ℕ). bit (f i) ∷ l) (marks_from-more f (suc i) n ∙ ap (λ (k : ℕ). marks_from f (suc i) n ++ (bit (f k) ∷ [])) (suc-add i n ∙ sym (add-suc i n)))

marks_of-more : (f : ℕ → Bool) (n : ℕ) → marks_of f (n + 1) ≡ marks_of f n ++ (bit (f n) ∷ [])
marks_of-more f n = ap (marks_of f) (add-one n) ∙ marks_from-more f zero n ∙ ap (λ (k : ℕ). marks_of f n ++ (bit (f k) ∷ [])) (zero-add n)

-- the first m marks are written, and the others are as they were
pub record Passed (f : ℕ → Bool) (old : List ℕ) (m : ℕ) (marks : List ℕ) : Type 0 where
  pub within : m ≤ length old
  pub made : marks ≡ marks_of f m ++ drop m old

module _ (f : ℕ → Bool) (old : List ℕ) where
  pub passed_start : Passed f old 0 old
  passed_start = record { within = omega arith; made = refl }

  module _ (m : ℕ) (marks : List ℕ) (p : Passed f old m marks) where
    pub passed_length : length marks ≡ length old
    passed_length =
        let l : length (marks_of f m ++ drop m old) ≡ length old = simp (length-append, length-drop, length-marks_of) (omega (arith, p.within)) in
        ap length p.made ∙ l

    pub passed-more : (x : ℕ) → x ≡ bit (f m) → m < length marks → Passed f old (m + 1) (set marks m x)
    passed-more x e h =
        let l : m < length old = omega (arith, passed_length) in
        record {
          within = omega arith;
          made =
              ap (λ (s : List ℕ). set s m x) p.made
              ∙ front-more (marks_of f m) old m x (length-marks_of f m) l
              ∙ ap (λ (y : ℕ). marks_of f m ++ (y ∷ []) ++ drop (m + 1) old) e
              ∙ ap (λ (s : List ℕ). s ++ drop (m + 1) old) (sym (marks_of-more f m));
        }

    pub passed-end : length marks ≤ m → marks ≡ marks_of f (length old)
    passed-end h =
        let e : m ≡ length old = le_antisymm p.within (omega (arith, passed_length)) in
        p.made ∙ ap (λ (k : ℕ). marks_of f k ++ drop k old) e ∙ ap (λ (s : List ℕ). marks_of f (length old) ++ s) (drop-length old) ∙ append-nil (marks_of f (length old))
