-- The lines of a text: their form as a loop over the bytes finds it.
-- Assumes nothing.
use Rattle.std.specs.Prelude.{◌≡◌, ℕ, zero, suc, ◌+◌, ◌<◌, ◌≤◌, Bool, true, false, cond, ◌&&◌, eqb, leb, List, [], ◌∷◌, ◌++◌, length, get_or, drop}
use mathlib.Core.Path.{refl, sym, ap, ◌∙◌}
use mathlib.Core.Logic.{⊎_elim}
use mathlib.Core.Bool.{false≢true}
use mathlib.Core.List.{foldl, append_assoc, append-nil}
use native.Mathlib.Numerals.{add-one}
use native.Mathlib.Omega.{arith}
use native.Mathlib.Decide.{dec_lt}
use lib.ListN.{length-append, drop_of_length-le}
use lib.Seq.{drop-cons}
use borrow.Author.Tests.{eqb-true, ne_eqb, leb-true, le-leb, lt-leb, le-ltb, lt-ltb}
use Rattle.lists.specs.Words.{is_zero, every}
use Rattle.lists.proofs.Laws.{both, and_parts, and-join, and-out, every_append}
use Rattle.lists.proofs.Tests.{and-true}
use Rattle.names.specs.Names.{onto, lines_of, ended, printable, is_name, names_fit, names_in, line_ends}
use Rattle.names.specs.inner.Lines.{width_after}

-- printable bytes are no LF
pub not_end : (b : ℕ) → printable b ≡ true → eqb b 10 ≡ false
not_end b h = ne_eqb b 10 (λ e. let l = leb-true 33 b (and_parts (leb 33 b) (leb b 126) h).0 in omega arith)

pub every-parts : {A : Type 0} (f : A → Bool) (x : A) (xs : List A) → every f (x ∷ xs) ≡ true → (f x ≡ true) × (every f xs ≡ true)
every-parts f x xs h = ⊎_elim (λ e. (e, rw e at h)) (λ e. absurd (false≢true (rw e at h))) (both (f x))

-- a line and its end
lines_end : (xs s : List ℕ) → every printable xs ≡ true → lines_of (xs ++ 10 ∷ s) ≡ xs ∷ lines_of s
unfolding lines_of
lines_end [] s h = refl
lines_end (x ∷ xs) s h = let p = every-parts printable x xs h in rw (not_end x p.0) (ap (onto x) (lines_end xs s p.1))

ended-end : (s : List ℕ) → ended (10 ∷ s) ≡ ended s
unfolding ended
ended-end [] = refl
ended-end (b ∷ s) = refl

ended-more : (xs : List ℕ) (b : ℕ) (s : List ℕ) → ended (xs ++ b ∷ s) ≡ ended (b ∷ s)
unfolding ended
ended-more [] b s = refl
ended-more (x ∷ []) b s = refl
ended-more (x ∷ y ∷ xs) b s = ended-more (y ∷ xs) b s

ended-open : (x : ℕ) (xs : List ℕ) → every printable (x ∷ xs) ≡ true → ended (x ∷ xs) ≡ false
unfolding ended
ended-open x [] h = not_end x (every-parts printable x [] h).0
ended-open x (y ∷ xs) h = ended-open y xs (every-parts printable x (y ∷ xs) h).1

-- the first line goes on behind its beginning
first_more : (xs : List ℕ) (b : ℕ) (s : List ℕ) → every printable xs ≡ true → eqb b 10 ≡ false
    → (l : List ℕ) × (ls : List (List ℕ)) × (lines_of (xs ++ b ∷ s) ≡ (xs ++ b ∷ l) ∷ ls)
unfolding lines_of
first_more [] b s h e = rw e (both_ways (lines_of s))
  where
    both_ways : (ls : List (List ℕ)) → (l : List ℕ) × (rest : List (List ℕ)) × (onto b ls ≡ (b ∷ l) ∷ rest)
    both_ways [] = ([], [], refl)
    both_ways (l ∷ ls) = (l, ls, refl)
first_more (x ∷ xs) b s h e =
    let p = every-parts printable x xs h in
    let r = first_more xs b s p.1 e in
    (r.0, r.1, rw (not_end x p.0) (ap (onto x) r.2))

stuck : (w : ℕ) (s : List ℕ) → 64 < w → 64 < foldl width_after w s
stuck w [] h = h
stuck w (b ∷ s) h = rw (lt-ltb 64 w h) (stuck 65 s (omega arith))

pub not-zero : (n : ℕ) → 0 < n → is_zero n ≡ false
not-zero zero h = absurd (omega arith)
not-zero (suc n) h = refl

name_out : (l : List ℕ) → is_name l ≡ false → (ls : List (List ℕ)) → every is_name (l ∷ ls) ≡ false
name_out l e ls = rw e

long-out : (l : List ℕ) → 64 < length l → is_name l ≡ false
long-out l h = rw (lt-leb (length l) 64 h) (pick (leb 1 (length l)) (every printable l))
  where
    pick : (a b : Bool) → ((a && false) && b) ≡ false
    pick true b = refl
    pick false b = refl

byte-out : (xs : List ℕ) (b : ℕ) (l : List ℕ) → printable b ≡ false → is_name (xs ++ b ∷ l) ≡ false
byte-out xs b l e =
    and-out (leb 1 (length (xs ++ b ∷ l)) && leb (length (xs ++ b ∷ l)) 64) (every printable (xs ++ b ∷ l))
    (every_append printable xs (b ∷ l) ∙ and-out (every printable xs) (every printable (b ∷ l)) (rw e))

name-made : (l : List ℕ) → 1 ≤ length l → length l ≤ 64 → every printable l ≡ true → is_name l ≡ true
name-made l a b h = and-join (leb 1 (length l) && leb (length l) 64) (every printable l) (and-join (leb 1 (length l)) (leb (length l) 64) (le-leb 1 (length l) a) (le-leb (length l) 64 b)) h

-- the loop from a line at hand on
abbrev fine : List ℕ → Bool
fine s = ended s && every is_name (lines_of s)

abbrev ends : ℕ → List ℕ → Bool
ends w s = is_zero (foldl width_after w s)

fine-none : true ≡ fine []
unfolding ended lines_of
fine-none = refl

module _ (b : ℕ) (s : List ℕ) (again : (xs : List ℕ) → every printable xs ≡ true → length xs ≤ 64 → ends (length xs) s ≡ fine (xs ++ s)) where
  scan-end : (xs : List ℕ) → every printable xs ≡ true → length xs ≤ 64 → eqb b 10 ≡ true → ends (cond (is_zero (length xs)) 65 0) s ≡ fine (xs ++ b ∷ s)
  scan-end [] h k e =
      not-zero (foldl width_after 65 s) (omega (arith, stuck 65 s (omega arith)))
      ∙ sym (and-out (ended (b ∷ s)) (every is_name (lines_of (b ∷ s))) (rw (eqb-true b 10 e) (ap (every is_name) (lines_end [] s refl))))
  scan-end (x ∷ xs) h k e =
      again [] refl (omega arith)
      ∙ sym
      (rw (eqb-true b 10 e)
      (ap (λ (d : Bool). d && every is_name (lines_of ((x ∷ xs) ++ 10 ∷ s))) (ended-more (x ∷ xs) 10 s ∙ ended-end s)
      ∙ ap (λ (ls : List (List ℕ)). ended s && every is_name ls) (lines_end (x ∷ xs) s h)
      ∙ ap (λ (t : Bool). ended s && cond t (every is_name (lines_of s)) false) (name-made (x ∷ xs) (omega arith) k h)))

  module _ (xs : List ℕ) (h : every printable xs ≡ true) (k : length xs ≤ 64) (e : eqb b 10 ≡ false) where
    none-fine : (ls : List (List ℕ)) (l : List ℕ) → lines_of (xs ++ b ∷ s) ≡ l ∷ ls → is_name l ≡ false → fine (xs ++ b ∷ s) ≡ false
    none-fine ls l e n = and-out (ended (xs ++ b ∷ s)) (every is_name (lines_of (xs ++ b ∷ s))) (ap (every is_name) e ∙ name_out l n ls)

    scan-broken : printable b ≡ false → ends 65 s ≡ fine (xs ++ b ∷ s)
    scan-broken p =
        let r = first_more xs b s h e in
        not-zero (foldl width_after 65 s) (omega (arith, stuck 65 s (omega arith))) ∙ sym (none-fine r.1 (xs ++ b ∷ r.0) r.2 (byte-out xs b r.0 p))

    scan-byte : printable b ≡ true → Dec (length xs < 64) → ends (suc (length xs)) s ≡ fine (xs ++ b ∷ s)
    scan-byte p (yes l) =
        let n : length (xs ++ (b ∷ [])) ≡ suc (length xs) = omega (arith, length-append xs (b ∷ [])) in
        ap (λ (w : ℕ). ends w s) (sym n)
        ∙ again (xs ++ (b ∷ [])) (every_append printable xs (b ∷ []) ∙ and-join (every printable xs) (every printable (b ∷ [])) h (rw p)) (omega arith)
        ∙ ap fine (append_assoc xs (b ∷ []) s)
    scan-byte p (no l) =
        let r = first_more xs b s h e in
        not-zero (foldl width_after (suc (length xs)) s) (omega (arith, stuck (suc (length xs)) s (omega arith)))
        ∙ sym (none-fine r.1 (xs ++ b ∷ r.0) r.2 (long-out (xs ++ b ∷ r.0) (omega (arith, length-append xs (b ∷ r.0)))))

  scan-more : (xs : List ℕ) → every printable xs ≡ true → length xs ≤ 64 → ends (length xs) (b ∷ s) ≡ fine (xs ++ b ∷ s)
  scan-more xs h k =
      rw (le-ltb 64 (length xs) k)
      (⊎_elim (λ e. rw e (scan-end xs h k e))
      (λ e. rw e (⊎_elim (λ p. rw p (scan-byte xs h k e p (dec_lt (length xs) 64))) (λ p. rw p (scan-broken xs h k e p)) (both (printable b))))
      (both (eqb b 10)))

scan : (xs s : List ℕ) → every printable xs ≡ true → length xs ≤ 64 → ends (length xs) s ≡ fine (xs ++ s)
scan [] [] h k = fine-none
scan (x ∷ xs) [] h k = sym (ap fine (append-nil (x ∷ xs)) ∙ ap (λ (e : Bool). e && every is_name (lines_of (x ∷ xs))) (ended-open x xs h))
scan xs (b ∷ s) h k = scan-more b s (λ ys i j. scan ys s i j) xs h k

-- the lines that end
pub ends-in : (s : List ℕ) (i : ℕ) → i < length s → get_or s i 0 ≡ 10 → line_ends (drop i s) ≡ suc (line_ends (drop (i + 1) s))
unfolding line_ends
ends-in s i l e = rw (add-one, drop-cons s i 0 l, e)

pub ends-out : (s : List ℕ) (i : ℕ) → i < length s → (get_or s i 0 ≡ 10 → ⊥) → line_ends (drop i s) ≡ line_ends (drop (i + 1) s)
unfolding line_ends
ends-out s i l e = rw (add-one, drop-cons s i 0 l, ne_eqb (get_or s i 0) 10 e)

pub ends-none : (s : List ℕ) (i : ℕ) → length s ≤ i → line_ends (drop i s) ≡ 0
unfolding line_ends
ends-none s i l = rw (drop_of_length-le s l)

pub ruleset ends_counted = (ends-in, ends-out, ends-none)

pub some-lines : (b : ℕ) (s : List ℕ) → 0 < length (lines_of (b ∷ s))
unfolding lines_of
some-lines b s = ⊎_elim (λ e. rw e (omega arith)) (λ e. rw e (either (lines_of s))) (both (eqb b 10))
  where
    either : (ls : List (List ℕ)) → 0 < length (onto b ls)
    either [] = omega arith
    either (l ∷ ls) = omega arith

onto-length : (b : ℕ) (ls : List (List ℕ)) → 0 < length ls → length (onto b ls) ≡ length ls
onto-length b [] h = absurd (omega arith)
onto-length b (l ∷ ls) h = refl

-- where an LF stands behind each line, these are the lines that end
lines-count : (s : List ℕ) → ended s ≡ true → line_ends s ≡ length (lines_of s)
unfolding line_ends lines_of ended
lines-count [] h = refl
lines-count (b ∷ []) h = rw h
lines-count (b ∷ c ∷ s) h =
    ⊎_elim (λ e. rw e (ap suc (lines-count (c ∷ s) h)))
    (λ e. rw e (lines-count (c ∷ s) h ∙ sym (onto-length b (lines_of (c ∷ s)) (some-lines c s))))
    (both (eqb b 10))

-- the answers of the test

all-fine : (s : List ℕ) → ends 0 s ≡ fine s
all-fine s = scan [] s refl (omega arith)

pub in-none : (n : ℕ) (s : List ℕ) → length s ≡ 0 → true ≡ names_in n s
unfolding names_in
in-none n s e = rw e

-- the test without its first case
pub in-fit : (n : ℕ) (s : List ℕ) → (length s ≡ 0 → ⊥) → names_in n s ≡ names_fit n s
unfolding names_in
in-fit n s e = rw (not-zero (length s) (omega arith))

pub in-broken : (n : ℕ) (s : List ℕ) → (length s ≡ 0 → ⊥) → (foldl width_after 0 s ≡ 0 → ⊥) → false ≡ names_in n s
unfolding names_fit
in-broken n s e w =
    let f : fine s ≡ false = sym (all-fine s) ∙ not-zero (foldl width_after 0 s) (omega arith) in
    sym
    (in-fit n s e
    ∙ ⊎_elim
    (λ d. let o : every is_name (lines_of s) ≡ false = rw d at f in rw d (and-out (eqb (length (lines_of s)) n) (every is_name (lines_of s)) o))
    (λ d. rw d)
    (both (ended s)))

pub in-counted : (n : ℕ) (s : List ℕ) → (length s ≡ 0 → ⊥) → foldl width_after 0 s ≡ 0 → eqb (line_ends s) n ≡ names_in n s
unfolding names_fit
in-counted n s e w =
    let p = and_parts (ended s) (every is_name (lines_of s)) (sym (all-fine s) ∙ ap is_zero w) in
    sym
    (in-fit n s e
    ∙ rw (p.0, p.1) (and-true (eqb (length (lines_of s)) n) ∙ ap (λ (k : ℕ). eqb k n) (sym (lines-count s p.0))))

pub ruleset forms = (in-none, in-broken, in-counted)
