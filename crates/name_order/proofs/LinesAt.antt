-- Lines by where they start.
-- Assumes nothing.
use Rattle.std.specs.Prelude.{◌≡◌, ℕ, zero, suc, ◌+◌, ◌-◌, ◌<◌, ◌≤◌, true, false, not, ◌&&◌, eqb, ltb, List, [], ◌∷◌, length, get_or, take, drop, set}
use mathlib.Core.Path.{refl, sym, ap, ◌∙◌}
use mathlib.Core.Logic.{⊎_elim}
use native.Mathlib.Nat.{add-zero, add_assoc}
use native.Mathlib.Numerals.{add-one}
use native.Mathlib.Omega.{arith}
use native.Mathlib.Decide.{ℕ_discrete, dec_lt}
use lib.ListN.{length-drop, drop_of_length-le, get_or-eq_default}
use lib.Seq.{take_all, drop-cons, drop-drop, get_or-drop, get_or-set_same, get_or-set_other}
use borrow.Author.Tests.{eqb-true, eqb-false, eq-eqb, ne_eqb}
use Rattle.std.specs.List.{take_while}
use Rattle.std.proofs.lemmas.List.Sums.{take_while-cons}
use Rattle.lists.specs.Words.{every}
use Rattle.lists.proofs.Laws.{both, and_parts}
use Rattle.lists.proofs.Tests.{or-false}
use Rattle.names.specs.Names.{onto, lines_of, ended, is_name, names_fit, start_byte, turned}
use Rattle.names.proofs.Lines.{some-lines}
use Rattle.form.specs.Form.{bytes}
use Rattle.name_order.specs.Sooner.{sooner, begins}
use Rattle.name_order.specs.Runtime.{is_runtime}
use Rattle.name_order.specs.inner.Lines.{first_line, line_at}

-- the line at a place, byte by byte

pub line-stop : (s : List ℕ) (i : ℕ) → get_or s i 10 ≡ 10 → line_at s i ≡ []
unfolding first_line
line-stop s i e = go (dec_lt i (length s))
  where
    go : Dec (i < length s) → line_at s i ≡ []
    go (yes l) = rw (drop-cons s i 10 l, e)
    go (no l) = rw (drop_of_length-le s {i = i} (omega arith))

pub line-inside : (s : List ℕ) (i : ℕ) → (get_or s i 10 ≡ 10 → ⊥) → i < length s
line-inside s i n = go (dec_lt i (length s))
  where
    go : Dec (i < length s) → i < length s
    go (yes l) = l
    go (no l) = absurd (n (get_or-eq_default s 10 {n = i} (omega arith)))

pub line-more : (s : List ℕ) (i : ℕ) → (get_or s i 10 ≡ 10 → ⊥) → line_at s i ≡ get_or s i 10 ∷ line_at s (i + 1)
unfolding first_line
line-more s i n = rw (add-one, drop-cons s i 10 (line-inside s i n), ne_eqb (get_or s i 10) 10 n)

pub line-past : (s : List ℕ) (i : ℕ) → length s ≤ i → line_at s i ≡ []
unfolding first_line
line-past s i l = rw (drop_of_length-le s l)

-- the line is what stands before the first LF
before_feed : (s : List ℕ) → first_line s ≡ take_while (λ (b : ℕ). not (eqb b 10)) s
unfolding first_line
before_feed [] = refl
before_feed (b ∷ s) =
    sym
    (take_while-cons (λ (c : ℕ). not (eqb c 10)) b s
    ∙ ⊎_elim (λ q. rw q refl) (λ q. rw q (ap (λ (l : List ℕ). b ∷ l) (sym (before_feed s)))) (both (eqb b 10)))

pub line-length : (s : List ℕ) (at n : ℕ) → length s - at ≤ n → length (take_while (λ (b : ℕ). not (eqb b 10)) (take n (drop at s))) ≡ length (line_at s at)
line-length s at n h = ap length (sym (before_feed (take n (drop at s)))) ∙ ap (λ (l : List ℕ). length (first_line l)) (take_all n (drop at s) (omega (arith, length-drop at s)))

-- the lines one by one

-- a byte more before the first line
first_on : (b : ℕ) (s : List ℕ) → (lines_of s ≡ first_line s ∷ lines_of (drop (length (first_line s) + 1) s)) × (length (first_line s) < length s)
    → (onto b (lines_of s) ≡ (b ∷ first_line s) ∷ lines_of (drop (suc (length (first_line s)) + 1) (b ∷ s))) × (suc (length (first_line s)) < suc (length s))
first_on b s r =
    let n : suc (length (first_line s) + 1) ≡ suc (length (first_line s)) + 1 = omega arith in
    (ap (onto b) r.0 ∙ ap (λ (k : ℕ). (b ∷ first_line s) ∷ lines_of (drop k (b ∷ s))) n, omega (arith, r.1))

pub first-line : (s : List ℕ) → ended s ≡ true → 0 < length (lines_of s)
    → (lines_of s ≡ first_line s ∷ lines_of (drop (length (first_line s) + 1) s)) × (length (first_line s) < length s)
unfolding lines_of ended first_line
first-line [] e h = absurd (omega arith)
first-line (b ∷ []) e h = rw e (refl, omega arith)
first-line (b ∷ c ∷ s) e h = ⊎_elim (λ q. rw q (refl, omega arith)) (λ q. rw q (first_on b (c ∷ s) (first-line (c ∷ s) e (some-lines c s)))) (both (eqb b 10))

pub ended-drop : (k : ℕ) (s : List ℕ) → ended s ≡ true → ended (drop k s) ≡ true
unfolding ended
ended-drop zero s e = e
ended-drop (suc k) [] e = e
ended-drop (suc k) (b ∷ []) e = ended-drop k [] refl
ended-drop (suc k) (b ∷ c ∷ s) e = ended-drop k (c ∷ s) e

-- the starts of the first m names are found, and the next name starts at `at`
pub record Finding (s starts : List ℕ) (m at : ℕ) : Type 0 where
  pub rest : lines_of (drop at s) ≡ drop m (lines_of s)
  pub done : (j : ℕ) → j < m → line_at s (get_or starts j 0) ≡ get_or (lines_of s) j []

module _ (s : List ℕ) (n : ℕ) (fit : names_fit n s ≡ true) where
  fit-ended : ended s ≡ true
  unfolding names_fit
  fit-ended = (and_parts (ended s) (eqb (length (lines_of s)) n && every is_name (lines_of s)) fit).0

  pub fit_count : length (lines_of s) ≡ n
  unfolding names_fit
  fit_count = eqb-true (length (lines_of s)) n (and_parts (eqb (length (lines_of s)) n) (every is_name (lines_of s)) (and_parts (ended s) (eqb (length (lines_of s)) n && every is_name (lines_of s)) fit).1).0

  module _ (starts : List ℕ) (m at : ℕ) (k : Finding s starts m at) (l : m < n) where
    some : 0 < length (lines_of (drop at s))
    some = omega (arith, ap length k.rest, length-drop m (lines_of s), fit_count)

    next : (lines_of (drop at s) ≡ line_at s at ∷ lines_of (drop (length (line_at s at) + 1) (drop at s))) × (length (line_at s at) < length (drop at s))
    next = first-line (drop at s) (ended-drop at s fit-ended) some

    -- the line ends within the text
    pub finding-within : at + length (line_at s at) < length s
    finding-within = omega (arith, next.1, length-drop at s)

    -- this line is the m-th
    this : line_at s at ≡ get_or (lines_of s) m []
    this =
        ap (λ (ls : List (List ℕ)). get_or ls 0 []) (sym next.0 ∙ k.rest)
        ∙ get_or-drop m (lines_of s) 0 []
        ∙ ap (λ (i : ℕ). get_or (lines_of s) i []) (add-zero m)

    pub finding-next : length starts ≡ n → Finding s (set starts m at) (m + 1) (at + length (line_at s at) + 1)
    finding-next e = record {
      rest =
          ap (λ (i : ℕ). lines_of (drop i s)) (add_assoc at (length (line_at s at)) 1)
          ∙ ap lines_of (sym (drop-drop (length (line_at s at) + 1) at s))
          ∙ ap (drop 1) (sym next.0 ∙ k.rest)
          ∙ drop-drop 1 m (lines_of s);
      done = λ j h. found j h (ℕ_discrete j m);
    }
      where
        found : (j : ℕ) → j < m + 1 → Dec (j ≡ m) → line_at s (get_or (set starts m at) j 0) ≡ get_or (lines_of s) j []
        found j h (yes q) = rw q (ap (line_at s) (get_or-set_same starts m at 0 (omega arith)) ∙ this)
        found j h (no q) = ap (line_at s) (get_or-set_other starts m j at 0 q) ∙ k.done j (omega arith)

-- lines compared byte by byte

module _ (s t : List ℕ) (i : ℕ) where
  abbrev x : ℕ
  x = get_or s i 10

  abbrev y : ℕ
  y = get_or t i 10

  pub sooner-stop : y ≡ 10 → false ≡ sooner (line_at s i) (line_at t i)
  unfolding sooner
  sooner-stop e = rw (line-stop t i e)

  pub sooner-short : (y ≡ 10 → ⊥) → x ≡ 10 → true ≡ sooner (line_at s i) (line_at t i)
  unfolding sooner
  sooner-short n e = rw (line-stop s i e, line-more t i n)

  module _ (n : x ≡ 10 → ⊥) (m : y ≡ 10 → ⊥) where
    pub sooner-less : (x ≡ y → ⊥) → ltb x y ≡ sooner (line_at s i) (line_at t i)
    unfolding sooner
    sooner-less e = rw (line-more s i n, line-more t i m, ne_eqb x y e)

    pub sooner-more : x ≡ y → sooner (line_at s (i + 1)) (line_at t (i + 1)) ≡ sooner (line_at s i) (line_at t i)
    unfolding sooner
    sooner-more e = rw (line-more s i n, line-more t i m, eq-eqb x y e)

  pub sooner-past : length s ≤ i → not (eqb y 10) ≡ sooner (line_at s i) (line_at t i)
  unfolding sooner
  sooner-past l = rw (line-past s i l) (⊎_elim (λ e. ap not e ∙ sym (ap (sooner []) (line-stop t i (eqb-true y 10 e)))) (λ e. ap not e ∙ sym (ap (sooner []) (line-more t i (eqb-false y 10 e)))) (both (eqb y 10)))

-- a line and a word, byte by byte

module _ (s word : List ℕ) (i k : ℕ) where
  begun : k < length word → drop k word ≡ get_or word k 0 ∷ drop (k + 1) word
  begun l = rw (add-one, drop-cons word k 0 l)

  pub begins-stop : k < length word → get_or s i 10 ≡ 10 → false ≡ begins (drop k word) (line_at s i)
  unfolding begins
  begins-stop l e = rw (line-stop s i e, begun l)

  module _ (l : k < length word) (n : get_or s i 10 ≡ 10 → ⊥) where
    pub begins-differ : (get_or s i 10 ≡ get_or word k 0 → ⊥) → false ≡ begins (drop k word) (line_at s i)
    unfolding begins
    begins-differ e = rw (line-more s i n, begun l, ne_eqb (get_or word k 0) (get_or s i 10) (λ q. e (sym q)))

    pub begins-more : get_or s i 10 ≡ get_or word k 0 → begins (drop (k + 1) word) (line_at s (i + 1)) ≡ begins (drop k word) (line_at s i)
    unfolding begins
    begins-more e = rw (line-more s i n, begun l, eq-eqb (get_or word k 0) (get_or s i 10) (sym e))

  pub begins-all : length word ≤ k → true ≡ begins (drop k word) (line_at s i)
  unfolding begins
  begins-all l = rw (drop_of_length-le word l)

-- names: the first byte turned, the others as they are

sooner_self : (xs : List ℕ) → sooner xs xs ≡ false
unfolding sooner
sooner_self [] = refl
sooner_self (x ∷ xs) = rw (eq-eqb x x refl) (sooner_self xs)

module _ (s : List ℕ) (i j : ℕ) where
  pub name-same : i ≡ j → false ≡ sooner (turned (line_at s i)) (turned (line_at s j))
  name-same e = rw e (sym (sooner_self (turned (line_at s j))))

  pub name-stop : get_or s j 10 ≡ 10 → false ≡ sooner (turned (line_at s i)) (turned (line_at s j))
  unfolding sooner
  name-stop e = rw (line-stop s j e)

  pub name-short : (get_or s j 10 ≡ 10 → ⊥) → get_or s i 10 ≡ 10 → true ≡ sooner (turned (line_at s i)) (turned (line_at s j))
  unfolding sooner
  name-short n e = rw (line-stop s i e, line-more s j n)

  module _ (n : get_or s i 10 ≡ 10 → ⊥) (m : get_or s j 10 ≡ 10 → ⊥) where
    pub name-less : (start_byte (get_or s i 10) ≡ start_byte (get_or s j 10) → ⊥) → ltb (start_byte (get_or s i 10)) (start_byte (get_or s j 10)) ≡ sooner (turned (line_at s i)) (turned (line_at s j))
    unfolding sooner
    name-less e = rw (line-more s i n, line-more s j m, ne_eqb (start_byte (get_or s i 10)) (start_byte (get_or s j 10)) e)

    pub name-more : start_byte (get_or s i 10) ≡ start_byte (get_or s j 10) → sooner (line_at s (i + 1)) (line_at s (j + 1)) ≡ sooner (turned (line_at s i)) (turned (line_at s j))
    unfolding sooner
    name-more e = rw (line-more s i n, line-more s j m, eq-eqb (start_byte (get_or s i 10)) (start_byte (get_or s j 10)) e)

-- the names of rolldown's own modules

same_byte : (x : ℕ) → (start_byte x ≡ 0 → ⊥) → start_byte x ≡ x
same_byte x n = ⊎_elim (λ e. absurd (n (rw e))) (λ e. rw e) (both (eqb x 126))

module _ (s : List ℕ) (i : ℕ) where
  pub runtime-stop : get_or s i 10 ≡ 10 → false ≡ is_runtime (turned (line_at s i))
  unfolding begins
  runtime-stop e = rw (line-stop s i e)

  module _ (n : get_or s i 10 ≡ 10 → ⊥) where
    pub runtime-folder : start_byte (get_or s i 10) ≡ 0 → begins (bytes "rolldown/") (line_at s (i + 1)) ≡ is_runtime (turned (line_at s i))
    unfolding begins
    runtime-folder e = rw (line-more s i n, e)

    pub runtime-prefix : (start_byte (get_or s i 10) ≡ 0 → ⊥) → begins (bytes "rolldown:") (line_at s i) ≡ is_runtime (turned (line_at s i))
    unfolding begins
    runtime-prefix e = rw (line-more s i n, same_byte (get_or s i 10) e, ne_eqb 0 (get_or s i 10) (λ q. e (same_byte (get_or s i 10) e ∙ sym q))) (sym (or-false (begins (bytes "rolldown:") (get_or s i 10 ∷ line_at s (i + 1)))))
