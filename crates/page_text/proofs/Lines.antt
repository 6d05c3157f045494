-- Lines in turn, each of 41 bytes, and a line by its number.
-- Assumes nothing.
use Rattle.std.specs.Prelude.{◌≡◌, Bool, not, ℕ, zero, suc, ◌+◌, ◌-◌, ◌*◌, ◌<◌, ◌≤◌, eqb, List, [], ◌∷◌, ◌++◌, map, length, get_or, take}
use mathlib.Core.Path.{refl, sym, ap, ◌∙◌}
use mathlib.Core.List.{flat_map, append_assoc, append-nil, Memᴰ}
use native.Mathlib.Nat.{not-suc-le-zero}
use native.Mathlib.Numerals.{add-one}
use native.Mathlib.Omega.{arith}
use lib.ListN.{length-append, length-map, get_or-eq_default, get_or-append}
use lib.Seq.{take-suc, take_all, get_or-append-add}
use borrow.Author.Tests.{eq-eqb, ne_eqb}
use Rattle.lists.specs.Words.{is_zero}
use Rattle.lines.specs.declared.lines.Writer.{Writer}
use Rattle.lines.specs.Writing.{Put}
use Rattle.lines.proofs.Written.{put_as}
use Rattle.page_lines.specs.Line.{line_by}
use Rattle.page_lines.proofs.Texts.{line-length}
use Rattle.page_text.specs.inner.Sheets.{SheetRows, line_with, Sheet}

module _ (line : ℕ → List ℕ) where
  pub lines-append : (xs ys : List ℕ) → flat_map line (xs ++ ys) ≡ flat_map line xs ++ flat_map line ys
  unfolding flat_map
  lines-append [] ys = refl
  lines-append (x ∷ xs) ys = ap (λ (l : List ℕ). line x ++ l) (lines-append xs ys) ∙ sym (append_assoc (line x) (flat_map line xs) (flat_map line ys))

  pub lines_none : flat_map line [] ≡ []
  unfolding flat_map
  lines_none = refl

  lines-one : (x : ℕ) → flat_map line (x ∷ []) ≡ line x
  unfolding flat_map
  lines-one x = append-nil (line x)

  -- one line more
  pub lines_more : (xs : List ℕ) (k : ℕ) → k < length xs → flat_map line (take k xs) ++ line (get_or xs k 0) ≡ flat_map line (take (k + 1) xs)
  lines_more xs k l =
      sym (ap (λ (j : ℕ). flat_map line (take j xs)) (add-one k)
      ∙ ap (flat_map line) (take-suc xs k 0 l)
      ∙ lines-append (take k xs) (get_or xs k 0 ∷ [])
      ∙ ap (λ (l : List ℕ). flat_map line (take k xs) ++ l) (lines-one (get_or xs k 0)))

  pub lines-all : (xs : List ℕ) (k : ℕ) → length xs ≤ k → flat_map line (take k xs) ≡ flat_map line xs
  lines-all xs k h = ap (flat_map line) (take_all k xs h)

  -- lines of 41 bytes
  pub lines-length : (xs : List ℕ) → ((x : ℕ) → Memᴰ x xs → length (line x) ≡ 41) → length (flat_map line xs) ≡ 41 * length xs
  unfolding flat_map
  lines-length [] h = refl
  lines-length (x ∷ xs) h =
      omega (arith, length-append (line x) (flat_map line xs), h x (Memᴰ.head refl), lines-length xs (λ y t. h y (Memᴰ.tail t)))

  -- the line of a number
  pub line-in : (xs : List ℕ) (k : ℕ) → k < length xs → get_or (map line xs) k [] ≡ line (get_or xs k 0)
  line-in [] k l = absurd (not-suc-le-zero l)
  line-in (x ∷ xs) zero l = refl
  line-in (x ∷ xs) (suc k) l = line-in xs k (omega arith)

  pub line-past : (xs : List ℕ) (k : ℕ) → length xs ≤ k → get_or (map line xs) k [] ≡ []
  line-past xs k l = get_or-eq_default (map line xs) [] (omega (arith, length-map xs line))

-- a test against 0
pub zero_test : (x : ℕ) → eqb x 0 ≡ is_zero x
zero_test zero = eq-eqb 0 0 refl
zero_test (suc x) = ne_eqb (suc x) 0 (λ e. omega arith)

-- a module is planned if its mark is not 0
pub row-put : (r : SheetRows) (m : ℕ) {w w' : Writer}
    → Put (line_by m (get_or r.expected_places m 0) (get_or r.actual_places m 0) (not (eqb (get_or r.plan m 0) 0))) w w' → Put (line_with r m) w w'
unfolding line_with
row-put r m p = put_as (ap (λ (b : Bool). line_by m (get_or r.expected_places m 0) (get_or r.actual_places m 0) (not b)) (zero_test (get_or r.plan m 0))) p

module _ (r : SheetRows) (s : Sheet r.expected_places r.actual_places r.plan) where
  -- a line by the written places has 41 bytes
  pub row-length : (m : ℕ) → m < length r.plan → length (line_with r m) ≡ 41
  unfolding line_with
  row-length m l = line-length m _ _ _ (omega (arith, s.few)) (s.expected_few m) (s.actual_few m)

-- the line of a number, among the first, the rest, and past both
module _ (line : ℕ → List ℕ) (xs ys : List ℕ) (k : ℕ) where
  pub numbered-first : k < length xs → get_or (map line (xs ++ ys)) k [] ≡ line (get_or xs k 0)
  numbered-first l = line-in line (xs ++ ys) k (omega (arith, length-append xs ys)) ∙ ap line (get_or-append xs ys 0 k l)

  pub numbered-rest : length xs ≤ k → k - length xs < length ys → get_or (map line (xs ++ ys)) k [] ≡ line (get_or ys (k - length xs) 0)
  numbered-rest h l =
      let e : k ≡ length xs + (k - length xs) = omega arith in
      line-in line (xs ++ ys) k (omega (arith, length-append xs ys)) ∙ ap line (ap (λ (i : ℕ). get_or (xs ++ ys) i 0) e ∙ get_or-append-add xs ys (k - length xs) 0)

  pub numbered-past : length xs ≤ k → length ys ≤ k - length xs → get_or (map line (xs ++ ys)) k [] ≡ []
  numbered-past h l = line-past line (xs ++ ys) k (omega (arith, length-append xs ys))
