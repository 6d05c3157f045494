-- The laws of the words on lists.
-- Assumes nothing.
use Rattle.std.specs.Prelude.{◌≡◌, ℕ, zero, suc, ◌+◌, ◌-◌, ◌<◌, ◌≤◌, Bool, true, false, cond, not, ◌&&◌, ◌||◌, eqb, ◌⊎◌, List, [], ◌∷◌, ◌++◌, map, length, get_or, take, drop, set}
use mathlib.Core.Path.{refl, sym, ap, subst, fun_ext, ◌∙◌}
use mathlib.Core.Logic.{inl, inr, ⊎_elim}
use mathlib.Core.Bool.{true≢false, false≢true}
use mathlib.Core.List.Memᴰ
use mathlib.Core.List.{Memᴰ}
use native.Mathlib.Nat.{not-suc-le-zero, eq-or-lt_of_le, zero-add, add-zero, add-suc, suc-add}
use native.Mathlib.Numerals.{add-one}
use native.Mathlib.Omega.{arith}
use native.Mathlib.Decide.{dec_lt}
use lib.ListN.{length-map, get_or-eq_default}
use lib.Seq.{ext_get_or, drop-cons, set_at, append_snoc, take-suc}
use borrow.Author.Tests.{eq-eqb, eqb-true}
use Rattle.lists.specs.Words.{is_zero, count_from, up_to, keep, any, every, elem, has, zeros, ones, bit, marks_from, marks_of, Distinct}

-- tests

pub both : (b : Bool) → (b ≡ true) ⊎ (b ≡ false)
both true = inl refl
both false = inr refl

pub not-true : (b : Bool) → not b ≡ true → b ≡ false
not-true true e = absurd (false≢true e)
not-true false e = refl

pub not-false : (b : Bool) → not b ≡ false → b ≡ true
not-false true e = refl
not-false false e = absurd (true≢false e)

pub and_parts : (a b : Bool) → (a && b) ≡ true → (a ≡ true) × (b ≡ true)
and_parts true b e = (refl, e)
and_parts false b e = absurd (false≢true e)

pub and-join : (a b : Bool) → a ≡ true → b ≡ true → (a && b) ≡ true
and-join true b e f = f
and-join false b e f = e

pub and-out : (a b : Bool) → b ≡ false → (a && b) ≡ false
and-out true b e = e
and-out false b e = refl

pub or_parts : (a b : Bool) → (a || b) ≡ true → (a ≡ true) ⊎ (b ≡ true)
or_parts true b e = inl refl
or_parts false b e = inr e

pub or_left : (a b : Bool) → a ≡ true → (a || b) ≡ true
or_left true b e = refl
or_left false b e = absurd (false≢true e)

pub or_right : (a b : Bool) → b ≡ true → (a || b) ≡ true
or_right true b e = refl
or_right false b e = e

-- two tests that imply each other are equal
pub iff-eq : (a b : Bool) → (a ≡ true → b ≡ true) → (b ≡ true → a ≡ true) → a ≡ b
iff-eq true b f g = sym (f refl)
iff-eq false true f g = g refl
iff-eq false false f g = refl

-- counting

pub length-count_from : (i n : ℕ) → length (count_from i n) ≡ n
length-count_from i zero = refl
length-count_from i (suc n) = ap suc (length-count_from (suc i) n)

pub count_from-append : (i a b : ℕ) → count_from i (a + b) ≡ count_from i a ++ count_from (i + a) b
count_from-append i zero b = ap (λ (j : ℕ). count_from i j) (zero-add b) ∙ ap (λ (j : ℕ). count_from j b) (sym (add-zero i))
count_from-append i (suc a) b =
    ap (λ (j : ℕ). count_from i j) (suc-add a b) ∙ ap (λ (l : List ℕ). i ∷ l) (count_from-append (suc i) a b ∙ ap (λ (j : ℕ). count_from (suc i) a ++ count_from j b) (suc-add i a ∙ sym (add-suc i a)))

-- a run from i to the end, by its first
pub count-step : (i end : ℕ) → i < end → count_from i (end - i) ≡ i ∷ count_from (i + 1) (end - (i + 1))
count-step i end h =
    let n : end - i ≡ suc (end - (i + 1)) = omega arith in
    rw (n, add-one)

pub count-end : (i end : ℕ) → end ≤ i → count_from i (end - i) ≡ []
count-end i end h =
    let n : end - i ≡ zero = omega arith in
    rw n

pub mem-count_from : {x : ℕ} (i n : ℕ) → Memᴰ x (count_from i n) → (i ≤ x) × (x < i + n)
mem-count_from i zero h = absurd (Memᴰ.not-nil h)
mem-count_from i (suc n) h = ⊎_elim (λ e. (omega arith, omega arith)) (λ t. let r = mem-count_from (suc i) n t in (omega arith, omega arith)) (Memᴰ.cases_cons h)

pub count_from-mem : (x i n : ℕ) → i ≤ x → x < i + n → Memᴰ x (count_from i n)
count_from-mem x i zero l u = absurd (omega arith)
count_from-mem x i (suc n) l u =
    ⊎_elim (λ e. Memᴰ.head (sym e)) (λ d. Memᴰ.tail (count_from-mem x (suc i) n d (omega arith))) (eq-or-lt_of_le l)

pub mem-up_to : {x n : ℕ} → Memᴰ x (up_to n) → x < n
mem-up_to {x} {n} h = let r = mem-count_from zero n h in omega arith

pub up_to-mem : {x n : ℕ} → x < n → Memᴰ x (up_to n)
up_to-mem {x} {n} l = count_from-mem x zero n (omega arith) (omega arith)

module _ {A : Type 0} where
  -- those that pass

  pub mem-keep : (f : A → Bool) {x : A} (xs : List A) → Memᴰ x (keep f xs) → Memᴰ x xs × (f x ≡ true)
  mem-keep f [] h = absurd (Memᴰ.not-nil h)
  mem-keep f {x} (y ∷ xs) h =
      ⊎_elim (λ e. ⊎_elim (λ q. (Memᴰ.head q, ap f q ∙ e)) (λ t. let r = mem-keep f xs t in (Memᴰ.tail r.0, r.1)) (Memᴰ.cases_cons (rw e at h)))
      (λ e. let r = mem-keep f xs (rw e at h) in (Memᴰ.tail r.0, r.1))
      (both (f y))

  pub keep-mem : (f : A → Bool) {x : A} (xs : List A) → Memᴰ x xs → f x ≡ true → Memᴰ x (keep f xs)
  keep-mem f [] h e = absurd (Memᴰ.not-nil h)
  keep-mem f {x} (y ∷ xs) h e =
      ⊎_elim (λ q. rw q (⊎_elim (λ p. Memᴰ.head p) (λ t. Memᴰ.tail (keep-mem f xs t e)) (Memᴰ.cases_cons h)))
      (λ q. rw q (⊎_elim (λ p. absurd (true≢false (sym e ∙ ap f p ∙ q))) (λ t. keep-mem f xs t e) (Memᴰ.cases_cons h)))
      (both (f y))

  pub keep_append : (f : A → Bool) (xs ys : List A) → keep f (xs ++ ys) ≡ keep f xs ++ keep f ys
  keep_append f [] ys = refl
  keep_append f (x ∷ xs) ys =
      ⊎_elim (λ e. rw e (ap (λ (l : List A). x ∷ l) (keep_append f xs ys)))
      (λ e. rw e (keep_append f xs ys))
      (both (f x))

  pub keep-cong : (f g : A → Bool) (xs : List A) → ((x : A) → Memᴰ x xs → f x ≡ g x) → keep f xs ≡ keep g xs
  keep-cong f g [] h = refl
  keep-cong f g (x ∷ xs) h =
      ap (λ (b : Bool). cond b (x ∷ keep f xs) (keep f xs)) (h x (Memᴰ.head refl)) ∙ ap (λ (l : List A). cond (g x) (x ∷ l) l) (keep-cong f g xs (λ y m. h y (Memᴰ.tail m)))

  pub keep_all : (f : A → Bool) (xs : List A) → ((x : A) → Memᴰ x xs → f x ≡ true) → keep f xs ≡ xs
  keep_all f [] h = refl
  keep_all f (x ∷ xs) h = rw (h x (Memᴰ.head refl)) (ap (λ (l : List A). x ∷ l) (keep_all f xs (λ y m. h y (Memᴰ.tail m))))

  pub keep-none : (f : A → Bool) (xs : List A) → ((x : A) → Memᴰ x xs → f x ≡ false) → keep f xs ≡ []
  keep-none f [] h = refl
  keep-none f (x ∷ xs) h = rw (h x (Memᴰ.head refl)) (keep-none f xs (λ y m. h y (Memᴰ.tail m)))

  pub keep-keep : (f g : A → Bool) (xs : List A) → keep f (keep g xs) ≡ keep (λ (x : A). g x && f x) xs
  keep-keep f g [] = refl
  keep-keep f g (x ∷ xs) =
      ⊎_elim
      (λ e. rw e (⊎_elim (λ q. rw q (ap (λ (l : List A). x ∷ l) (keep-keep f g xs))) (λ q. rw q (keep-keep f g xs)) (both (f x))))
      (λ e. rw e (keep-keep f g xs))
      (both (g x))

  pub length-keep : (f : A → Bool) (xs : List A) → length (keep f xs) ≤ length xs
  length-keep f [] = omega arith
  length-keep f (x ∷ xs) =
      ⊎_elim (λ e. let h = length-keep f xs in rw e (omega arith))
      (λ e. let h = length-keep f xs in rw e (omega arith))
      (both (f x))

  -- one at least, and every one

  pub any-mem : (f : A → Bool) (xs : List A) → any f xs ≡ true → (x : A) × Memᴰ x xs × (f x ≡ true)
  any-mem f [] e = absurd (false≢true e)
  any-mem f (x ∷ xs) e =
      ⊎_elim (λ q. (x, Memᴰ.head refl, q))
      (λ q. let r = any-mem f xs (rw q at e) in (r.0, Memᴰ.tail r.1, r.2))
      (both (f x))

  pub mem-any : (f : A → Bool) {x : A} (xs : List A) → Memᴰ x xs → f x ≡ true → any f xs ≡ true
  mem-any f [] h e = absurd (Memᴰ.not-nil h)
  mem-any f {x} (y ∷ xs) h e =
      ⊎_elim (λ q. rw q)
      (λ q. rw q (⊎_elim (λ p. absurd (true≢false (sym e ∙ ap f p ∙ q))) (λ t. mem-any f xs t e) (Memᴰ.cases_cons h)))
      (both (f y))

  pub any_append : (f : A → Bool) (xs ys : List A) → any f (xs ++ ys) ≡ (any f xs || any f ys)
  any_append f [] ys = refl
  any_append f (x ∷ xs) ys =
      ⊎_elim (λ e. rw e)
      (λ e. rw e (any_append f xs ys))
      (both (f x))

  pub every-mem : (f : A → Bool) {x : A} (xs : List A) → every f xs ≡ true → Memᴰ x xs → f x ≡ true
  every-mem f [] e h = absurd (Memᴰ.not-nil h)
  every-mem f {x} (y ∷ xs) e h =
      ⊎_elim (λ q. ⊎_elim (λ p. ap f p ∙ q) (λ t. every-mem f xs (rw q at e) t) (Memᴰ.cases_cons h))
      (λ q. absurd (false≢true (rw q at e)))
      (both (f y))

  pub mem-every : (f : A → Bool) (xs : List A) → ((x : A) → Memᴰ x xs → f x ≡ true) → every f xs ≡ true
  mem-every f [] h = refl
  mem-every f (x ∷ xs) h = rw (h x (Memᴰ.head refl)) (mem-every f xs (λ y m. h y (Memᴰ.tail m)))

  pub every_append : (f : A → Bool) (xs ys : List A) → every f (xs ++ ys) ≡ (every f xs && every f ys)
  every_append f [] ys = refl
  every_append f (x ∷ xs) ys =
      ⊎_elim (λ e. rw e (every_append f xs ys))
      (λ e. rw e)
      (both (f x))

pub elem_mem : (x : ℕ) (xs : List ℕ) → elem x xs ≡ true → Memᴰ x xs
elem_mem x xs e = let r = any-mem (eqb x) xs e in subst (λ (y : ℕ). Memᴰ y xs) (sym (eqb-true x r.0 r.2)) r.1

pub mem-elem : (x : ℕ) (xs : List ℕ) → Memᴰ x xs → elem x xs ≡ true
mem-elem x xs h = mem-any (eqb x) xs h (eq-eqb x x refl)

-- lists without repeats

pub distinct_append : (a b : List ℕ) → Distinct a → Distinct b → ((x : ℕ) → Memᴰ x a → Memᴰ x b → ⊥) → Distinct (a ++ b)
unfolding Distinct
distinct_append [] b da db n = db
distinct_append (x ∷ a) b da db n = (
  λ h. ⊎_elim da.0 (λ hb. n x (Memᴰ.head refl) hb) (Memᴰ.append_cases a h),
  distinct_append a b da.1 db (λ y h. n y (Memᴰ.tail h)),
)

pub distinct-keep : (f : ℕ → Bool) (xs : List ℕ) → Distinct xs → Distinct (keep f xs)
unfolding Distinct
distinct-keep f [] d = tt
distinct-keep f (x ∷ xs) d =
    ⊎_elim (λ e. rw e (λ h. d.0 (mem-keep f xs h).0, distinct-keep f xs d.1))
    (λ e. rw e (distinct-keep f xs d.1))
    (both (f x))

-- sets of marks

pub length-marks_from : (f : ℕ → Bool) (i n : ℕ) → length (marks_from f i n) ≡ n
length-marks_from f i zero = refl
length-marks_from f i (suc n) = ap suc (length-marks_from f (suc i) n)

marks_from-at : (f : ℕ → Bool) (j n i : ℕ) → i < n → get_or (marks_from f j n) i 0 ≡ bit (f (j + i))
marks_from-at f j zero i l = absurd (not-suc-le-zero l)
marks_from-at f j (suc n) zero l = rw add-zero
marks_from-at f j (suc n) (suc i) l = rw (add-suc, ← suc-add) (marks_from-at f (suc j) n i (omega arith))

pub length-marks_of : (f : ℕ → Bool) (n : ℕ) → length (marks_of f n) ≡ n
length-marks_of f n = length-marks_from f zero n

pub marks_of-at : (f : ℕ → Bool) (n i : ℕ) → i < n → get_or (marks_of f n) i 0 ≡ bit (f i)
marks_of-at f n i l = marks_from-at f zero n i l ∙ ap (λ (j : ℕ). bit (f j)) (zero-add i)

pub has-bit : (b : Bool) → not (is_zero (bit b)) ≡ b
has-bit true = refl
has-bit false = refl

pub has-marks_of : (f : ℕ → Bool) (n i : ℕ) → i < n → has (marks_of f n) i ≡ f i
has-marks_of f n i l = ap (λ (x : ℕ). not (is_zero x)) (marks_of-at f n i l) ∙ has-bit (f i)

-- a place past the end is out
pub has_in : (s : List ℕ) (i : ℕ) → has s i ≡ true → i < length s
has_in s i e = go (dec_lt i (length s))
  where
    go : Dec (i < length s) → i < length s
    go (yes h) = h
    go (no h) = absurd (false≢true (sym (ap (λ (n : ℕ). not (is_zero n)) (get_or-eq_default s 0 (omega arith))) ∙ e))

-- the marks of a test that holds below n only are that test
pub marks-test : (f : ℕ → Bool) (n : ℕ) → ((m : ℕ) → f m ≡ true → m < n) → has (marks_of f n) ≡ f
marks-test f n inside = fun_ext (λ m. go m (dec_lt m n))
  where
    go : (m : ℕ) → Dec (m < n) → has (marks_of f n) m ≡ f m
    go m (yes l) = has-marks_of f n m l
    go m (no l) =
        iff-eq (has (marks_of f n) m) (f m)
        (λ e. absurd (l (rw (length-marks_of f n) at (has_in (marks_of f n) m e))))
        (λ e. absurd (l (inside m e)))

-- a list of n marks, each 0 or 1, is the set of those that it has
pub marks_of-has : (s : List ℕ) → ((i : ℕ) → get_or s i 0 ≤ 1) → marks_of (has s) (length s) ≡ s
marks_of-has s b = ext_get_or 0 (marks_of (has s) (length s)) s (length-marks_of (has s) (length s)) (λ i l. marks_of-at (has s) (length s) i (rw (length-marks_of (has s) (length s)) at l) ∙ one (get_or s i 0) (b i))
  where
    one : (x : ℕ) → x ≤ 1 → bit (not (is_zero x)) ≡ x
    one zero h = refl
    one (suc x) h = omega arith

pub marks_of-cong : (f g : ℕ → Bool) (n : ℕ) → ((i : ℕ) → i < n → f i ≡ g i) → marks_of f n ≡ marks_of g n
marks_of-cong f g n h = ext_get_or 0 (marks_of f n) (marks_of g n) (length-marks_of f n ∙ sym (length-marks_of g n)) (λ i l. let u : i < n = rw (length-marks_of f n) at l in marks_of-at f n i u ∙ ap bit (h i u) ∙ sym (marks_of-at g n i u))

pub ones-zeros : (s : List ℕ) → ones s + zeros s ≡ length s
ones-zeros [] = refl
ones-zeros (zero ∷ s) = let h = ones-zeros s in omega arith
ones-zeros (suc x ∷ s) = let h = ones-zeros s in omega arith

-- writing a slice from its front

-- one more value behind those that stand at the front
pub front-more : (xs ys : List ℕ) (i x : ℕ) → length xs ≡ i → i < length ys → set (xs ++ drop i ys) i x ≡ xs ++ (x ∷ []) ++ drop (i + 1) ys
front-more xs ys i x e l =
    ap (λ (t : List ℕ). set (xs ++ t) i x) (drop-cons ys i 0 l)
    ∙ set_at xs (get_or ys i 0) (drop (suc i) ys) x i e
    ∙ sym (append_snoc xs x (drop (suc i) ys))
    ∙ ap (λ (j : ℕ). xs ++ (x ∷ []) ++ drop j ys) (sym (add-one i))

pub take_more : (xs : List ℕ) (i : ℕ) → i < length xs → take i xs ++ (get_or xs i 0 ∷ []) ≡ take (i + 1) xs
take_more xs i l = sym (ap (λ (j : ℕ). take j xs) (add-one i) ∙ take-suc xs i 0 l)

-- those that pass, from place i on

pub length-keep-in : (f : ℕ → Bool) (xs : List ℕ) (i : ℕ) → i < length xs → f (get_or xs i 0) ≡ true → length (keep f (drop i xs)) ≡ suc (length (keep f (drop (i + 1) xs)))
length-keep-in f xs i l e = rw (add-one, drop-cons xs i 0, e)

pub length-keep-out : (f : ℕ → Bool) (xs : List ℕ) (i : ℕ) → i < length xs → f (get_or xs i 0) ≡ false → length (keep f (drop i xs)) ≡ length (keep f (drop (i + 1) xs))
length-keep-out f xs i l e = rw (add-one, drop-cons xs i 0, e)

-- a mark that is not 0 is in, and one that is 0 is out
pub mark-in : (x : ℕ) → (x ≡ 0 → ⊥) → not (is_zero x) ≡ true
mark-in zero k = absurd (k refl)
mark-in (suc x) k = refl

pub mark-out : (x : ℕ) → x ≡ 0 → not (is_zero x) ≡ false
mark-out x e = ap (λ (y : ℕ). not (is_zero y)) e

pub has-yes : (s : List ℕ) (i : ℕ) → (get_or s i 0 ≡ 0 → ⊥) → has s i ≡ true
has-yes s i n = mark-in (get_or s i 0) n

pub has-not : (s : List ℕ) (i : ℕ) → get_or s i 0 ≡ 0 → has s i ≡ false
has-not s i e = mark-out (get_or s i 0) e

-- a list by a function of its places
get_d-map-from : (f : ℕ → ℕ) (i n k d : ℕ) → k < n → get_or (map f (count_from i n)) k d ≡ f (i + k)
get_d-map-from f i zero k d l = absurd (omega arith)
get_d-map-from f i (suc n) zero d l = ap f (sym (add-zero i))
get_d-map-from f i (suc n) (suc k) d l = get_d-map-from f (suc i) n k d (omega arith) ∙ ap f (suc-add i k ∙ sym (add-suc i k))

pub get_d-map-up_to : (f : ℕ → ℕ) (n k d : ℕ) → k < n → get_or (map f (up_to n)) k d ≡ f k
get_d-map-up_to f n k d l = get_d-map-from f 0 n k d l ∙ ap f (zero-add k)

pub length-map-up_to : (f : ℕ → ℕ) (n : ℕ) → length (map f (up_to n)) ≡ n
length-map-up_to f n = length-map (up_to n) f ∙ length-count_from 0 n

-- a list with a function's value at each of its places
pub map_up_to_written : (f : ℕ → ℕ) (now : List ℕ) (n : ℕ) → length now ≡ n → ((k : ℕ) → k < n → get_or now k 0 ≡ f k) → now ≡ map f (up_to n)
map_up_to_written f now n len at =
    ext_get_or 0 now (map f (up_to n)) (len ∙ sym (length-map-up_to f n)) (λ k h. at k (omega arith) ∙ sym (get_d-map-up_to f n k 0 (omega arith)))

-- within a list the value that stands past its end does not matter
pub get_d-in : (xs : List ℕ) (i d e : ℕ) → i < length xs → get_or xs i d ≡ get_or xs i e
get_d-in [] i d e l = absurd (omega arith)
get_d-in (x ∷ xs) zero d e l = refl
get_d-in (x ∷ xs) (suc i) d e l = get_d-in xs i d e (omega arith)
