-- A loop that joins the tests of all rows: what is joined and what is left are all.
-- Assumes nothing.
use Rattle.std.specs.Prelude.{◌≡◌, ℕ, ◌+◌, ◌-◌, ◌<◌, ◌≤◌, Bool, true, false, cond, not, ◌&&◌, ◌||◌, eqb, List, [], ◌∷◌, length, get_or, drop}
use mathlib.Core.Path.{refl, sym, ◌∙◌}
use Prim.Native.Nat.{min}
use native.Mathlib.Numerals.{add-one}
use native.Mathlib.Omega.{arith}
use lib.ListN.{drop_of_length-le, get_or-eq_default}
use lib.Seq.{drop-cons}
use Rattle.lists.specs.Words.{every, count_from, up_to}
use Rattle.tables.specs.Project.{missing}
use Rattle.lists.proofs.Laws.{or_right, mem-every, mem-count_from, count-step, count-end}
use Rattle.lists.proofs.Tests.{and-true}

pub drop-next : (xs : List ℕ) (i : ℕ) → i < length xs → drop i xs ≡ get_or xs i 0 ∷ drop (i + 1) xs
drop-next xs i h = rw (add-one, drop-cons xs i 0)

and-cond : (a b c : Bool) → ((a && b) && c) ≡ (a && cond b c false)
and-cond true true c = refl
and-cond true false c = refl
and-cond false b c = refl

module _ {A : Type 0} (f : A → Bool) (all ok : Bool) {left : List A} (h : (ok && every f left) ≡ all) where
  -- one more is joined
  pub joined : {x : A} {rest : List A} → left ≡ x ∷ rest → ((ok && f x) && every f rest) ≡ all
  joined {x} {rest} e = and-cond ok (f x) (every f rest) ∙ (rw e at h)

  -- nothing is left
  pub joined-all : left ≡ [] → ok ≡ all
  joined-all e = sym (and-true ok) ∙ (rw e at h)

-- the rows of a column
module _ (f : ℕ → Bool) (xs : List ℕ) (all ok : Bool) (i : ℕ) (h : (ok && every f (drop i xs)) ≡ all) where
  pub row-joined : i < length xs → ((ok && f (get_or xs i 0)) && every f (drop (i + 1) xs)) ≡ all
  row-joined l = joined f all ok h (drop-next xs i l)

  pub rows-joined : length xs ≤ i → ok ≡ all
  rows-joined l = joined-all f all ok h (drop_of_length-le xs l)

-- the numbers below n
module _ (f : ℕ → Bool) (n : ℕ) where
  pub counts_start : every f (count_from 0 (n - 0)) ≡ every f (up_to n)
  counts_start =
      let e : n - 0 ≡ n = omega arith in
      rw e

  module _ (all ok : Bool) (i : ℕ) (h : (ok && every f (count_from i (n - i))) ≡ all) where
    pub count-joined : i < n → ((ok && f i) && every f (count_from (i + 1) (n - (i + 1)))) ≡ all
    count-joined l = joined f all ok h (count-step i n l)

    pub counts-joined : n ≤ i → ok ≡ all
    counts-joined l = joined-all f all ok h (count-end i n l)

-- a use names a record of its statement's module
abbrev pub own : List ℕ → List ℕ → List ℕ → List ℕ → ℕ → Bool
own statement_module record_module use_statement use_record row =
    eqb (get_or statement_module (get_or use_statement row 0) 0) (get_or record_module (get_or use_record row 0) 0)

-- a reference of form 0 or 1 has a symbol
abbrev pub plain : List ℕ → List ℕ → ℕ → Bool
plain reference_form reference_symbol row = eqb (get_or reference_form row 0) 2 || not (eqb (get_or reference_symbol row 0) missing)

module _ (reference_form reference_symbol : List ℕ) (row : ℕ) where
  pub symbol-joined : (all ok : Bool) → (ok && every (plain reference_form reference_symbol) (count_from row (length reference_form - row))) ≡ all → row < length reference_form
      → ((ok && (eqb (get_or reference_form row 0) 2 || not (eqb (get_or reference_symbol row 0) missing))) && every (plain reference_form reference_symbol) (count_from (row + 1) (length reference_form - (row + 1)))) ≡ all
  symbol-joined all ok h l = count-joined (plain reference_form reference_symbol) (length reference_form) all ok row h l

  -- the rows past the symbols pass
  pub symbols-passed : row ≡ min (length reference_form) (length reference_symbol) → every (plain reference_form reference_symbol) (count_from row (length reference_form - row)) ≡ true
  symbols-passed e = mem-every (plain reference_form reference_symbol) (count_from row (length reference_form - row)) (λ k m. let r = mem-count_from row (length reference_form - row) m in past k (omega arith))
    where
      past : (k : ℕ) → length reference_symbol ≤ k → plain reference_form reference_symbol k ≡ true
      past k m = or_right (eqb (get_or reference_form k 0) 2) (not (eqb (get_or reference_symbol k 0) missing)) (rw (get_or-eq_default reference_symbol 0 m))

pub ruleset rows = (row-joined, rows-joined)

pub ruleset counted = (counts_start, count-joined, counts-joined)

pub ruleset symbols = (counts_start, symbol-joined, symbols-passed, and-true)
