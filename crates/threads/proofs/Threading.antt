-- How a column is threaded, from the last row on.
-- Assumes nothing.
use Rattle.std.specs.Prelude.{◌≡◌, ℕ, ◌+◌, ◌<◌, ◌≤◌, List, [], ◌∷◌, ◌++◌, length, get_or, drop, set, replicate}
use mathlib.Core.Path.{refl, sym, ap, subst, ◌∙◌}
use mathlib.Core.List.{append_assoc}
use native.Mathlib.Decide.{ℕ_discrete}
use native.Mathlib.Omega.{arith}
use lib.ListN.{length-set, length-replicate, length-append, get_or-replicate}
use lib.Seq.{drop-cons, drop_at, get_or-set_same, get_or-set_other}
use Rattle.tables.specs.Accepted.{Below}
use Rattle.threads.specs.inner.Rows.{NextRow}

-- the rows from `row` on are threaded
pub record Threading (from heads nexts : List ℕ) (row : ℕ) : Type 0 where
  pub first : (m : ℕ) → m < length heads → NextRow from m row (get_or heads m 0)
  pub next : (r : ℕ) → row ≤ r → r < length from → NextRow from (get_or from r 0) (r + 1) (get_or nexts r 0)

pub threading-start : (from nexts : List ℕ) (n : ℕ) → Threading from (replicate n (length from)) nexts (length from)
threading-start from nexts n = record {
  first = λ m l. rw (get_or-replicate n m (length from) 0 (omega (arith, length-replicate {A = ℕ} n (length from)))) (record { after = omega arith; within = omega arith; none = λ i a b e. omega arith; found = λ l'. absurd (omega arith) });
  next = λ r a b. absurd (omega arith);
}

-- a row of m is its own first row
own_row : (from : List ℕ) (m row : ℕ) → row < length from → get_or from row 0 ≡ m → NextRow from m row row
own_row from m row l e = record { after = omega arith; within = omega arith; none = λ i a b q. omega arith; found = λ l'. e }

-- a row of another place is passed
other_row : (from : List ℕ) (m row r : ℕ) → (get_or from row 0 ≡ m → ⊥) → NextRow from m (row + 1) r → NextRow from m row r
other_row from m row r k h = record {
  after = omega (arith, h.after);
  within = h.within;
  none = λ i a b. pick i b (ℕ_discrete i row) a;
  found = h.found;
}
  where
    pick : (i : ℕ) → i < r → Dec (i ≡ row) → row ≤ i → get_or from i 0 ≡ m → ⊥
    pick i b (yes q) a e = k (ap (λ (x : ℕ). get_or from x 0) (sym q) ∙ e)
    pick i b (no q) a e = h.none i (omega arith) b e

module _ (from heads nexts : List ℕ) (row : ℕ) (inside : row < length from) (room : length from ≤ length nexts) (fits : get_or from row 0 < length heads) (t : Threading from heads nexts (row + 1)) where
  abbrev place : ℕ
  place = get_or from row 0

  first-after : (m : ℕ) → m < length heads → NextRow from m row (get_or (set heads place row) m 0)
  first-after m l = pick (ℕ_discrete m place)
    where
      pick : Dec (m ≡ place) → NextRow from m row (get_or (set heads place row) m 0)
      pick (yes q) = rw (ap (λ (x : ℕ). get_or (set heads place row) x 0) q ∙ get_or-set_same heads place row 0 fits) (own_row from m row inside (sym q))
      pick (no k) = rw (get_or-set_other heads place m row 0 k) (other_row from m row (get_or heads m 0) (λ e. k (sym e)) (t.first m l))

  next-after : (r : ℕ) → row ≤ r → r < length from → NextRow from (get_or from r 0) (r + 1) (get_or (set nexts row (get_or heads place 0)) r 0)
  next-after r a b = pick (ℕ_discrete r row)
    where
      pick : Dec (r ≡ row) → NextRow from (get_or from r 0) (r + 1) (get_or (set nexts row (get_or heads place 0)) r 0)
      pick (yes q) = rw (q, get_or-set_same nexts row (get_or heads place 0) 0 (omega arith)) (t.first place fits)
      pick (no k) = rw (get_or-set_other nexts row r (get_or heads place 0) 0 k) (t.next r (omega arith) b)

  pub threading-step : Threading from (set heads place row) (set nexts row (get_or heads place 0)) row
  threading-step = record { first = λ m l. first-after m (omega (arith, length-set heads place row)); next = next-after }

-- the front of a column that is left, by its last row shorter each turn

module _ (column rest left : List ℕ) (x : ℕ) (is : left ≡ rest ++ (x ∷ [])) (front : left ++ drop (length left) column ≡ column) where
  abbrev past : List ℕ
  past = drop (length left) column

  parts : rest ++ (x ∷ past) ≡ column
  parts = sym (append_assoc rest (x ∷ []) past) ∙ ap (λ (l : List ℕ). l ++ past) (sym is) ∙ front

  tail : drop (length rest) column ≡ x ∷ past
  tail = ap (drop (length rest)) (sym parts) ∙ drop_at rest (x ∷ past) (length rest) refl

  pub front-less : rest ++ drop (length rest) column ≡ column
  front-less = ap (λ (l : List ℕ). rest ++ l) tail ∙ parts

  inside : length rest < length column
  inside = omega (arith, ap length parts, length-append rest (x ∷ past))

  last : get_or column (length rest) 0 ≡ x
  last = sym (ap (λ (l : List ℕ). get_or l 0 0) (sym tail ∙ drop-cons column (length rest) 0 inside))

  pub front-threaded : (heads nexts : List ℕ) → length column ≤ length nexts → Below (length heads) column → Threading column heads nexts (length left)
      → Threading column (set heads x (length rest)) (set nexts (length rest) (get_or heads x 0)) (length rest)
  front-threaded heads nexts room froms t =
      let next : Threading column heads nexts (length rest + 1) = subst (Threading column heads nexts) (ap length is ∙ length-append rest (x ∷ [])) t in
      rw (← last) (threading-step column heads nexts (length rest) inside room (froms (length rest) inside) next)

pub ruleset thread_steps = (threading-start, threading-step)
