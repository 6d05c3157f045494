-- How the threads lead through the rows of a value, in order.
-- Assumes nothing.
use Rattle.std.specs.Prelude.{◌≡◌, ℕ, ◌+◌, ◌-◌, ◌<◌, ◌≤◌, Bool, List, [], ◌∷◌, ◌++◌, length, get_or, ◌==◌}
use mathlib.Core.Path.{sym, ap, ◌∙◌}
use native.Mathlib.Omega.{arith}
use borrow.Author.Tests.{eq-eqb, ne_eqb}
use Rattle.lists.specs.Words.{count_from, keep}
use Rattle.lists.proofs.Laws.{count_from-append, count-step, count-end, mem-count_from, keep_append, keep-none}
use Rattle.lists.proofs.Members.{get_d-mem}
use Rattle.tables.specs.Readings.{rows_of}
use Rattle.tables.specs.Accepted.{Below}
use Rattle.tables.proofs.OwnerRows.{mem-rows}
use Rattle.threads.specs.inner.Rows.{NextRow, Threaded, Standing, rows_from}

module _ (column : List ℕ) (m : ℕ) where
  abbrev own : ℕ → Bool
  own row = get_or column row 0 == m

  -- up to the next row there is none
  rows-next : (row r : ℕ) → NextRow column m row r → rows_from column m row ≡ rows_from column m r
  unfolding rows_from
  rows-next row r h =
      let n : length column - row ≡ (r - row) + (length column - r) = omega (arith, h.after, h.within) in
      let e : row + (r - row) ≡ r = omega (arith, h.after) in
      ap (λ (k : ℕ). keep own (count_from row k)) n
      ∙ ap (keep own) (count_from-append row (r - row) (length column - r))
      ∙ keep_append own (count_from row (r - row)) (count_from (row + (r - row)) (length column - r))
      ∙ ap (λ (l : List ℕ). l ++ keep own (count_from (row + (r - row)) (length column - r)))
      (keep-none own (count_from row (r - row)) (λ i q. let b = mem-count_from row (r - row) q in ne_eqb (get_or column i 0) m (h.none i b.0 (omega (arith, b.1, h.after)))))
      ∙ ap (λ (k : ℕ). keep own (count_from k (length column - r))) e

  pub rows-end : (row : ℕ) → length column ≤ row → rows_from column m row ≡ []
  unfolding rows_from
  rows-end row l = ap (keep own) (count-end row (length column) l)

  pub rows-start : (r : ℕ) → NextRow column m 0 r → rows_from column m r ≡ rows_of column m
  unfolding rows_from rows_of
  rows-start r h = let z : length column - 0 ≡ length column = omega arith in sym (rows-next 0 r h) ∙ ap (λ (k : ℕ). keep own (count_from 0 k)) z

  -- each is a row of the column
  pub rows-there : Below (length column) (rows_of column m)
  rows-there i l = (mem-rows column m (get_d-mem (rows_of column m) i l)).0

  module _ (nexts : List ℕ) where
    pub standing-start : {heads : List ℕ} → Threaded column heads nexts → m < length heads → Standing column nexts m (get_or heads m 0)
    standing-start t l = let h = t.first m l in record { room = t.room; within = h.within; mine = h.found; next = t.next }

    module _ (row : ℕ) (s : Standing column nexts m row) (l : row < length column) where
      at_next : NextRow column m (row + 1) (get_or nexts row 0)
      at_next = rw (s.mine l) at (s.next row l)

      pub rows-step : rows_from column m row ≡ row ∷ rows_from column m (get_or nexts row 0)
      unfolding rows_from
      rows-step =
          ap (keep own) (count-step row (length column) l)
          ∙ rw (eq-eqb (get_or column row 0) m (s.mine l)) (ap (λ (l : List ℕ). row ∷ l) (rows-next (row + 1) (get_or nexts row 0) at_next))

      pub standing-step : Standing column nexts m (get_or nexts row 0)
      standing-step = let h = at_next in record { room = s.room; within = h.within; mine = h.found; next = s.next }
