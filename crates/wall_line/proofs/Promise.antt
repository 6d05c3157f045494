-- The promise of the operation of one line, of a call that is accepted.
-- Assumes nothing.
use Rattle.std.specs.Prelude.{◌≡◌, ℕ, ◌≤◌, true, List, length, None, Ok}
use mathlib.Core.Path.{◌∙◌}
use native.Mathlib.Omega.{arith}
use borrow.Author.Tests.{le-leb}
use Rattle.lists.proofs.Fronts.{sets-front}
use Rattle.tables.specs.Readings.{is_analysed}
use Rattle.tables.specs.Accepted.{Accepted}
use Rattle.tables.proofs.Answering.{verdict-none, answer-accepted, after-accepted}
use Rattle.table.specs.Table.{Lent}
use Rattle.lines.specs.Lines.{PutAt}
use Rattle.wall_line.specs.Promise.{page_line_of, PageLine}
use Rattle.wall_line.proofs.Lines.{line-fits}

module _ (t : Lent) (root number : ℕ) (line : List ℕ) where
  abbrev text : List ℕ
  text = page_line_of t.project root number

  pub line-put : t.refused ≡ None → is_analysed t.project root ≡ true → 41 ≤ length line → Accepted t.project → {line' : List ℕ} {r : ℕ} → PutAt line 0 text line' r
      → PageLine t root number line (Ok r) line'
  line-put accepts analysed l a w =
      let z = verdict-none _ _ accepts analysed (le-leb 41 (length line) l) in
      let few : length text ≤ length line = omega (arith, line-fits t.project root a number) in
      record { answered = answer-accepted z (omega (arith, w.next)); written = after-accepted line text z (w.put ∙ sets-front line text few) }
