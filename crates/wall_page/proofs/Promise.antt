-- The promise of the operation of an entry's page, of a call that is accepted.
-- Assumes nothing.
use Rattle.std.specs.Prelude.{◌≡◌, ℕ, ◌*◌, ◌≤◌, true, leb, List, length, take, None, Ok}
use mathlib.Core.Path.{ap, ◌∙◌}
use native.Mathlib.Omega.{arith}
use borrow.Author.Tests.{le-leb}
use Rattle.lists.proofs.Laws.{and-join}
use Rattle.lists.proofs.Fronts.{sets-front}
use Rattle.tables.specs.Project.{Project}
use Rattle.tables.specs.Readings.{modules, is_analysed}
use Rattle.tables.specs.Accepted.{Accepted}
use Rattle.tables.proofs.Answering.{verdict-none, answer-accepted, after-accepted}
use Rattle.table.specs.Table.{Lent}
use Rattle.lines.specs.Lines.{PutAt}
use Rattle.lines.proofs.Puts.{put_as}
use Rattle.entry_pages.specs.Marked.{marked_page}
use Rattle.wall_page.specs.Promise.{page_with, EntryPage}
use Rattle.wall_page.proofs.Fits.{page-fits}

module _ (t : Lent) (root : ℕ) (grounds plan page : List ℕ) where
  abbrev p : Project
  p = t.project

  abbrev n : ℕ
  n = modules p

  abbrev text : List ℕ
  text = page_with p grounds plan root

  pub page-put : t.refused ≡ None → is_analysed p root ≡ true → {i : ℕ} → i ≡ n → i ≤ length grounds → i ≤ length plan → 41 * i ≤ length page → Accepted p → {page' : List ℕ} {r : ℕ}
      → PutAt page 0 (marked_page p (take i grounds) (take i plan) root) page' r → EntryPage t root grounds plan page (Ok r) page'
  unfolding page_with
  page-put accepts analysed e g w l a {page'} {r} put =
      let z = verdict-none _ _ accepts analysed (and-join (leb n (length grounds)) _ (le-leb n (length grounds) (omega arith)) (and-join (leb n (length plan)) _ (le-leb n (length plan) (omega arith)) (le-leb (41 * n) (length page) (omega arith)))) in
      let s : PutAt page 0 text page' r = put_as (ap (λ (j : ℕ). marked_page p (take j grounds) (take j plan) root) e) put in
      let few : length text ≤ length page = omega (arith, page-fits p a (take n grounds) (take n plan) root) in
      record { answered = answer-accepted z (omega (arith, s.next)); written = after-accepted page text z (s.put ∙ sets-front page text few) }
