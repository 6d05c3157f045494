-- `put_entry_text`: a line or the page, by the marked modules of both orders.
-- Assumes nothing.
use Rattle.std.proofs.Common.{◌≡◌, ℕ, Option, Some, None, List, refl}
use Rattle.lists.specs.Words.{keep, has}
use Rattle.tables.specs.Project.{Project}
use Rattle.expected_visit.specs.OfProject.{expected_of}
use Rattle.entry_run.specs.Actual.{actual_of}
use Rattle.lines.proofs.Puts.{put_as}
use Rattle.page_text.specs.Page.{text_by}
use Rattle.entry_pages.specs.Marked.{marked_page, marked_line, marked_text}
use Rattle.entry_pages.proofs.inner.put_entry_text.Goals as goal

by-orders : (p : Project) (sensitives plan : List ℕ) (root : ℕ) (number : Option ℕ)
    → text_by (keep (has sensitives) (expected_of p root)) (keep (has sensitives) (actual_of p root)) (has plan) number ≡ marked_text p sensitives plan root number
unfolding marked_page marked_line
by-orders p sensitives plan root None = refl
by-orders p sensitives plan root (Some number) = refl

pub returns : goal.returns
returns c =
    let a = c.args in
    put_as (by-orders a.entry.now.current.now a.sensitives.now a.plan.now a.entry.now.root a.number) (rw (c.marked_expected-expected.ensures.list, c.marked_actual-actual.ensures.list) at c.put_text.ensures)
