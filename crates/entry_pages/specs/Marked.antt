-- The page of an entry of a project, by the marks of its sensitive and of its planned modules.
-- Assumes nothing.
use Rattle.std.specs.Prelude.{ℕ, Option, Some, None, List}
use Rattle.lists.specs.Words.{keep, has}
use Rattle.tables.specs.Project.{Project}
use Rattle.expected_visit.specs.OfProject.{expected_of}
use Rattle.entry_run.specs.Actual.{actual_of}
use Rattle.page_text.specs.Page.{line_at, page_by}

module _ (p : Project) (sensitives plan : List ℕ) (root : ℕ) where
  -- the page of an entry
  unfoldable pub marked_page : List ℕ
  marked_page = page_by (keep (has sensitives) (expected_of p root)) (keep (has sensitives) (actual_of p root)) (has plan)

  -- a line of it
  unfoldable pub marked_line : ℕ → List ℕ
  marked_line number = line_at (keep (has sensitives) (expected_of p root)) (keep (has sensitives) (actual_of p root)) (has plan) number

  -- a line of it by its number, or the page where no number is given
  abbrev pub marked_text : Option ℕ → List ℕ
  marked_text None = marked_page
  marked_text (Some number) = marked_line number
