-- `put_whole_line`: with the marks of the sensitive modules and the plan of the whole analysis a line is the page's.
-- Assumes nothing.
use Rattle.std.proofs.Common.{ℕ, List, ap₂, ◌∙◌}
use Rattle.lines.proofs.Puts.{put_as}
use Rattle.entry_pages.specs.Marked.{marked_line}
use Rattle.wall_line.proofs.Lines.{marked-whole}
use Rattle.wall_line.proofs.inner.put_whole_line.Goals as goal

pub returns : goal.returns
returns c =
    let a = c.args in
    let sensitives = rw c.columns.ensures.same at c.mark_sensitive.ensures in
    put_as
    (ap₂ (λ (s w : List ℕ). marked_line a.entry.now.current.now s w a.entry.now.root a.number) sensitives c.analyze.ensures.plan ∙ marked-whole a.entry.now.current.now a.entry.now.root a.number)
    c.put_entry_text.ensures
