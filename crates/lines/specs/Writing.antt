-- What a writer has room for, and what is written behind what it has.
-- Assumes nothing.
use Rattle.std.specs.Prelude.{◌≡◌, List, ℕ, ◌+◌, ◌≤◌, length}
use Rattle.lines.specs.declared.lines.Writer.{Writer}
use Rattle.lines.specs.Lines.{PutAt}

-- k bytes more fit
abbrev pub Room : ℕ → Writer → Type 0
Room k w = w.at + k ≤ length w.out.now

-- w' is w with xs written behind, in the same slice
pub record Put (xs : List ℕ) (w w' : Writer) : Type 0 where
  pub slice : w'.out.ghost_name ≡ w.out.ghost_name
  pub put : PutAt w.out.now w.at xs w'.out.now w'.at
