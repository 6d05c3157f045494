-- A list's values row by row, as text.
-- Assumes nothing.
use Rattle.std.specs.Prelude.{ℕ, ◌+◌, ◌-◌, ◌≡◌, cond, List, [], ◌∷◌, ◌++◌, eqb, length}
use Prim.Native.String.{String}
use Rattle.form.specs.Form.{bytes, field, names}
use Rattle.form.specs.Parse.{Fit}

-- of a field with `left` more fields behind it in its row: the byte behind it, a space or a line end
unfoldable pub ender : ℕ → ℕ
ender left = cond (eqb left 0) 10 32

-- and how many the next field has behind it, in rows of `last + 1` fields
unfoldable pub following : ℕ → ℕ → ℕ
following last left = cond (eqb left 0) last (left - 1)

-- the values of a list as text, row by row, where the first has `left` more fields behind it in its row
unfoldable pub cells : ℕ → ℕ → List ℕ → List ℕ
cells last left [] = []
cells last left (v ∷ vs) = field v ++ ender left ∷ cells last (following last left) vs

-- how many fields the next value behind vs has behind it in its row: `last` where vs ends with a whole row
unfoldable pub ends : ℕ → ℕ → List ℕ → ℕ
ends last left [] = left
ends last left (v ∷ vs) = ends last (following last left) vs

-- vs are the values of whole rows of `last + 1` fields
pub record Whole (last : ℕ) (vs : List ℕ) : Type 0 where
  pub fit : Fit vs
  pub whole : ends last last vs ≡ last

-- a list without its line of names: its rows and an empty line
unfoldable pub body : ℕ → List ℕ → List ℕ
body last vs = cells last last vs ++ 10 ∷ []

-- a list's line of names, and its columns less one
pub record Head : Type 0 where
  pub name : List ℕ
  pub last : ℕ

abbrev pub head : List ℕ → ℕ → Head
head name last = record { name = name; last = last }

-- a whole list: its line of names, its rows and an empty line
unfoldable pub listed : Head → List ℕ → List ℕ
listed h vs = h.name ++ 10 ∷ body h.last vs

-- how many columns each list has
abbrev pub widths : List ℕ
widths = 2 ∷ 8 ∷ 3 ∷ 2 ∷ 2 ∷ 2 ∷ 2 ∷ 2 ∷ 3 ∷ 2 ∷ 1 ∷ 2 ∷ 2 ∷ 2 ∷ 1 ∷ []

abbrev pub heads_of : List String → List ℕ → List Head
heads_of [] ws = []
heads_of (n ∷ ns) [] = []
heads_of (n ∷ ns) (w ∷ ws) = head (bytes n) (w - 1) ∷ heads_of ns ws

-- a project's lists, in order
abbrev pub heads : List Head
heads = heads_of names widths

-- the lines of names one after the other
unfoldable pub name_lines : List Head → List ℕ
name_lines [] = []
name_lines (h ∷ hs) = h.name ++ 10 ∷ name_lines hs

-- where each begins, where the first does at `at`, and where the last ends
unfoldable pub starts_of : ℕ → List Head → List ℕ
starts_of at [] = at ∷ []
starts_of at (h ∷ hs) = at ∷ starts_of (at + length h.name + 1) hs

-- several lists as text
unfoldable pub texts : List Head → List (List ℕ) → List ℕ
texts [] vss = []
texts (h ∷ hs) [] = []
texts (h ∷ hs) (vs ∷ vss) = listed h vs ++ texts hs vss

-- whole rows for each list
pub data Wholes : List Head → List (List ℕ) → Type 0 where
  none : Wholes [] []
  more : {h : Head} {hs : List Head} {vs : List ℕ} {vss : List (List ℕ)} → Whole h.last vs → Wholes hs vss → Wholes (h ∷ hs) (vs ∷ vss)

-- where each of several lists ends, where the first begins at `at`
unfoldable pub stops : ℕ → List (List ℕ) → List ℕ
stops at [] = []
stops at (vs ∷ vss) = (at + length vs) ∷ stops (at + length vs) vss
