-- What the contracts of the reader's inner functions say.
-- Assumes nothing.
use Rattle.std.specs.Prelude.{ℕ, ◌+◌, ◌*◌, ◌≤◌, ◌≡◌, length, drop, Option, Some, None}
use mathlib.Core.List.{List, ◌∷◌, ◌++◌, flatten}
use Rattle.std.proofs.lemmas.List.Edits.{sets}
use Rattle.tables.specs.Project.{missing}
use Rattle.form.specs.Form.{field}
use Rattle.form.specs.Parse.{Parsed, ok, bad}
use Rattle.text_rows.specs.inner.Cells.{Head, Whole, Wholes, body, listed, texts, stops}
use Rattle.text_rows.specs.declared.inner.Cursor.{Cursor}

-- r says what p is: a value and what is left of s, from a position on, or broken
abbrev pub Told : List ℕ → Parsed → Option (ℕ × ℕ) → Type 0
Told s p (Some (v, next)) = (p ≡ ok v (drop next s)) × (next ≤ length s)
Told s p None = p ≡ bad

-- a field of s at `at`, with the byte `end` behind it; next is the position after that byte
abbrev pub CellIs : List ℕ → ℕ → ℕ → Option (ℕ × ℕ) → Type 0
CellIs s at end (Some (v, next)) = (v ≤ missing) × (at + 2 ≤ next) × (next ≤ length s) × (drop at s ≡ field v ++ end ∷ drop next s)
CellIs s at end None = (v : ℕ) (rest : List ℕ) → v ≤ missing → drop at s ≡ field v ++ end ∷ rest → ⊥

-- The rows of a list stand in s from `at` on: the values vs, stored in d from `from` on, and the empty line. k is the position behind the last
-- value, next that behind the empty line.
pub record RowsRead (s : List ℕ) (at last : ℕ) (d : List ℕ) (from : ℕ) (d' : List ℕ) (k next : ℕ) : Type 0 where
  pub vs : List ℕ
  pub whole : Whole last vs
  pub text : drop at s ≡ body last vs ++ drop next s
  pub inside : next ≤ length s
  pub count : k ≡ from + length vs
  pub put : d' ≡ sets d from vs

abbrev pub RowsIs : List ℕ → ℕ → ℕ → List ℕ → ℕ → List ℕ → Option Cursor → Type 0
RowsIs s at last d from d' (Some c) = RowsRead s at last d from d' c.count c.at
RowsIs s at last d from d' None = (vs rest : List ℕ) → Whole last vs → drop at s ≡ body last vs ++ rest → ⊥

-- the line `name` stands in s at `at`, or does not
abbrev pub LineIs : List ℕ → ℕ → List ℕ → Option ℕ → Type 0
LineIs s at name (Some next) = (drop at s ≡ name ++ 10 ∷ drop next s) × (next ≤ length s)
LineIs s at name None = (rest : List ℕ) → drop at s ≡ name ++ 10 ∷ rest → ⊥

-- the list h stands in s at `at`: the values vs, stored in d from k on
pub record ListRead (s : List ℕ) (h : Head) (at k : ℕ) (d : List ℕ) (at' k' : ℕ) (d' : List ℕ) : Type 0 where
  pub vs : List ℕ
  pub whole : Whole h.last vs
  pub text : drop at s ≡ listed h vs ++ drop at' s
  pub inside : at' ≤ length s
  pub count : k' ≡ k + length vs
  pub put : d' ≡ sets d k vs

-- a list more: from the cursor c to the cursor r
abbrev pub ListIs : List ℕ → Head → List ℕ → List ℕ → Cursor → Option Cursor → Type 0
ListIs s h d d' c (Some r) = ListRead s h c.at c.count d r.at r.count d'
ListIs s h d d' c None = (vs rest : List ℕ) → Whole h.last vs → drop c.at s ≡ listed h vs ++ rest → ⊥

-- the room that reading on from c takes: a value has two bytes at least
abbrev pub Room : List ℕ → Cursor → Type 0
Room s c = (c.at ≤ length s) × (length s + 2 * c.count ≤ c.at + 65536)

-- the same where a reading still stands
abbrev pub RoomAfter : List ℕ → Option Cursor → Type 0
RoomAfter s (Some c) = Room s c
RoomAfter s None = Unit {0}

-- before the first list
abbrev pub start_of_text : Cursor
start_of_text = record { at = 0; count = 0 }

-- the lists hs stand in s at `at`
pub record AllRead (s : List ℕ) (hs : List Head) (at k : ℕ) (d e : List ℕ) (j : ℕ) (at' k' : ℕ) (d' e' : List ℕ) : Type 0 where
  pub vss : List (List ℕ)
  pub wholes : Wholes hs vss
  pub text : drop at s ≡ texts hs vss ++ drop at' s
  pub inside : at' ≤ length s
  pub count : k' ≡ k + length (flatten vss)
  pub put : d' ≡ sets d k (flatten vss)
  pub noted : e' ≡ sets e j (stops k vss)

abbrev pub AllIs : List ℕ → List Head → List ℕ → List ℕ → List ℕ → List ℕ → ℕ → Cursor → Option Cursor → Type 0
AllIs s hs d d' e e' j c (Some r) = AllRead s hs c.at c.count d e j r.at r.count d' e'
AllIs s hs d d' e e' j c None = (vss : List (List ℕ)) (rest : List ℕ) → Wholes hs vss → drop c.at s ≡ texts hs vss ++ rest → ⊥

-- several lists more: from the cursor c to the cursor r
pub record Steps (s : List ℕ) (hs : List Head) (d d' e e' : List ℕ) (j : ℕ) (c : Cursor) (r : Option Cursor) : Type 0 where
  pub all : AllIs s hs d d' e e' j c r
  pub room : RoomAfter s r
