-- The steps over an input, in pieces, against the definition on the whole. `proofs/Whole.antt` inhabits the statement.
-- Assumes nothing.
use Rattle.std.specs.Prelude.{◌≡◌, ℕ, length}
use mathlib.Core.List.{List, [], ◌++◌, foldl, flatten}
use Rattle.file_names.specs.declared.Names.{Names}
use Rattle.file_names.specs.Asked.{Asked, asked}
use Rattle.file_names.specs.Steps.{begun, turn_at, names_after, kept_after, finished, due}

-- what is known, the bytes kept, and what was asked for so far
pub record Run : Type 0 where
  pub names : Names
  pub kept : List ℕ
  pub told : List Asked

-- a byte taken
abbrev pub took : Run → ℕ → Run
took r b = record {
  names = names_after r.names b;
  kept = kept_after r.names b r.kept;
  told = r.told ++ due (turn_at r.names b) (kept_after r.names b r.kept);
}

-- a piece taken, byte by byte
abbrev pub took_piece : Run → List ℕ → Run
took_piece r piece = foldl took r piece

-- all that was asked for when the input ends
abbrev pub told_in_all : Run → List Asked
told_in_all r = r.told ++ due (finished r.names) r.kept

-- in whatever pieces an input comes, and whatever stood in the 255 places before, what it asks for is that of the whole
unfoldable pub PiecesAskAsTheWhole : Type 0
PiecesAskAsTheWhole =
    (name : List ℕ) → length name ≡ 255 → (pieces : List (List ℕ))
    → told_in_all (foldl took_piece (record { names = begun; kept = name; told = [] }) pieces) ≡ asked (flatten pieces)
