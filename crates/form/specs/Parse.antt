-- For the contracts of the reader: a field read from the front of a text, which is `field`'s inverse by two laws of proofs/Fields, and the
-- numbers that have a field.
-- Assumes nothing.
use Rattle.std.specs.Prelude.{cond, List, [], ◌∷◌, ℕ, ◌+◌, ◌-◌, ◌*◌, ◌≤◌, ltb, leb, eqb}
use Rattle.tables.specs.Project.{missing}

-- a value and the text behind it, or no field
pub data Parsed : Type 0 where
  ok : ℕ → List ℕ → Parsed
  bad : Parsed

-- further digits behind a number v above 0, as far as they go
unfoldable pub further : ℕ → List ℕ → Parsed
further v [] = ok v []
further v (b ∷ s) =
    cond (ltb b 48) (ok v (b ∷ s))
    (cond (ltb 57 b) (ok v (b ∷ s))
    (cond (leb missing (v * 10 + (b - 48))) bad (further (v * 10 + (b - 48)) s)))

-- a field at the front
unfoldable pub front : List ℕ → Parsed
front [] = bad
front (b ∷ s) =
    cond (eqb b 45) (ok missing s)
    (cond (eqb b 48) (ok 0 s)
    (cond (ltb b 49) bad
    (cond (ltb 57 b) bad (further (b - 48) s))))

-- every value is a number below the mark, or the mark
pub data Fit : List ℕ → Type 0 where
  none : Fit []
  more : {v : ℕ} {vs : List ℕ} → v ≤ missing → Fit vs → Fit (v ∷ vs)
