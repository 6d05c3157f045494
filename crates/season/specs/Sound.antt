-- What holds while a report is made: the totals are those of as many projects as were met, so that no sum overflows.
-- Assumes nothing.
use Rattle.std.specs.Prelude.{◌≡◌, ℕ, ◌-◌, ◌≤◌, cond, Option, None, Some, Result}
use Rattle.file_names.specs.declared.Names.{Names}
use Rattle.tables.specs.declared.Refusal.{Refusal}
use Rattle.share_totals.specs.declared.Share.{Share}
use Rattle.share_totals.specs.Sums.{Totals, added}
use Rattle.share_totals.specs.Within.{Fits, Within}

-- how many projects were met
abbrev pub met : Names → ℕ
met n = cond n.over 10001 (10000 - n.left)

pub record Sound (n : Names) (t : Totals) : Type 0 where
  pub left : n.left ≤ 10000
  pub totals : Within (met n) t

-- what is due can be added
abbrev pub Room : Option (Result ℕ Refusal) → Totals → Type 0
Room None t = Unit {0}
Room (Some turn) t = Within 10000 t

-- and was added
abbrev pub Acted : Option (Result ℕ Refusal) → Totals → Totals → Type 0
Acted None t r = r ≡ t
Acted (Some turn) t r = (o : Result Share Refusal) × Fits o × (r ≡ added t o)
