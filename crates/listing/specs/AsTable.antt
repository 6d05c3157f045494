-- What reading a text as a table gives.
-- Assumes nothing.
use Rattle.std.specs.Prelude.{◌≡◌, List, ℕ, Result, Ok, Err}
use Rattle.tables.specs.Project.{Project}
use Rattle.tables.specs.Refusal.{refusal}
use Rattle.tables.specs.declared.Refusal.{Refusal}
use Rattle.tables.specs.declared.Refusal.TheVariants.{Text}
use Rattle.table.specs.declared.Table.{Table}
use Rattle.table.specs.Table.{current}
use Rattle.table.specs.Lending.{as_lent}
use Rattle.named_form.specs.NamedForm.{NameList, lent_names}
use Rattle.listing.specs.Reading.{IsText}

-- the project whose text it is, lent with its names; or 7 where it is no project's
abbrev pub ReadText : List ℕ → Result Table Refusal → Type 0
ReadText s (Ok t) =
    (p : Project) × (l : NameList) × IsText s p l × (as_lent t ≡ record { refused = refusal p; project = current p }) × (t.names.now ≡ lent_names l)
ReadText s (Err e) = (e ≡ Text) × ((p : Project) (l : NameList) → IsText s p l → ⊥)
