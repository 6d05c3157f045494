-- The outcome of a file's text.
-- Assumes nothing.
use Rattle.std.specs.Prelude.{◌≡◌, ◌⊎◌, List, ℕ, Result, Err}
use Rattle.tables.specs.Project.{Project}
use Rattle.tables.specs.Refusal.{refusal}
use Rattle.table.specs.Table.{current}
use Rattle.arrangement.specs.OfProject.{named}
use Rattle.named_form.specs.NamedForm.{NameList, lent_names}
use Rattle.listing.specs.Reading.{IsText}
use Rattle.tables.specs.declared.Refusal.{Refusal}
use Rattle.tables.specs.declared.Refusal.TheVariants.{Text}
use Rattle.share_totals.specs.declared.Share.{Share}
use Rattle.shares.specs.Promise.{outcome_of}

-- that of the project whose text it is, as it is read with its names, or 7 where it is no project's
abbrev pub TextOutcome : List ℕ → Result Share Refusal → Type 0
TextOutcome s r =
    ((p : Project) × (l : NameList) × IsText s p l × (r ≡ outcome_of (record { refused = refusal p; project = named (current p) (lent_names l) })))
    ⊎ (((p : Project) (l : NameList) → IsText s p l → ⊥) × (r ≡ Err Text))
