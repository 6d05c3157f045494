-- What refuses a project, by the first test that fails.
-- Assumes nothing.
use Rattle.std.specs.Prelude.{◌≡◌, true, false, None, Some}
use Rattle.tables.specs.Project.{Project}
use Rattle.tables.specs.Refusal.{sizes_fit, values_fit, rows_rise, rows_agree, newer_fits, refusal}
use Rattle.tables.specs.declared.Refusal.TheVariants.{ListSize, ColumnValue, RowOrder, RowConflict, NewerRow}

module _ (p : Project) where
  pub sizes-refused : sizes_fit p ≡ false → Some ListSize ≡ refusal p
  unfolding refusal
  sizes-refused e = rw e

  pub values-refused : sizes_fit p ≡ true → values_fit p ≡ false → Some ColumnValue ≡ refusal p
  unfolding refusal
  values-refused e f = rw (e, f)

  pub order-refused : sizes_fit p ≡ true → values_fit p ≡ true → rows_rise p ≡ false → Some RowOrder ≡ refusal p
  unfolding refusal
  order-refused e f g = rw (e, f, g)

  pub rows-refused : sizes_fit p ≡ true → values_fit p ≡ true → rows_rise p ≡ true → rows_agree p ≡ false → Some RowConflict ≡ refusal p
  unfolding refusal
  rows-refused e f g h = rw (e, f, g, h)

  pub newer-refused : sizes_fit p ≡ true → values_fit p ≡ true → rows_rise p ≡ true → rows_agree p ≡ true → newer_fits p.newer ≡ false → Some NewerRow ≡ refusal p
  unfolding refusal
  newer-refused e f g h i = rw (e, f, g, h, i)

  pub none-refused : sizes_fit p ≡ true → values_fit p ≡ true → rows_rise p ≡ true → rows_agree p ≡ true → newer_fits p.newer ≡ true → None ≡ refusal p
  unfolding refusal
  none-refused e f g h i = rw (e, f, g, h, i)
