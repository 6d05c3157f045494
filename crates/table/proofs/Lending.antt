-- What is known of a table that passes the tests.
-- Assumes nothing.
use Rattle.std.specs.Prelude.{◌≡◌, ℕ, ◌≤◌, true, length, None, Ok}
use native.Mathlib.Omega.{arith}
use Rattle.tables.specs.Readings.{modules}
use Rattle.tables.specs.Refusal.{module_limit}
use Rattle.tables.specs.Accepted.{Accepted}
use Rattle.tables.specs.Answers.{tested}
use Rattle.tables.proofs.Answering.{tested-passed}
use Rattle.names.specs.Names.{names_in}
use Rattle.table.specs.declared.Table.{Table}
use Rattle.table.specs.Table.{column_at, table, read, current}
use Rattle.table.specs.Lending.{as_lent, written}
use Rattle.table.proofs.Laws.{lent-accepted, lent-current, lent-names}

module _ (t : Table) (passed : Ok tt ≡ tested (as_lent t).refused) where
  pub none-refused : (as_lent t).refused ≡ None
  none-refused = tested-passed (as_lent t).refused passed

  pub written-accepted : Accepted (written t)
  written-accepted = lent-accepted t.bounds.now t.columns.now t.names.now (written t) none-refused

  pub current-accepted : Accepted (current (written t))
  current-accepted = lent-current t.bounds.now t.columns.now t.names.now (written t) none-refused

  pub names-fit : names_in (modules (current (written t))) t.names.now ≡ true
  unfolding table read current
  names-fit = lent-names t.bounds.now t.columns.now t.names.now (written t) none-refused

  -- as many rows as the table has modules
  module _ {n : ℕ} (e : n ≡ length (column_at t.bounds.now t.columns.now 0)) where
    pub counts-modules : n ≡ modules (current (written t))
    unfolding table read current
    counts-modules = e

    pub modules-few : n ≤ module_limit
    modules-few = omega (arith, counts-modules, current-accepted.sizes.normal)
