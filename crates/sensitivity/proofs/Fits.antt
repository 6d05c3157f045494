-- The columns of an accepted project that sensitivity reads fit each other.
-- Assumes nothing.
use mathlib.Core.Path.{sym, ◌∙◌}
use native.Mathlib.Omega.{arith}
use Rattle.tables.specs.Project.{Project}
use Rattle.tables.specs.Accepted.{Accepted}
use Rattle.sensitivity.specs.Ready.{Records, Flags, Statements, UseRows}

module _ (p : Project) (ok : Accepted p) where
  pub flags_fit : Flags p
  flags_fit = record { includeds = ok.sizes.included; flags = ok.sizes.sensitive }

  pub records_fit : Records p
  records_fit = record { wraps = ok.sizes.wrap; targets = ok.sizes.record_target ∙ sym ok.sizes.record_kind }

  pub uses_fit : UseRows p
  uses_fit = record {
    rows = sym ok.sizes.use_record;
    few = omega (arith, ok.sizes.use_record, ok.sizes.use_statement);
    owned = ok.values.use_statement;
    named = λ i l. omega (arith, ok.values.use_record i l, ok.sizes.record_kind);
  }

  pub statements_fit : Statements p
  statements_fit = record { rising = ok.rises.statement_module; includeds = ok.sizes.statement_included; few = ok.sizes.statement_module }

pub ruleset fits = (flags_fit, records_fit, uses_fit, statements_fit)
