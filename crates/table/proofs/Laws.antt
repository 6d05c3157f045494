-- What a column is, by its bounds, and a project read with its own columns.
-- Assumes nothing.
use mathlib.Core.Path.{◌≡◌, refl}
use Rattle.std.specs.Prelude.{Option, None, Some}
use mathlib.Core.Bool.{Bool, true, false, cond}
use mathlib.Core.List.{List}
use Prim.Native.Nat.{ℕ, ◌+◌, ◌-◌, ◌≤◌}
use lib.ListN.{length, get_or, take, drop}
use borrow.Author.Tests.{le-leb}
use Rattle.tables.specs.Project.{Project}
use Rattle.tables.specs.Readings.{modules}
use Rattle.tables.specs.Refusal.{refusal}
use Rattle.tables.specs.Accepted.{Accepted}
use Rattle.tables.specs.declared.Refusal.{Refusal}
use Rattle.tables.specs.declared.Refusal.TheVariants.{ListSize, ColumnValue}
use Rattle.tables.proofs.Accepted.{accepted}
use Rattle.table.specs.Table.{part, column_at, read, current, bounds_fit, table_refusal, tested_too, lent_as}
use Rattle.names.specs.Names.{names_sized, names_in}
use Rattle.table.proofs.Current.{current-accepted}

module _ (bounds columns : List ℕ) (k start end : ℕ) (from : start ≡ get_or bounds k 0) (to : end ≡ get_or bounds (k + 1) 0) where
  pub column-part : start ≤ end → end ≤ length columns → take (end - start) (drop start columns) ≡ column_at bounds columns k
  unfolding column_at part
  column-part a b = rw (← from, ← to, le-leb start end a, le-leb end (length columns) b)

-- a project read with its own columns is the project
pub read-own : (p : Project) → read p p.record_module p.record_kind p.record_target p.dependency p.member ≡ p
unfolding read
read-own p = refl

-- what refuses a table

module _ (bounds columns : List ℕ) (p : Project) where
  pub table-unfit : bounds_fit bounds columns ≡ false → Some ListSize ≡ table_refusal bounds columns p
  table-unfit e = rw e

  pub table-fit : bounds_fit bounds columns ≡ true → refusal p ≡ table_refusal bounds columns p
  table-fit e = rw e

-- nothing refuses with two further tests: nothing does without them, and both are passed
pub none-tested : (r : Option Refusal) (one two : Bool) → tested_too r one two ≡ None → (r ≡ None) × (one ≡ true) × (two ≡ true)
none-tested None true true z = (refl, refl, refl)
none-tested None true false z = cc
none-tested None false two z = cc
none-tested (Some x) one two z = none x one two z
  where
    none : (x : Refusal) (one two : Bool) → tested_too (Some x) one two ≡ None → (Some x ≡ None) × (one ≡ true) × (two ≡ true)
    none ListSize one two z = cc
    none ColumnValue true two z = cc
    none x false two z = cc
    none x true false z = cc
    none x true true z = cc

-- what a lent project that nothing refuses has

module _ (bounds columns names : List ℕ) (p : Project) where
  passed : (lent_as bounds columns names p).refused ≡ None → (table_refusal bounds columns p ≡ None) × (names_sized names ≡ true) × (names_in (modules p) names ≡ true)
  passed z = none-tested (table_refusal bounds columns p) (names_sized names) (names_in (modules p) names) z

  pub lent-tested : (lent_as bounds columns names p).refused ≡ None → refusal p ≡ None
  lent-tested z = go (bounds_fit bounds columns) (passed z).0
    where
      go : (b : Bool) → cond b (refusal p) (Some ListSize) ≡ None → refusal p ≡ None
      go true e = e
      go false e = cc

  pub lent-accepted : (lent_as bounds columns names p).refused ≡ None → Accepted p
  lent-accepted z = accepted p (lent-tested z)

  -- and so is what is read of it
  pub lent-current : (lent_as bounds columns names p).refused ≡ None → Accepted (current p)
  lent-current z = current-accepted p (lent-tested z)

  -- and its names are those of its modules, or none at all
  pub lent-names : (lent_as bounds columns names p).refused ≡ None → names_in (modules p) names ≡ true
  lent-names z = (passed z).2
