-- What is read of a project is a project like any other.
-- Assumes nothing.
use Rattle.std.specs.Prelude.{None}
use mathlib.Core.Path.{◌≡◌, refl, sym, ◌∙◌}
use mathlib.Core.Bool.{Bool, true, ◌&&◌}
use mathlib.Core.List.{List, [], ◌∷◌}
use Prim.Native.Nat.{ℕ, suc}
use native.Mathlib.Omega.{arith}
use borrow.Author.Tests.{lt-ltb}
use Rattle.lists.proofs.Laws.{and_parts}
use Rattle.tables.specs.Project.{Project, missing}
use Rattle.tables.specs.Readings.{modules, chunks}
use Rattle.tables.specs.Refusal.{sized, sizes_fit, below, pair_in, entries_in, code_in, symbols_in, values_fit, rows_rise, rows_agree, refusal}
use Rattle.tables.specs.Accepted.{Below}
use Rattle.tables.proofs.Accepted.{all-passed, accepted}
use Rattle.tables.proofs.Number.{none-refused}
use Rattle.table.specs.Table.{read, current}
use Rattle.table.proofs.Current.{current-tested}
use Rattle.table.proofs.Laws.{lent-tested}
use Rattle.arrangement.specs.OfProject.{members_read, named}
use Rattle.arrangement.proofs.OfProject.{read-size, read-replacing}
use Rattle.replacement.proofs.Chains.{latest-end, latest-next, latest-in, latest-last}
use Rattle.promises.specs.AsRead.{ChainsEnd, WhatIsReadIsAccepted, ChangesAreRead}

pub chains-end : ChainsEnd
unfolding ChainsEnd
chains-end newer fits m = record {
  stays = latest-end newer m;
  goes_on = latest-next newer fits m;
  there = latest-in newer fits m;
  last = latest-last newer fits m;
}

-- a column below a number passes the test
below-passes : (n : ℕ) (xs : List ℕ) → Below n xs → below n xs ≡ true
unfolding below
below-passes n [] b = refl
below-passes n (x ∷ xs) b = rw (lt-ltb x n (b 0 (omega arith))) (below-passes n xs (λ i l. b (suc i) (omega arith)))

-- one test in the place of another
one-part : (a b c d t t' e : Bool) → (t ≡ true → t' ≡ true) → (a && (b && (c && ((d && t) && e)))) ≡ true → (a && (b && (c && ((d && t') && e)))) ≡ true
one-part a b c d t t' e x z =
    let z1 = and_parts a (b && (c && ((d && t) && e))) z in
    let z2 = and_parts b (c && ((d && t) && e)) z1.1 in
    let z3 = and_parts c ((d && t) && e) z2.1 in
    let z4 = and_parts (d && t) e z3.1 in
    let z5 = and_parts d t z4.0 in
    rw (z1.0, z2.0, z3.0, z5.0, x z5.1, z4.1)

module _ (p : Project) (names : List ℕ) (z : refusal p ≡ None) where
  sizes-named : sizes_fit (named p names) ≡ sizes_fit p
  unfolding sizes_fit sized named read
  sizes-named = rw (read-size p (accepted p z) names)

  members-in : below (modules p) (members_read p names) ≡ true
  members-in = below-passes (modules p) (members_read p names) (read-replacing p (accepted p z) names).member_values

  values-named : values_fit p ≡ true → values_fit (named p names) ≡ true
  unfolding values_fit named read
  values-named =
      one-part (code_in p) (symbols_in p) (below missing p.order) (below (chunks p) p.member_chunk) (below (modules p) p.member) (below (modules p) (members_read p names)) (pair_in (chunks p) (chunks p) p.import_chunk p.imports && (entries_in (modules p) (chunks p) p.entry p.entry_chunk && below (modules p) p.seed))
      (λ e. members-in)

  named-tested : refusal (named p names) ≡ None
  unfolding rows_rise rows_agree named read
  named-tested = let t = all-passed p z in sym (none-refused (named p names) (sizes-named ∙ t.0) (values-named t.1) t.2 t.3 t.4)

pub what-is-read-is-accepted : WhatIsReadIsAccepted
unfolding WhatIsReadIsAccepted
what-is-read-is-accepted bounds columns names p z =
    let e = current-tested p (lent-tested bounds columns names p z) in (e, named-tested (current p) names e)

pub changes-are-read : ChangesAreRead
unfolding current read
changes-are-read = record { seeds = λ p rows. refl; imports = λ p froms tos. refl }
