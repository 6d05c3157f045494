-- `close_once`: a pass of each rule in turn.
-- Assumes nothing.
use Rattle.std.proofs.Common.{sym, ◌∙◌}
use Rattle.plan_rounds.proofs.Rounds.{once, after-suffixes, after-members, after-imports, leading-members}
use Rattle.plan_rounds.proofs.inner.close_once.Goals as goal

pub pass_suffixes-suffixes-requires : goal.pass_suffixes-suffixes-requires
pass_suffixes-suffixes-requires c =
    let joined = rw c.sets.view_is at c.sets.invariant in
    record {
      same = joined.reached_set ∙ sym joined.root_sets;
      plan = rw joined.root_sets c.requires.kept.marked;
      settled = rw joined.root_sets c.requires.kept.settling;
    }

pub pass_members-cyclic-requires : goal.pass_members-cyclic-requires
pass_members-cyclic-requires c =
    let joined = rw c.sets.view_is at c.sets.invariant in
    let suffixes = rw joined.root_sets at c.pass_suffixes-suffixes.ensures in
    rw c.sets.view_is (after-suffixes c.requires.kept suffixes)

pub pass_importers-imports-requires : goal.pass_importers-imports-requires
pass_importers-imports-requires c =
    let joined = rw c.sets.view_is at c.sets.invariant in
    let suffixes = rw joined.root_sets at c.pass_suffixes-suffixes.ensures in
    let cyclic = rw c.sets.view_is at c.pass_members-cyclic.ensures in
    rw joined.reached_set
    (record {
      edges = joined.edged;
      plan = after-members c.requires.kept suffixes cyclic;
      leads = leading-members c.requires.kept suffixes cyclic;
    })

pub pass_readers-readers-requires : goal.pass_readers-readers-requires
pass_readers-readers-requires c =
    let joined = rw c.sets.view_is at c.sets.invariant in
    let suffixes = rw joined.root_sets at c.pass_suffixes-suffixes.ensures in
    let cyclic = rw c.sets.view_is at c.pass_members-cyclic.ensures in
    let imports = rw joined.reached_set at c.pass_importers-imports.ensures in
    rw joined.reached_set (after-imports c.requires.kept suffixes cyclic imports)

pub returns : goal.returns
returns c =
    let joined = rw c.sets.view_is at c.sets.invariant in
    let suffixes = rw joined.root_sets at c.pass_suffixes-suffixes.ensures in
    let cyclic = rw c.sets.view_is at c.pass_members-cyclic.ensures in
    let imports = rw joined.reached_set at c.pass_importers-imports.ensures in
    let readers = rw joined.reached_set at c.pass_readers-readers.ensures in
    once c.requires.kept suffixes cyclic imports c.pass_suffixes-suffixes.auto.settled readers
