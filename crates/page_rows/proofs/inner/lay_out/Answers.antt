-- `page_rows::inner::lay_out`: what is listed stands at the front.
-- Assumes nothing.
use Rattle.std.proofs.Common.{arith}
use Rattle.std.specs.Prelude.{ℕ, List, length, take, drop}
use mathlib.Core.Path.{sym, ap, ◌∙◌}
use lib.ListN.{length-append}
use lib.Seq.{take_at}
use Rattle.lists.specs.Words.{keep}
use Rattle.lists.proofs.Laws.{length-keep}
use Rattle.page_rows.specs.inner.Steps.{unplaced}
use Rattle.page_rows.proofs.Places.{unplaced-others}
use Rattle.page_rows.proofs.inner.lay_out.Goals as goal

pub list_unplaced-requires-clause-room : goal.list_unplaced-requires-clause-room
list_unplaced-requires-clause-room c = omega (arith, length-keep (unplaced c.place_members.new.places) c.args.actual.now)

pub returns : goal.returns
returns c =
    let a = c.args in
    let done = c.list_unplaced in
    let places : List ℕ = c.place_members.new.places in
    let list : List ℕ = keep (unplaced places) a.actual.now in
    record {
      expected_ranks = c.place_members.ensures;
      actual_ranks = c.place_members-2.ensures;
      rest =
          ap (take done.result) done.ensures.written
          ∙ take_at list _ done.result (sym done.ensures.count)
          ∙ unplaced-others a.actual.now (length a.expected_places.now) c.requires.orders.1.members a.expected.now places c.place_members.auto.places c.place_members.ensures;
      room = omega (arith, done.ensures.count, ap length done.ensures.written, length-append list (drop done.result a.others.now));
    }
