-- The statements of specs/Worklists, inhabited.
-- Assumes nothing.
use mathlib.Core.Path.{refl, ap, ◌∙◌}
use lib.ListN.{length, take, drop}
use lib.Seq.{take_at}
use Rattle.tables.specs.Readings.{modules}
use Rattle.std.specs.Prelude.{Option}
use Rattle.tables.specs.declared.Refusal.{Refusal}
use Rattle.tables.specs.Answers.{answer, after}
use Rattle.takings.specs.Taking.{set_of}
use Rattle.takings.proofs.Takings.{last}
use Rattle.takings_from_seeds.proofs.Runs.{run_length}
use Rattle.worklist_run.proofs.Planned.{takings-plan}
use Rattle.worklist_promises.specs.Worklists.{EveryListHoldsWhatIsAsked, WorklistsAreShort, WorklistsGiveThePlan, TakingsCallsListThePlan}

pub every_list_holds_what_is_asked : EveryListHoldsWhatIsAsked
unfolding EveryListHoldsWhatIsAsked
every_list_holds_what_is_asked p seeds list lengths r k l = last (r.each k l)

pub worklists_are_short : WorklistsAreShort
unfolding WorklistsAreShort
worklists_are_short = run_length

pub worklists_give_the_plan : WorklistsGiveThePlan
unfolding WorklistsGiveThePlan
worklists_give_the_plan p seeds list lengths r = takings-plan p seeds list r.all

pub takings_calls_list_the_plan : TakingsCallsListThePlan
unfolding TakingsCallsListThePlan WorklistsGiveThePlan
takings_calls_list_the_plan t seeds list lengths r list' lengths' h z = record {
  count = length h.members;
  counted = h.answered ∙ ap (λ (v : Option Refusal). answer v (length h.members)) z;
  planned =
      ap (set_of (modules t.project)) (ap (take (length h.members)) (h.listed ∙ ap (λ (v : Option Refusal). after v list h.members) z) ∙ take_at h.members (drop (length h.members) list) (length h.members) refl)
      ∙ worklists_give_the_plan t.project seeds h.members h.sizes (h.run z);
}
