-- `worklist_step::inner::step`: no more are listed than there are modules, so that the place of one plus 1 is a number; and what is listed is what the two parts list.
use Rattle.std.proofs.Common.{arith}
use mathlib.Core.Logic.{inl, inr}
use Rattle.request_queue.proofs.Growing.{listed-fits, grown-on, kept-on}
use Rattle.worklist_step.proofs.inner.step.Goals as goal

pub overflow_cast-k : goal.overflow_cast-k
overflow_cast-k c = record { fits = omega (arith, c.requires.steppable.ahead, c.requires.steppable.few, listed-fits c.len.ensures.listed) }

pub overflow_add-k : goal.overflow_add-k
overflow_add-k c = record { fits = omega (arith, c.requires.steppable.ahead, c.requires.steppable.few, listed-fits c.len.ensures.listed) }

pub returns : goal.returns
returns c = record {
  met = c.reach.ensures.kept;
  list = kept-on c.list_requests.ensures.kept c.list_asked.ensures.kept;
  stepped = record {
    reached = rw c.at-x.ensures.member at c.reach.ensures.reached;
    grown =
        grown-on (λ m g. inl g) (λ m g. inr g) (λ m g. g) (rw (c.marks.ensures, c.since.ensures, c.len-before.ensures.count) at c.list_requests.ensures.grown) c.list_asked.ensures.grown;
  };
}
