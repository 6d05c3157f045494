-- `sort_table`: visits of the runtime and of the entries, over zeroed marks and numbers that hold the mark.
-- Assumes nothing.
use Rattle.std.proofs.Common.{◌≡◌, ℕ, ◌+◌, length, take, replicate, ap, ◌∙◌, arith}
use lib.Seq.{length-take-le}
use Rattle.lists.specs.Words.{zeros}
use Rattle.walk.proofs.Visits.{zeros-replicate}
use Rattle.tables.specs.Readings.{modules}
use Rattle.tables.specs.Project.{missing}
use Rattle.current_columns.specs.AsProject.{project}
use Rattle.sort_visit.proofs.Fits.{accepted_fit}
use Rattle.sort_modules.proofs.Numbers.{walk-sorted}
use Rattle.sort_modules.proofs.inner.sort_table.Goals as goal

pub visit_roots-last-requires : goal.visit_roots-last-requires
unfolding project
visit_roots-last-requires c =
    let n = c.modules.result in
    let few = c.modules.ensures.few in
    let part : length {A = ℕ} (take (n + 1) (replicate 4097 0)) ≡ n + 1 = length-take-le (n + 1) (replicate 4097 0) (omega arith) in
    let z : zeros c.fill.new.slots ≡ length c.args.marks.now = ap zeros c.fill.ensures ∙ zeros-replicate (length c.args.marks.now) in
    let met : length c.fill.new.slots ≡ modules c.args.current.now = omega arith in
    let accepted = c.modules.ensures.accepted in
    rw (c.columns-columns.ensures.same, met) (
      record { fit = accepted_fit c.args.current.now accepted; firsts = rw (← c.columns-columns.ensures.same, ← c.columns.view_is) c.first_rows.ensures; places = omega (arith, part) },
      accepted.values.runtime,
      accepted.values.entry,
      record { places = omega arith; lists = omega arith; counts = omega arith },
    )

pub returns : goal.returns
returns c =
    let n : ℕ = modules c.args.current.now in
    let unmet : c.fill.new.slots ≡ replicate n 0 = c.fill.ensures ∙ ap (λ (k : ℕ). replicate k 0) c.requires.places.size in
    let unnumbered : c.fill-2.new.slots ≡ replicate n missing = c.fill-2.ensures ∙ ap (λ (k : ℕ). replicate k missing) (omega arith) in
    walk-sorted c.args.current.now (omega arith) (c.fill-3.ensures ∙ ap (λ (k : ℕ). replicate k 0) (omega arith)) (rw (unmet, unnumbered, c.columns-columns.ensures.same) at c.visit_roots-last.ensures)
