-- `circle_gathering::inner::gather_circles`: the rows lead to the sort's targets, each once.
-- Assumes nothing.
use Rattle.std.specs.Prelude.{◌≡◌, ℕ, List, ◌∷◌, length}
use mathlib.Core.Path.{refl, ap, subst, ◌∙◌}
use Rattle.tables.specs.Readings.{modules}
use Rattle.current_columns.specs.AsProject.{project}
use Rattle.sort_modules.specs.Sort.{statics_of}
use Rattle.circle_search.specs.Circles.{circles}
use Rattle.circle_search.proofs.Once.{circles-once}
use Rattle.circle_gathering.specs.Gathering.{Gathered}
use Rattle.circle_gathering.proofs.Leading.{led-in_parts, led-targets, led-leads, led-single}
use Rattle.circle_gathering.proofs.inner.gather_circles.Goals as goal

pub write_circles-requires : goal.write_circles-requires
unfolding project
write_circles-requires c =
    let l = led-in_parts c.requires.fit c.requires.importers (rw (← c.columns.view_is) c.first_rows.ensures) (rw (← c.columns.view_is) c.first_rows.auto.starts) c.lead_rows.ensures (rw (← c.columns.view_is) c.lead_rows.auto.leads) in
    let met : length c.columns.inside.normal.now ≡ modules c.args.columns.now = rw (← c.columns.view_is) refl in
    rw met record { leads = led-leads l c.requires.fit.few c.requires.fit.rows; single = led-single l; runtimes = c.requires.roots.0; entries = c.requires.roots.1; rows = c.requires.roots.2 }

pub returns : goal.returns
unfolding project
returns c =
    let a = c.args in
    let p = a.columns.now in
    let l = led-in_parts c.requires.fit c.requires.importers (rw (← c.columns.view_is) c.first_rows.ensures) (rw (← c.columns.view_is) c.first_rows.auto.starts) c.lead_rows.ensures (rw (← c.columns.view_is) c.lead_rows.auto.leads) in
    let met : length c.columns.inside.normal.now ≡ modules c.args.columns.now = rw (← c.columns.view_is) refl in
    let targets = statics_of p.dynamic p.normal p.record_module p.record_kind p.record_target in
    let roots = p.runtime ∷ p.entry in
    let v = c.write_circles in
    subst (λ (cs : List (List ℕ)). Gathered cs a.paths.now a.lengths.now v.result v.new.paths v.new.lengths)
    (ap (λ (g : ℕ → List ℕ). circles g (modules p) roots) (led-targets l) ∙ circles-once targets (modules p) roots) (rw met at v.ensures)
