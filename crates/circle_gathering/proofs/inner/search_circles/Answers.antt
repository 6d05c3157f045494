-- `circle_gathering::inner::search_circles`: from no module begun.
-- Assumes nothing.
use Rattle.std.proofs.Common.{ℕ, ◌<◌, List, [], ◌∷◌, sym, subst}
use mathlib.Core.Logic.{⊎_elim}
use mathlib.Core.List.Memᴰ
use Rattle.lists.proofs.Fronts.{take-zeros}
use Rattle.tables.proofs.Accepted.{below-mem}
use Rattle.tables.specs.Refusal.{module_limit}
use Rattle.circle_search.specs.inner.Search.{Searches}
use Rattle.circle_search.proofs.States.{circles-made}
use Rattle.circle_visit.specs.Visit.{listed, write, led_by, held}
use Rattle.circle_gathering.proofs.Leading.{led-inside}
use Rattle.circle_gathering.proofs.inner.search_circles.Goals as goal

pub returns : goal.returns
returns c =
    let a = c.args in
    let p = a.columns.now in
    let v = c.meet_roots in
    let roots = p.runtime ∷ p.entry in
    let last = held v.new.states v.new.stack 0 v.new.paths v.new.lengths v.result.count v.result.used in
    circles-made (led_by a.starts.now a.led.now) write a.n (led-inside c.requires.leads) c.requires.single roots
    (λ y h. ⊎_elim (λ q. subst (λ (x : ℕ). x < a.n) (sym q) c.requires.runtimes) (λ q. below-mem p.entry c.requires.entries q) (Memᴰ.cases_cons h))
    (listed a.paths.now a.lengths.now 0 0)
    {t = last}
    (subst (λ (z : List ℕ). Searches (led_by a.starts.now a.led.now) write (record { states = z; begun = []; made = listed a.paths.now a.lengths.now 0 0 }) roots last)
    (take-zeros a.n module_limit c.requires.leads.few) v.ensures)
