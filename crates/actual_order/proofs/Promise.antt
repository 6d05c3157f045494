-- The promise of a call that is accepted.
-- Assumes nothing.
use Rattle.std.specs.Prelude.{◌≡◌, ℕ, ◌≤◌, true, leb, List, ◌++◌, length, drop, None, Ok}
use mathlib.Core.Path.{sym, ap, ◌∙◌}
use borrow.Author.Tests.{le-leb}
use Rattle.lists.proofs.Laws.{and-join}
use Rattle.tables.specs.Project.{Project}
use Rattle.tables.specs.Readings.{modules, is_analysed}
use Rattle.tables.proofs.Answering.{verdict-none, answer-accepted, after-accepted}
use Rattle.table.specs.Table.{Lent}
use Rattle.entry_run.specs.Actual.{run_of, actual_of, hosts_of}
use Rattle.entry_run.specs.inner.Cores.{Listed}
use Rattle.actual_order.specs.Promise.{ActualOrder}
use Rattle.entry_run.proofs.OfProject.{hosts-length}

module _ (t : Lent) (root : ℕ) (order hosts : List ℕ) where
  abbrev p : Project
  p = t.project

  pub run-counted : t.refused ≡ None → is_analysed p root ≡ true → modules p ≤ length order → modules p ≤ length hosts
      → {order' hosts' : List ℕ} {r : ℕ} → Listed (run_of p p.wrap root) order order' hosts' r
      → ActualOrder t root order hosts (Ok r) order' (hosts' ++ drop (modules p) hosts)
  unfolding actual_of hosts_of
  run-counted accepts analysed u v w =
      let z = verdict-none _ _ accepts analysed (and-join (leb (modules p) (length order)) (leb (modules p) (length hosts)) (le-leb (modules p) (length order) u) (le-leb (modules p) (length hosts) v)) in
      record {
        answered = answer-accepted z w.listed.count;
        listed = after-accepted order (actual_of p root) z w.listed.places;
        noted =
            after-accepted hosts (hosts_of p root) z
            (ap (λ (l : List ℕ). l ++ drop (modules p) hosts) w.hosts ∙ ap (λ (n : ℕ). hosts_of p root ++ drop n hosts) (sym (hosts-length p root)));
      }
