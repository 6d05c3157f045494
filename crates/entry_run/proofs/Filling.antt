-- Executing modules into slices: hosts in turn write the run's list and hosts.
-- Assumes nothing.
use Rattle.std.specs.Prelude.{◌≡◌, ℕ, suc, ◌+◌, ◌<◌, ◌≤◌, List, [], ◌∷◌, ◌++◌, length, get_or, drop, set, replicate}
use mathlib.Core.Path.{refl, sym, ap, ◌∙◌}
use mathlib.Core.List.{foldl, append_assoc}
use native.Mathlib.Numerals.{add-one}
use native.Mathlib.Omega.{arith}
use lib.ListN.{length-append}
use lib.Seq.{drop-cons, set_at}
use Rattle.lists.specs.Words.{zeros}
use Rattle.walk.specs.Walk.{St, visit}
use Rattle.walk.proofs.Visits.{visit-fold, zeros-replicate}
use Rattle.walk.proofs.Orders.{visit-run}
use Rattle.tables.specs.Project.{missing}
use Rattle.visit_steps.specs.Hosts.{noted}
use Rattle.visit_steps.specs.inner.Steps.{Filling, filling, fills}
use Rattle.module_visits.specs.inner.Visits.{executing}
use Rattle.entry_run.specs.Actual.{Executed, note, executes, triggered, execute, unexecuted}
use Rattle.entry_run.specs.inner.InTurn.{execute_all}
use Rattle.entry_run.specs.inner.Cores.{Listed}
use Rattle.entry_run.proofs.Actuals.{added, execute-added, note-listed}

-- the slices with what was executed: the list from place 0, and the rest as it stood

abbrev pub write : List ℕ → Executed → Filling
write order e = record { order = e.listed ++ drop (length e.listed) order; count = length e.listed; hosts = e.hosts }

write-note : (order : List ℕ) (host : ℕ) (e : Executed) (m : ℕ) → length e.listed < length order → fills host (write order e) m ≡ write order (note host e m)
write-note order host e m l =
    let n : ℕ = length e.listed in
    let hosts : List ℕ = noted host e.hosts m in
    let size : length (e.listed ++ (m ∷ [])) ≡ suc n = length-append e.listed (m ∷ []) ∙ omega arith in
    let list : set (e.listed ++ drop n order) n m ≡ (e.listed ++ (m ∷ [])) ++ drop (suc n) order =
    ap (λ (k : List ℕ). set (e.listed ++ k) n m) (drop-cons order n 0 l) ∙ set_at e.listed (get_or order n 0) (drop (suc n) order) m n refl ∙ sym (append_assoc e.listed (m ∷ []) (drop (suc n) order)) in
    ap (λ (k : List ℕ). record { order = k; count = n + 1; hosts = hosts }) list
    ∙ ap (λ (i : ℕ). record { order = (e.listed ++ (m ∷ [])) ++ drop (suc n) order; count = i; hosts = hosts }) (add-one n ∙ sym size)
    ∙ ap (λ (i : ℕ). record { order = (e.listed ++ (m ∷ [])) ++ drop i order; count = length (e.listed ++ (m ∷ [])); hosts = hosts }) (sym size)

write-notes : (order : List ℕ) (host : ℕ) (e : Executed) (xs : List ℕ) → length e.listed + length xs ≤ length order → foldl (fills host) (write order e) xs ≡ write order (foldl (note host) e xs)
write-notes order host e [] l = refl
write-notes order host e (x ∷ xs) l =
    ap (λ (f : Filling). foldl (fills host) f xs) (write-note order host e x (omega arith))
    ∙ write-notes order host (note host e x) xs (omega (arith, length-append e.listed (x ∷ [])))

module _ (normal included wrap record_module record_kind record_target : List ℕ) where
  abbrev runs : St Filling → ℕ → St Filling
  runs s host = visit (triggered normal wrap record_module record_kind record_target) (executes normal included) (fills host) (length normal) s host

  abbrev executed : St Executed → ℕ → St Executed
  executed = execute normal included wrap record_module record_kind record_target

  abbrev written : List ℕ → St Executed → St Filling
  written order s = record { marks = s.marks; made = write order s.made }

  -- what a host's run adds is no more than was not met
  added-room : (marks : List ℕ) (host : ℕ) → let a = added normal included wrap record_module record_kind record_target marks host in length a.made + zeros a.marks ≡ zeros marks
  added-room marks host =
      let r = visit-run (triggered normal wrap record_module record_kind record_target) (executes normal included) (length normal) (record { marks = marks; made = [] }) host in
      ap (λ (l : List ℕ). length l + zeros (added normal included wrap record_module record_kind record_target marks host).marks) r.lists ∙ r.count

  written-host : (order : List ℕ) (s : St Executed) (host : ℕ) → length s.made.listed + zeros s.marks ≤ length order → runs (written order s) host ≡ written order (executed s host)
  written-host order s host l =
      let a : St (List ℕ) = added normal included wrap record_module record_kind record_target s.marks host in
      visit-fold (triggered normal wrap record_module record_kind record_target) (executes normal included) (fills host) (write order s.made) (length normal) (record { marks = s.marks; made = [] }) host
      ∙ ap (λ (f : Filling). record { marks = a.marks; made = f }) (write-notes order host s.made a.made (omega (arith, added-room s.marks host)))
      ∙ sym (ap (written order) (execute-added normal included wrap record_module record_kind record_target s host))

  executed-room : (s : St Executed) (host : ℕ) → length (executed s host).made.listed + zeros (executed s host).marks ≡ length s.made.listed + zeros s.marks
  executed-room s host =
      let a : St (List ℕ) = added normal included wrap record_module record_kind record_target s.marks host in
      ap (λ (t : St Executed). length t.made.listed + zeros t.marks) (execute-added normal included wrap record_module record_kind record_target s host)
      ∙ ap (λ (l : List ℕ). length l + zeros a.marks) (note-listed host s.made a.made)
      ∙ (let n = length-append s.made.listed a.made in omega (arith, added-room s.marks host))

  written_all : (order : List ℕ) (s : St Executed) (hosts : List ℕ) → length s.made.listed + zeros s.marks ≤ length order → foldl runs (written order s) hosts ≡ written order (foldl executed s hosts)
  written_all order s [] l = refl
  written_all order s (host ∷ hosts) l =
      ap (λ (t : St Filling). foldl runs t hosts) (written-host order s host l)
      ∙ written_all order (executed s host) hosts (omega (arith, executed-room s host))

  -- from nothing met, hosts in turn write the list and the hosts of their run
  pub turns-listed : (order order' hosts' : List ℕ) (r : ℕ) (hosts : List ℕ) → length normal ≤ length order
      → (foldl runs (executing (replicate (length normal) 0) order (replicate (length normal) missing) 0) hosts).made ≡ filling order' hosts' r
      → Listed (execute_all normal included wrap record_module record_kind record_target hosts) order order' hosts' r
  unfolding execute_all
  turns-listed order order' hosts' r hosts l e =
      let start : St Executed = unexecuted normal included wrap record_module record_kind record_target in
      let made : filling order' hosts' r ≡ write order (foldl executed start hosts).made =
      sym e ∙ ap (λ (s : St Filling). s.made) (written_all order start hosts (omega (arith, zeros-replicate (length normal)))) in
      record {
        listed = record { count = ap (λ (f : Filling). f.count) made; places = ap (λ (f : Filling). f.order) made };
        hosts = ap (λ (f : Filling). f.hosts) made;
      }
