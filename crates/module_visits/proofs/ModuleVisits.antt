-- A module's execution with the counters lent: what is known between the executions of the modules that it triggers.
-- Assumes nothing.
use Rattle.std.specs.Prelude.{◌≡◌, ℕ, suc, ◌+◌, ◌-◌, ◌<◌, ◌≤◌, List, [], ◌∷◌, length, get_or}
use mathlib.Core.Path.{refl, sym, subst, ap, ◌∙◌}
use native.Mathlib.Omega.{arith}
use native.Mathlib.Nat.{le_antisymm}
use lib.ListN.{length-set}
use Rattle.lists.specs.Words.{zeros, count_from}
use mathlib.Core.List.{flat_map}
use Rattle.walk.specs.Walk.{Visits, everywhere}
use Rattle.walk.proofs.Visits.{Grown, set-zeros}
use Rattle.walk.proofs.Going.{Going, going_start, going-none, going-found, going_end, met-visited, left-visited, visited-grown, visited-keeps, visited-room}
use Rattle.tables.specs.Project.{missing}
use Rattle.tables.specs.Accepted.{BelowOrMissing}
use Rattle.tables.specs.Refusal.{module_limit}
use Rattle.visit_steps.specs.declared.inner.ActualOrderTraversal.{ActualOrderTraversal}
use Rattle.visit_steps.specs.inner.Steps.{Spans, named, leads, part, Filling, filling, fills, Passed, Entered}
use Rattle.visit_steps.proofs.Leading.{named_some, named_none, leads-part, part-named}
use Rattle.visit_steps.proofs.Filling.{fills-count, fills-order, fills-hosts}
use Rattle.module_visits.specs.inner.Visits.{Ready, executing}

-- slices as long, and counters with room, are ready
pub ready-still : {starts triggers marks order hosts : List ℕ} {h : ActualOrderTraversal} → Ready starts triggers marks order hosts h
    → (marks' order' hosts' : List ℕ) (t : ActualOrderTraversal) → length marks' ≡ length marks → length order' ≡ length order → length hosts' ≡ length hosts
    → t.next ≡ t.placed → t.placed + zeros marks' ≤ h.placed + zeros marks → Ready starts triggers marks' order' hosts' t
ready-still {starts} {triggers} w marks' order' hosts' t em eo eh q room = record {
  spans = subst (Spans starts (length triggers)) (sym em) w.spans;
  inside = subst (λ (n : ℕ). BelowOrMissing n triggers) (sym em) w.inside;
  hosted = eh ∙ w.hosted ∙ sym em;
  room = let r = w.room in record { equal = q; room = omega (arith, room, r.room, eo); limit = omega (arith, room, r.limit) };
}

-- between two rows of a module that was entered: the executions so far lead from the marked module's state to the slices and the counters
pub record Between (starts triggers : List ℕ) (m host : ℕ) (marked order hosts : List ℕ) (h : ActualOrderTraversal) (rows : List ℕ) (i : ℕ) (t : ActualOrderTraversal) (ms os hs : List ℕ) : Type 0 where
  pub equal : t.next ≡ t.placed
  pub going : Going (leads starts triggers) everywhere (fills host) (named rows) 0 (executing marked order hosts h.placed) i (executing ms os hs t.placed)

module _ (starts triggers : List ℕ) where
  -- what the function asks and says
  abbrev pub Needs : List ℕ → List ℕ → List ℕ → ℕ → ActualOrderTraversal → Type 0
  Needs marks order hosts m h = Ready starts triggers marks order hosts h × (m < length marks)

  abbrev pub Says : List ℕ → List ℕ → List ℕ → ℕ → ℕ → ActualOrderTraversal → List ℕ → List ℕ → List ℕ → ActualOrderTraversal → Type 0
  Says marks order hosts m host h marks' order' hosts' r =
      Visits (leads starts triggers) everywhere (fills host) (executing marks order hosts h.placed) (m ∷ []) (executing marks' order' hosts' r.placed) × (r.next ≡ r.placed)

  -- a module that was met is passed
  pub passed : {m : ℕ} (host : ℕ) {marks order hosts marked : List ℕ} {h : ActualOrderTraversal} → Needs marks order hosts m h → Passed marks m marked → Says marks order hosts m host h marked order hosts h
  passed {m} host {marks} {order} {hosts} {marked} {h} within p = (
    subst (λ (l : List ℕ). Visits (leads starts triggers) everywhere (fills host) (executing marks order hosts h.placed) (m ∷ []) (executing l order hosts h.placed)) (sym p.same)
        (met-visited (leads starts triggers) everywhere (fills host) (executing marks order hosts h.placed) m p.met),
    within.0.room.equal,
  )

module _ {starts triggers : List ℕ} {m : ℕ} (host : ℕ) {marks order hosts : List ℕ} {h : ActualOrderTraversal} (within : Needs starts triggers marks order hosts m h)
    {marked rows : List ℕ} (e : Entered starts triggers marks m marked rows) where
  pub between_start : Between starts triggers m host marked order hosts h rows 0 h marked order hosts
  between_start = record { equal = within.0.room.equal; going = going_start (leads starts triggers) everywhere (fills host) (named rows) 0 _ }

  module _ {i : ℕ} {t : ActualOrderTraversal} {ms os hs : List ℕ} (b : Between starts triggers m host marked order hosts h rows i t ms os hs) where
    one_less : suc (zeros marked) ≡ zeros marks
    one_less = ap (λ (l : List ℕ). suc (zeros l)) e.marked ∙ set-zeros marks m e.fresh

    grown : Grown marked ms
    grown = visited-grown (leads starts triggers) everywhere (fills host) b.going.so_far

    pub same-marks : length ms ≡ length marks
    same-marks = grown.len ∙ ap length e.marked ∙ length-set marks m 1

    same-order : length os ≡ length order
    same-order = visited-keeps (leads starts triggers) everywhere (fills host) (λ (f : Filling). length f.order ≡ length order) (fills-order host (length order)) b.going.so_far refl

    same-hosts : length hs ≡ length hosts
    same-hosts = visited-keeps (leads starts triggers) everywhere (fills host) (λ (f : Filling). length f.hosts ≡ length hosts) (fills-hosts host (length hosts)) b.going.so_far refl

    room : t.placed + zeros ms ≤ h.placed + zeros marked
    room = visited-room (leads starts triggers) everywhere (fills host) (λ (f : Filling). f.count) (fills-count host) b.going.so_far

    pub falls : zeros ms < zeros marks
    falls = let g = grown in omega (arith, g.fewer, one_less)

    ordered : get_or starts m 0 ≤ get_or starts (m + 1) 0
    ordered = within.0.spans.rising m within.1

    ended-by : get_or starts (m + 1) 0 ≤ length triggers
    ended-by = within.0.spans.within m within.1

    -- a module that is triggered can be executed
    pub call_fits : i < length rows → (get_or rows i 0 ≡ missing → ⊥) → Needs starts triggers ms os hs (get_or rows i 0) t
    call_fits l o = (
      ready-still within.0 ms os hs t same-marks same-order same-hosts b.equal (omega (arith, room, one_less)),
      (let p : get_or (part starts triggers m) i 0 < length marks =
          part-named starts triggers m ordered ended-by (length marks) i within.0.inside (rw e.followed at l) (λ q. o (ap (λ (r : List ℕ). get_or r i 0) e.followed ∙ q)) in
          omega (arith, p, ap (λ (r : List ℕ). get_or r i 0) e.followed, same-marks)),
    )

    pub between_none : get_or rows i 0 ≡ missing → Between starts triggers m host marked order hosts h rows (i + 1) t ms os hs
    between_none o = record { equal = b.equal; going = going-none (leads starts triggers) everywhere (fills host) (named rows) 0 _ b.going (named_none rows i o) }

    pub between_more : (get_or rows i 0 ≡ missing → ⊥) → {u : ActualOrderTraversal} {ms' os' hs' : List ℕ} → Says starts triggers ms os hs (get_or rows i 0) host t ms' os' hs' u
        → Between starts triggers m host marked order hosts h rows (i + 1) u ms' os' hs'
    between_more o {u} {ms'} {os'} {hs'} d = record {
      equal = d.1;
      going = going-found (leads starts triggers) everywhere (fills host) (named rows) 0 _ b.going {u = executing ms' os' hs' u.placed} (named_some rows i o) d.0;
    }

    -- past the last row, the module can be left
    pub leave_fits : (t.next ≡ t.placed) × (t.placed < length os) × (t.placed < module_limit) × (m < length hs)
    leave_fits =
        let r = within.0.room in
        let k : t.placed < h.placed + zeros marks = let g = grown in omega (arith, room, one_less) in
        (b.equal, omega (arith, k, r.room, same-order), omega (arith, k, r.limit), omega (arith, same-hosts, within.0.hosted, within.1))

    -- and is executed once it is
    pub ended : length rows ≤ i → i ≤ length rows → {r : ActualOrderTraversal} {order' hosts' : List ℕ}
        → (filling order' hosts' r.placed ≡ fills host (filling os hs t.placed) m) × (r.next ≡ r.placed) → Says starts triggers marks order hosts m host h ms order' hosts' r
    ended past upto {r} {order'} {hosts'} d =
        let all : leads starts triggers m ≡ flat_map (named rows) (count_from 0 (length rows - 0)) =
        leads-part starts triggers m ordered ended-by ∙ ap (λ (l : List ℕ). flat_map (named l) (count_from 0 (length l - 0))) (sym e.followed) in
        let v : Visits (leads starts triggers) everywhere (fills host) (executing marked order hosts h.placed) (leads starts triggers m) (executing ms os hs t.placed) =
        going_end (leads starts triggers) everywhere (fills host) (named rows) 0 _ b.going {end = length rows} (le_antisymm upto past) all in (
          subst (λ (f : Filling). Visits (leads starts triggers) everywhere (fills host) (executing marks order hosts h.placed) (m ∷ []) (record { marks = ms; made = f })) (sym d.0)
              (left-visited (leads starts triggers) everywhere (fills host) (executing marks order hosts h.placed) (executing ms os hs t.placed) m refl e.fresh
              (subst (λ (k : List ℕ). Visits (leads starts triggers) everywhere (fills host) (executing k order hosts h.placed) (leads starts triggers m) (executing ms os hs t.placed)) e.marked v)),
          d.1,
        )
