-- A chunk's visit with the counters lent: what is known between the visits of the chunks that it loads.
-- Assumes nothing.
use Rattle.std.specs.Prelude.{◌≡◌, ℕ, false, suc, ◌+◌, ◌-◌, ◌<◌, ◌≤◌, List, [], ◌∷◌, length, get_or, take, drop}
use mathlib.Core.Path.{refl, sym, ap, subst, ◌∙◌}
use mathlib.Core.List.{foldl, flat_map}
use native.Mathlib.Omega.{arith}
use native.Mathlib.Nat.{le_antisymm}
use lib.ListN.{length-set, length-drop}
use lib.Seq.{get_or-take, get_or-drop, length-take-le}
use Rattle.lists.specs.Words.{is_zero, zeros, keep, count_from}
use Rattle.lists.proofs.Laws.{get_d-in, mark-in, not-true}
use Rattle.walk.specs.Walk.{St, everywhere, Visits}
use Rattle.walk.proofs.Visits.{Grown, set-zeros}
use Rattle.walk.proofs.Going.{Going, going_start, going-none, going-found, going_end, met-visited, left-visited, visited-grown, visited-keeps}
use Rattle.tables.specs.Project.{missing}
use Rattle.tables.specs.Accepted.{Below, BelowOrMissing}
use Rattle.visit_columns.specs.declared.inner.VisitColumns.{VisitColumns}
use Rattle.visit_steps.specs.declared.inner.ActualOrderTraversal.{ActualOrderTraversal}
use Rattle.visit_steps.specs.inner.Steps.{Spans, named, part, Filling, in_way, Passed, Entered}
use Rattle.visit_steps.proofs.Leading.{named_some, named_none, leads-part, part-named}
use Rattle.module_visits.specs.inner.Visits.{Ready, executing, hosted}
use Rattle.chunk_visits.specs.inner.Visits.{loads_of, triggers_of, ran_members, Visitable, Ran}
use Rattle.module_visits.proofs.Hosting.{Kept, kept-all, kept_then, turns-kept}
use Rattle.module_visits.proofs.ModuleVisits.{ready-still}
use Rattle.module_visits.proofs.MemberVisits as R

-- a part of a column keeps the column's bound
part-below : (n start end : ℕ) (column : List ℕ) → start ≤ end → end ≤ length column → Below n column → Below n (take (end - start) (drop start column))
part-below n start end column o w b i l =
    let size : length (take (end - start) (drop start column)) ≡ end - start = length-take-le (end - start) (drop start column) (omega (arith, length-drop start column)) in
    rw (get_or-take (end - start) (drop start column) i 0 (omega (arith, size)), get_or-drop) (b (start + i) (omega (arith, size)))

-- between two rows of a chunk that was entered: the visits so far lead from the marked chunk's state to the slices and the counters
pub record Between (columns : VisitColumns) (member : List ℕ) (c : ℕ) (marked marks order hosts : List ℕ) (h : ActualOrderTraversal) (rows : List ℕ) (i : ℕ) (t : ActualOrderTraversal) (cs ms os hs : List ℕ) : Type 0 where
  pub equal : t.next ≡ t.placed
  pub going : Going (loads_of columns) everywhere (ran_members columns member) (named rows) 0 (record { marks = marked; made = executing marks order hosts h.placed }) i (record { marks = cs; made = executing ms os hs t.placed })

module _ (columns : VisitColumns) (member : List ℕ) where
  -- what the functions ask and say
  abbrev pub Needs : List ℕ → List ℕ → List ℕ → List ℕ → ℕ → ActualOrderTraversal → Type 0
  Needs cmarks marks order hosts c h = Visitable columns member cmarks marks order hosts c h

  abbrev pub Says : List ℕ → List ℕ → List ℕ → List ℕ → ℕ → ActualOrderTraversal → List ℕ → List ℕ → List ℕ → List ℕ → ActualOrderTraversal → Type 0
  Says cmarks marks order hosts c h cmarks' marks' order' hosts' r =
      Visits (loads_of columns) everywhere (ran_members columns member) (record { marks = cmarks; made = executing marks order hosts h.placed }) (c ∷ []) (record { marks = cmarks'; made = executing marks' order' hosts' r.placed }) × (r.next ≡ r.placed)

  -- executing members keeps the slices' lengths and the room
  act-kept : (s a : St Filling) (c : ℕ) → Kept s a → Kept s (ran_members columns member a c)
  unfolding ran_members
  act-kept s a c k = kept_then k (turns-kept (triggers_of columns) a (keep (in_way 1 columns.ways.now) (part columns.member_starts.now member c)))

  -- a chunk that was met is passed
  pub passed : {cmarks marks order hosts marked : List ℕ} {c : ℕ} {h : ActualOrderTraversal} → Needs cmarks marks order hosts c h → Passed cmarks c marked → Says cmarks marks order hosts c h marked marks order hosts h
  passed {cmarks} {marks} {order} {hosts} {marked} {c} {h} within p = (
    subst (λ (l : List ℕ). Visits (loads_of columns) everywhere (ran_members columns member) (record { marks = cmarks; made = executing marks order hosts h.placed }) (c ∷ []) (record { marks = l; made = executing marks order hosts h.placed })) (sym p.same)
        (met-visited (loads_of columns) everywhere (ran_members columns member) (record { marks = cmarks; made = executing marks order hosts h.placed }) c p.met),
    within.ready.room.equal,
  )

  module _ (cmarks marks order hosts : List ℕ) (c : ℕ) (h : ActualOrderTraversal) (within : Needs cmarks marks order hosts c h) where
    -- what a visit leaves keeps them too, so that modules can execute after it
    pub last_fits : (last : List ℕ) → Below (length marks) last → (cs ks os hs : List ℕ) (r : ActualOrderTraversal) → Says cmarks marks order hosts c h cs ks os hs r → R.Needs columns.ways.now columns.starts.now columns.triggers.now last 2 ks os hs r
    last_fits last inside cs ks os hs r d =
        let from = executing marks order hosts h.placed in
        let k : Kept from (executing ks os hs r.placed) = visited-keeps (loads_of columns) everywhere (ran_members columns member) (Kept from) (act-kept from) d.0 (kept-all from) in (
          ready-still within.ready ks os hs r k.marks k.order k.hosts d.1 k.room,
          within.each ∙ sym k.marks,
          subst (λ (n : ℕ). Below n last) (sym k.marks) inside,
        )

    pub ran : (last cs ks os hs : List ℕ) (r : ActualOrderTraversal) → Says cmarks marks order hosts c h cs ks os hs r → (ks' os' hs' : List ℕ) (r' : ActualOrderTraversal)
        → R.Says columns.ways.now columns.starts.now columns.triggers.now last 2 ks os hs r ks' os' hs' r'
        → Ran columns member c last cmarks (executing marks order hosts h.placed) cs (executing ks' os' hs' r'.placed)
    ran last cs ks os hs r d ks' os' hs' r' e = record { visited = executing ks os hs r.placed; visits = d.0; finally = e.0 }

module _ {columns : VisitColumns} {member cmarks marks order hosts : List ℕ} {c : ℕ} {h : ActualOrderTraversal}
    (within : Needs columns member cmarks marks order hosts c h) {marked rows : List ℕ} (e : Entered columns.load_starts.now columns.loads.now cmarks c marked rows) where
  pub between_start : Between columns member c marked marks order hosts h rows 0 h marked marks order hosts
  between_start = record { equal = within.ready.room.equal; going = going_start (loads_of columns) everywhere (ran_members columns member) (named rows) 0 _ }

  module _ {i : ℕ} {t : ActualOrderTraversal} {cs ms os hs : List ℕ} (b : Between columns member c marked marks order hosts h rows i t cs ms os hs) where
    one_less : suc (zeros marked) ≡ zeros cmarks
    one_less = ap (λ (l : List ℕ). suc (zeros l)) e.marked ∙ set-zeros cmarks c e.fresh

    grown : Grown marked cs
    grown = visited-grown (loads_of columns) everywhere (ran_members columns member) b.going.so_far

    same-chunks : length cs ≡ length cmarks
    same-chunks = grown.len ∙ ap length e.marked ∙ length-set cmarks c 1

    kept : Kept (executing marks order hosts h.placed) (executing ms os hs t.placed)
    kept =
        visited-keeps (loads_of columns) everywhere (ran_members columns member) (Kept (executing marks order hosts h.placed))
        (act-kept columns member (executing marks order hosts h.placed)) b.going.so_far (kept-all (executing marks order hosts h.placed))

    pub falls : zeros cs < zeros cmarks
    falls = let g = grown in omega (arith, g.fewer, one_less)

    ordered : get_or columns.load_starts.now c 0 ≤ get_or columns.load_starts.now (c + 1) 0
    ordered = within.spans.rising c within.chunk

    ended-by : get_or columns.load_starts.now (c + 1) 0 ≤ length columns.loads.now
    ended-by = within.spans.within c within.chunk

    still-ready : Ready columns.starts.now columns.triggers.now ms os hs t
    still-ready = ready-still within.ready ms os hs t kept.marks kept.order kept.hosts b.equal kept.room

    -- a chunk that is loaded can be visited
    pub call_fits : i < length rows → (get_or rows i 0 ≡ missing → ⊥) → Needs columns member cs ms os hs (get_or rows i 0) t
    call_fits l o = record {
      ready = still-ready;
      each = within.each ∙ sym kept.marks;
      members = subst (λ (n : ℕ). Below n member) (sym kept.marks) within.members;
      parts = subst (Spans columns.member_starts.now (length member)) (sym same-chunks) within.parts;
      spans = subst (Spans columns.load_starts.now (length columns.loads.now)) (sym same-chunks) within.spans;
      inside = subst (λ (n : ℕ). BelowOrMissing n columns.loads.now) (sym same-chunks) within.inside;
      chunk =
          let p : get_or (part columns.load_starts.now columns.loads.now c) i 0 < length cmarks =
          part-named columns.load_starts.now columns.loads.now c ordered ended-by (length cmarks) i within.inside (rw e.followed at l) (λ q. o (ap (λ (r : List ℕ). get_or r i 0) e.followed ∙ q)) in
          omega (arith, p, ap (λ (r : List ℕ). get_or r i 0) e.followed, same-chunks);
    }

    pub between_none : get_or rows i 0 ≡ missing → Between columns member c marked marks order hosts h rows (i + 1) t cs ms os hs
    between_none o = record { equal = b.equal; going = going-none (loads_of columns) everywhere (ran_members columns member) (named rows) 0 _ b.going (named_none rows i o) }

    pub between_more : (get_or rows i 0 ≡ missing → ⊥) → {u : ActualOrderTraversal} {cs' ms' os' hs' : List ℕ} → Says columns member cs ms os hs (get_or rows i 0) t cs' ms' os' hs' u
        → Between columns member c marked marks order hosts h rows (i + 1) u cs' ms' os' hs'
    between_more o {u} {cs'} {ms'} {os'} {hs'} d = record {
      equal = d.1;
      going = going-found (loads_of columns) everywhere (ran_members columns member) (named rows) 0 _ b.going {u = record { marks = cs'; made = executing ms' os' hs' u.placed }} (named_some rows i o) d.0;
    }

    -- a chunk that is loaded and was met is passed
    pub between_met : i < length rows → (get_or rows i 0 ≡ missing → ⊥) → (get_or cs (get_or rows i 0) 0 ≡ 0 → ⊥) → Between columns member c marked marks order hosts h rows (i + 1) t cs ms os hs
    between_met l o f =
        let n = call_fits l o in
        let x = get_or rows i 0 in
        let met : is_zero (get_or cs x 1) ≡ false = ap is_zero (get_d-in cs x 1 0 n.chunk) ∙ not-true (is_zero (get_or cs x 0)) (mark-in (get_or cs x 0) f) in
        between_more o (met-visited (loads_of columns) everywhere (ran_members columns member) _ x met, b.equal)

    -- past the last row, the chunk's own members can execute
    pub own-fits : Spans columns.member_starts.now (length member) (c + 1)
    own-fits =
        let s = within.parts in
        let l = within.chunk in
        record { room = omega (arith, s.room, l); rising = λ m k. s.rising m (omega (arith, l)); within = λ m k. s.within m (omega (arith, l)) }

    pub run_fits : {own : List ℕ} → own ≡ part columns.member_starts.now member c → R.Needs columns.ways.now columns.starts.now columns.triggers.now own 1 ms os hs t
    run_fits {own} o = (
      still-ready,
      within.each ∙ sym kept.marks,
      subst (λ (n : ℕ). Below n own) (sym kept.marks)
          (subst (Below (length marks)) (sym o)
          (part-below (length marks) (get_or columns.member_starts.now c 0) (get_or columns.member_starts.now (c + 1) 0) member (within.parts.rising c within.chunk) (within.parts.within c within.chunk) within.members)),
    )

    -- and the chunk is visited once they have
    pub ended : length rows ≤ i → i ≤ length rows → {own : List ℕ} → own ≡ part columns.member_starts.now member c → {r : ActualOrderTraversal} {ks' os' hs' : List ℕ}
        → R.Says columns.ways.now columns.starts.now columns.triggers.now own 1 ms os hs t ks' os' hs' r → Says columns member cmarks marks order hosts c h cs ks' os' hs' r
    unfolding ran_members
    ended past upto {own} o {r} {ks'} {os'} {hs'} d =
        let act : St Filling → ℕ → St Filling = ran_members columns member in
        let all : loads_of columns c ≡ flat_map (named rows) (count_from 0 (length rows - 0)) =
        leads-part columns.load_starts.now columns.loads.now c ordered ended-by ∙ ap (λ (l : List ℕ). flat_map (named l) (count_from 0 (length l - 0))) (sym e.followed) in
        let v : Visits (loads_of columns) everywhere act (record { marks = marked; made = executing marks order hosts h.placed }) (loads_of columns c) (record { marks = cs; made = executing ms os hs t.placed }) =
        going_end (loads_of columns) everywhere act (named rows) 0 _ b.going {end = length rows} (le_antisymm upto past) all in
        let executed : act (executing ms os hs t.placed) c ≡ executing ks' os' hs' r.placed =
        ap (λ (l : List ℕ). foldl (hosted (triggers_of columns)) (executing ms os hs t.placed) (keep (in_way 1 columns.ways.now) l)) (sym o) ∙ d.0 in (
          subst (λ (s : St Filling). Visits (loads_of columns) everywhere act (record { marks = cmarks; made = executing marks order hosts h.placed }) (c ∷ []) (record { marks = cs; made = s })) executed
              (left-visited (loads_of columns) everywhere act (record { marks = cmarks; made = executing marks order hosts h.placed }) (record { marks = cs; made = executing ms os hs t.placed }) c refl e.fresh
              (subst (λ (k : List ℕ). Visits (loads_of columns) everywhere act (record { marks = k; made = executing marks order hosts h.placed }) (loads_of columns c) (record { marks = cs; made = executing ms os hs t.placed })) e.marked v)),
          d.1,
        )
