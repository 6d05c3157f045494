-- The run of a worklist: where it starts, and one taking more.
-- Assumes nothing.
use Rattle.std.specs.Prelude.{◌≡◌, ℕ, ◌+◌, ◌<◌, ◌≤◌, true, ◌||◌, List, length, get_or, take, set}
use mathlib.Core.Path.{refl, sym, ap, subst, ◌∙◌}
use mathlib.Core.Logic.{⊎_elim}
use mathlib.Core.List.Memᴰ
use mathlib.Core.List.{Memᴰ}
use native.Mathlib.Numerals.{add-one}
use native.Mathlib.Omega.{arith}
use native.Mathlib.Decide.{ℕ_discrete}
use lib.ListN.{length-set, length-replicate}
use lib.Seq.{get_or-set_same, get_or-set_other, take-take}
use Rattle.lists.specs.Words.{elem, has}
use Rattle.lists.proofs.Laws.{or_parts, or_left, iff-eq, has_in, elem_mem, mem-elem, has-marks_of, length-marks_of}
use Rattle.tables.specs.Project.{Project}
use Rattle.tables.specs.Readings.{modules}
use Rattle.tables.specs.Accepted.{Accepted}
use Rattle.chunk_cycles.specs.Cycles.{labels_of}
use Rattle.eligibility.specs.Eligible.{eligible, eligible_marks}
use Rattle.wrap_rules.specs.Plan.{Rule, suffix_rule, component_rule, import_rule, read_rule, reached, orders_of, asks}
use Rattle.wrap_rules.specs.inner.Passes.{candidate_marks}
use Rattle.wrap_rules.proofs.Monotone.{asked-asks}
use Rattle.wrap_rules.proofs.Plans.{start-length, start_has, has-start}
use Rattle.wrap_rules.proofs.Rows.{import-rows}
use Rattle.wrap_rules.proofs.Sets.{eligible-has, length-candidates}
use Rattle.takings.specs.Taking.{Taking, Takes, start, next}
use Rattle.strong_connection.specs.inner.Graph.{EdgeColumns, successors}
use Rattle.rule_sets.proofs.Blank.{blank-none}
use Rattle.suffix_rule.specs.inner.Suffix.{AllPlanned, Settled}
use Rattle.suffix_places.specs.inner.Places.{never}
use Rattle.request_queue.specs.inner.Growing.{Listing, Listed, Grew, Grown, given, chosen, Along}
use Rattle.request_queue.proofs.Growing.{listed-fits, none-listed}
use Rattle.request_meaning.proofs.Paths.{component-led, read-led}
use Rattle.worklist_taking.specs.inner.State.{rule_of, start_of, GraphOf, RuleNotes, Batch, taken_of, State}
use Rattle.worklist_taking.proofs.Places.{front_same, place, once, elem-listed, listed-elem}
use Rattle.worklist_taking.proofs.Standing.{suffix-stands}
use Rattle.worklist_taking.proofs.Stepping.{state-next, batch-next}
use Rattle.worklist_step.specs.inner.Step.{Steppable, Stepped}
use Rattle.worklist_batch.specs.inner.Noting.{Advanced}
use Rattle.worklist.specs.inner.Taking.{Fresh, Running, Noted}

-- no more are listed than there are modules
pub listed_few : {p : Project} {seeds : List ℕ} {g : EdgeColumns} {met list : Listing} {k : ℕ} → State p seeds g met list k → length list.list ≤ modules p
listed_few s = omega (arith, listed-fits s.listed, s.size)

-- no length is noted
pub noted-start : (p : Project) (seeds list lengths : List ℕ) → Noted p seeds list lengths lengths 0
noted-start p seeds list lengths = record { room = refl; within = λ j l. absurd (omega arith); takes = λ j l. absurd (omega arith); rest = λ j l. refl }

-- the length is noted, and the list grows
module _ (p : Project) (seeds lengths : List ℕ) {f : ℕ → Type 0} {q q' : Listing} (g : Grew f q q') where
  abbrev Chain : List ℕ → ℕ → Type 0
  Chain = Takes (rule_of p) (start_of p seeds)

  pub noted-next : {lengths' : List ℕ} {k count : ℕ} → count ≡ length q.list → Chain q.list k → k < length lengths → Noted p seeds q.list lengths lengths' k → Noted p seeds q'.list lengths (set lengths' k count) (k + 1)
  noted-next {lengths'} {k} {count} e t inside h = record {
    room = length-set lengths' k count ∙ h.room;
    within = λ j l. (each j l (ℕ_discrete j k)).0;
    takes = λ j l. (each j l (ℕ_discrete j k)).1;
    rest = λ j l. get_or-set_other lengths' k j count 0 (λ z. omega (arith, z)) ∙ h.rest j (omega arith);
  }
    where
      -- what holds of the length after j takings
      Holds : ℕ → ℕ → Type 0
      Holds j n = (n ≤ length q'.list) × Chain (take n q'.list) j

      -- a front of the list stays
      kept : (n : ℕ) → n ≤ length q.list → take n q'.list ≡ take n q.list
      kept n l = sym (take-take n (length q.list) q'.list l) ∙ ap (λ (xs : List ℕ). take n xs) (front_same g)

      each : (j : ℕ) → j < k + 1 → Dec (j ≡ k) → Holds j (get_or (set lengths' k count) j 0)
      each j l (yes z) = rw (z, get_or-set_same lengths' k count 0 (omega (arith, inside, h.room)), e) (g.more, rw (front_same g) t)
      each j l (no o) =
          let b = h.within j (omega arith) in
          rw (get_or-set_other lengths' k j count 0 o) (omega (arith, b, g.more), rw (kept (get_or lengths' j 0) b) (h.takes j (omega arith)))

module _ (p : Project) (ok : Accepted p) (seeds : List ℕ) (g : EdgeColumns) (graph : GraphOf p g) where
  -- none is taken
  none-taken : (list : List ℕ) (x : ℕ) → has (taken_of p seeds list 0) x ≡ true → ⊥
  none-taken list x e =
      let l : x < length (start_of p seeds) = omega (arith, has_in (taken_of p seeds list 0) x e, length-marks_of (λ (y : ℕ). elem y (take 0 list)) (length (start_of p seeds))) in
      Memᴰ.not-nil (elem_mem x (take 0 list) (sym (has-marks_of (λ (y : ℕ). elem y (take 0 list)) (length (start_of p seeds)) x l) ∙ e))

  -- so no rule asks
  none-asked : (list : List ℕ) (m : ℕ) → rule_of p (taken_of p seeds list 0) m ≡ true → ⊥
  none-asked list m e = let r = asked-asks (orders_of p) (labels_of p) p T m e in go r.0 r.1
    where
      T : List ℕ
      T = taken_of p seeds list 0

      sized : length T ≡ modules p
      sized = length-marks_of (λ (y : ℕ). elem y (take 0 list)) (length (start_of p seeds)) ∙ start-length (orders_of p) (labels_of p) p seeds

      go : (rule : Rule) → asks (orders_of p) (labels_of p) p rule T m ≡ true → ⊥
      go suffix_rule q = let s = suffix-stands p T m q in none-taken list s.1.1 s.1.4
      go component_rule q = let s = component-led p ok (successors g) graph.there T sized m q in none-taken list s.0 s.1
      go import_rule q = let s = import-rows p (eligible p) (reached p) T m q in none-taken list (get_or p.dependency s.2.0 0) s.2.3
      go read_rule q = let s = read-led p ok (successors g) graph.there T sized m q in none-taken list s.0 s.1

  module _ {met list : Listing} {notes : RuleNotes} (f : Fresh p met list notes)
      {list' : Listing} (h : Grown (given (chosen (eligible_marks p)) seeds) list list') where
    none-met : (v : ℕ) → has met.marks v ≡ true → ⊥
    none-met v = rw f.none (blank-none 49152 v)

    none-placed : (m : ℕ) → has list.marks m ≡ true → ⊥
    none-placed m = rw f.empty (blank-none (modules p) m)

    size : length list'.marks ≡ modules p
    size = h.grew.size ∙ rw f.empty (length-replicate {A = ℕ} (modules p) 0)

    listed : Listed list'.marks list'.list
    listed = h.grew.listed (rw f.empty (none-listed (modules p)))

    pub state-start : State p seeds g met list' 0
    unfolding Along
    state-start = record {
      size = size;
      places = rw f.none (length-replicate {A = ℕ} 49152 0);
      known = rw f.none (none-listed 49152);
      along = λ x e. absurd (none-met x e);
      led = λ v e. absurd (none-met v e);
      full = λ x v e r. absurd (none-taken list'.list x e);
      listed = listed;
      taking = record {
        taken = omega arith;
        once = once listed;
        inside = λ m e. omega (arith, has_in list'.marks m (elem-listed listed m e), size, start-length (orders_of p) (labels_of p) p seeds);
        holds = λ m l.
            iff-eq (elem m list'.list) (has (start_of p seeds) m || rule_of p (taken_of p seeds list'.list 0) m)
            (λ e.
            or_left (has (start_of p seeds) m) _
            (⊎_elim (λ q. absurd (none-placed m q))
            (λ q. has-start (orders_of p) (labels_of p) p seeds m (subst (λ (v : ℕ). eligible p v ≡ true) (sym q.2.0) (sym (eligible-has p q.0) ∙ q.2.1)) (mem-elem m seeds (subst (λ (v : ℕ). Memᴰ v seeds) (sym q.2.0) q.1)))
            (h.grew.only m (elem-listed listed m e))))
            (λ e.
            listed-elem listed m
            (⊎_elim
            (λ q. let r = start_has (orders_of p) (labels_of p) p seeds m q in h.all m (m, elem_mem m seeds r.1, (refl, eligible-has p m ∙ r.0)))
            (λ q. absurd (none-asked list'.list m q))
            (or_parts (has (start_of p seeds) m) (rule_of p (taken_of p seeds list'.list 0) m) e)));
      };
    }

    batch-start : Batch p list'.marks notes 0
    unfolding Settled AllPlanned
    batch-start = record {
      settling = record { size = f.batch.settling.size; settles = λ k l e m i q g. absurd (none-placed m (f.batch.settling.settles k l e m i q g)) };
      len = f.batch.len;
      sound = λ m l e. let q = f.batch.sound m l e in absurd (none-placed q.1 q.4);
      all = λ root x m i s c l g. let q = place listed x c in absurd (omega (arith, q.3, l));
    }

    pub running-start : Running p seeds g met list' notes 0 0
    running-start = record {
      state = state-start;
      takes = start state-start.taking;
      batch = batch-start;
      started = omega arith;
      within = omega arith;
    }

  -- what a step asks
  module _ {met list : Listing} {notes : RuleNotes} {k end : ℕ} (r : Running p seeds g met list notes k end) (ahead : k < length list.list)
      {notes' : RuleNotes} {end' : ℕ} (a : Advanced p list k notes' end') where
    few : modules p ≤ 4096
    few = ok.sizes.normal

    pub steppable : Steppable g (candidate_marks p) (eligible_marks p) (record { values = notes'.asked; places = never + 1 }) met list k
    steppable = record {
      places = graph.places;
      size = r.state.places;
      along = r.state.along;
      few = omega (arith, r.state.size, few);
      candidate = length-candidates p ∙ sym r.state.size;
      eligibles = length-marks_of (eligible p) (modules p) ∙ sym r.state.size;
      askeds = a.batch.len ∙ sym r.state.size;
      room = omega (arith, ahead, listed_few r.state, few);
      ahead = ahead;
    }

    -- one taking more
    pub running-next : {met' list' : Listing} → Stepped g (candidate_marks p) (eligible_marks p) notes'.asked met list k met' list' → Running p seeds g met' list' notes' (k + 1) end'
    running-next {met'} {list'} h = record {
      state = next-state;
      takes = subst (Takes (rule_of p) (start_of p seeds) list'.list) (sym (add-one k))
          (next r.takes ahead (front_same h.grown.grew) (subst (Taking (rule_of p) (start_of p seeds) list'.list) (add-one k) next-state.taking));
      batch = batch-next p ok seeds g graph met list k end' notes' r.state a.batch a.before a.within met' list' h;
      started = omega (arith, a.before);
      within = omega (arith, a.within, h.grown.grew.more);
    }
      where
        next-state : State p seeds g met' list' (k + 1)
        next-state = state-next p ok seeds g graph met list k end' notes' r.state a.batch a.before a.within met' list' h
