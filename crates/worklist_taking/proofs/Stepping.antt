-- A step keeps what holds of a worklist: the statement after k takings gives the statement after one more.
-- Assumes nothing.
use mathlib.Core.Path.{◌≡◌, refl, sym, ap, subst, ◌∙◌}
use mathlib.Core.Logic.{◌⊎◌, inl, inr, ⊎_elim}
use mathlib.Core.Bool.{true, ◌||◌}
use mathlib.Core.List.{List, Memᴰ}
use Prim.Native.Nat.{ℕ, ◌+◌, ◌-◌, ◌≤◌, ◌<◌}
use native.Mathlib.Omega.{arith}
use native.Mathlib.Decide.{dec_lt}
use lib.ListN.{length, get_or, take, drop, length-drop}
use lib.Seq.{get_or-drop}
use Rattle.lists.specs.Words.{any, elem, has}
use Rattle.lists.proofs.Laws.{or_parts, or_left, or_right, and-join, and_parts, iff-eq, has_in, mem-any, any-mem, mark-in, length-marks_of}
use Rattle.lists.proofs.Members.{get_d-mem, mem-drop}
use Rattle.walk.specs.Reach.{Reach, here, step, Reach⁺}
use Rattle.walk.specs.Close.{Monotone, Within}
use Rattle.tables.specs.Project.{Project}
use Rattle.tables.specs.Readings.{modules, values_of, rows_of}
use Rattle.tables.specs.Accepted.{Accepted}
use Rattle.tables.proofs.OwnerRows.{mem-rows, rows-mem}
use Rattle.chunk_cycles.specs.Cycles.{labels_of}
use Rattle.sensitivity.specs.Marks.{sensitive}
use Rattle.eligibility.specs.Eligible.{eligible, eligible_marks}
use Rattle.eligibility.proofs.Eligible.{eligible-in}
use Rattle.wrap_rules.specs.Rules.{imports_of, leads, component_asks, read_asks, suffix_asks, import_asks}
use Rattle.wrap_rules.specs.Plan.{Rule, suffix_rule, component_rule, import_rule, read_rule, reached, orders_of, asks}
use Rattle.wrap_rules.specs.inner.Passes.{candidate_marks}
use Rattle.wrap_rules.proofs.Monotone.{asked-monotone, asks-asked, asked-asks}
use Rattle.wrap_rules.proofs.Plans.{start-length}
use Rattle.wrap_rules.proofs.Sets.{eligible-has, candidate-parts, parts-candidate, length-candidates}
use Rattle.suffix_rule.specs.inner.Suffix.{AllPlanned, Settled, Settling}
use Rattle.request_queue.proofs.Growing.{grew-has, listed-fits}
use Rattle.request_graph.specs.inner.Requests.{at_request, at_lead, at_dependent}
use Rattle.request_meaning.proofs.Leading.{import-in, leads-reach, reach_leads}
use Rattle.request_meaning.proofs.Meaning.{Meaning, path-meaning}
use Rattle.request_meaning.proofs.Paths.{component-led, dependent-led, lead-led, read-led}
use Rattle.strong_connection.specs.inner.Graph.{EdgeColumns, successors}
use Rattle.request_queue.specs.inner.Growing.{Listing, Listed, Grew, given, chosen}
use Rattle.worklist_step.specs.inner.Step.{Gives, Stepped}
use Rattle.worklist_taking.specs.inner.State.{rule_of, start_of, GraphOf, RuleNotes, Batch, taken_of, State}
use Rattle.worklist_taking.proofs.Places.{once, place, at_place, mem-listed, elem-listed, listed-elem, has-taken, taken-has, old-place}
use Rattle.worklist_taking.proofs.Standing.{suffix-stands, stands-suffix}

-- what is planned of a settled root stays so
settling-more : (p : Project) (settled placed placed' : List ℕ) → ((m : ℕ) → has placed m ≡ true → has placed' m ≡ true) → Settling p settled placed → Settling p settled placed'
unfolding Settled AllPlanned
settling-more p settled placed placed' h s = record { size = s.size; settles = λ k l e m i q g. h m (s.settles k l e m i q g) }

-- what holds of a state by itself: the rules (ii) to (iv) by the marked places
module _ (p : Project) (ok : Accepted p) (seeds : List ℕ) (edges : EdgeColumns) (graph : GraphOf p edges) where
  abbrev S : List ℕ → ℕ → List ℕ
  S list k = taken_of p seeds list k

  sized : (list : List ℕ) (k : ℕ) → length (S list k) ≡ modules p
  sized list k = length-marks_of (λ (x : ℕ). elem x (take k list)) (length (start_of p seeds)) ∙ start-length (orders_of p) (labels_of p) p seeds

  few : modules p ≤ 4096
  few = ok.sizes.normal

  -- marked places, of any set T
  module _ (T marks : List ℕ) (size : length T ≡ modules p) (led : (v : ℕ) → has marks v ≡ true → (x : ℕ) × (has T x ≡ true) × Reach⁺ (successors edges) x v)
      (full : (x v : ℕ) → has T x ≡ true → Reach⁺ (successors edges) x v → has marks v ≡ true) where
    -- what a marked place means
    meaning : (v : ℕ) → has marks v ≡ true → Meaning p ok T size v
    meaning v e = let r = led v e in path-meaning p ok T size (successors edges) graph.back r.0 v r.1 r.2

    -- a request, and both halves of rule (iii), make the rules ask, or the module is taken
    pub marked-request : (m : ℕ) → m < 4096 → has marks (m + at_request) ≡ true → rule_of p T m ≡ true
    marked-request m l e =
        ⊎_elim (asks-asked (orders_of p) (labels_of p) p component_rule T m) (asks-asked (orders_of p) (labels_of p) p read_rule T m) ((meaning (m + at_request) e).requested m l refl)

    pub marked-pair : (m : ℕ) → has marks (m + at_lead) ≡ true → has marks (m + at_dependent) ≡ true → has (candidate_marks p) m ≡ true → (has T m ≡ true) ⊎ (rule_of p T m ≡ true)
    unfolding import_asks
    marked-pair m a b c =
        let n : m < modules p = omega (arith, has_in (candidate_marks p) m c, length-candidates p) in
        let l : m < 4096 = omega (arith, n, few) in
        let q = candidate-parts p m c in
        let r = leads-reach p ok T m n ((meaning (m + at_lead) a).leading m l refl) in
        go r.0 r.1 r.2 q.0 q.1 ((meaning (m + at_dependent) b).dependent m l refl)
      where
        go : (x : ℕ) → has T x ≡ true → Reach (imports_of p) m x → eligible p m ≡ true → reached p m ≡ true → any (has T) (values_of p.dependency_module p.dependency m) ≡ true → (has T m ≡ true) ⊎ (rule_of p T m ≡ true)
        go x e (here q) g h d = inl (subst (λ (y : ℕ). has T y ≡ true) q e)
        go x e (step {y = y} i r) g h d =
            inr (asks-asked (orders_of p) (labels_of p) p import_rule T m
            (and-join (eligible p m) _ g
            (and-join (reached p m) _ h
            (and-join (any (has T) (values_of p.dependency_module p.dependency m)) _ d (mem-any (leads p T) (imports_of p m) i (reach_leads p ok T y (import-in p ok m y i) x e r))))))

    -- and the other way round
    led-marked : (v : ℕ) → (x : ℕ) × (has T x ≡ true) × Reach⁺ (successors edges) x v → has marks v ≡ true
    led-marked v q = full q.0 v q.1 q.2

    pub request-marked : (m : ℕ) → (component_asks (sensitive p) (eligible p) (labels_of p) p T m ≡ true) ⊎ (read_asks (eligible p) (reached p) p T m ≡ true) → has marks (m + at_request) ≡ true
    request-marked m e =
        ⊎_elim (λ q. led-marked (m + at_request) (component-led p ok (successors edges) graph.there T size m q))
        (λ q. led-marked (m + at_request) (read-led p ok (successors edges) graph.there T size m q)) e

    pub pair-marked : (m : ℕ) → import_asks (eligible p) (reached p) p T m ≡ true → (has marks (m + at_lead) ≡ true) × (has marks (m + at_dependent) ≡ true) × (has (candidate_marks p) m ≡ true)
    unfolding import_asks
    pair-marked m e =
        let a = and_parts (eligible p m) _ e in
        let b = and_parts (reached p m) _ a.1 in
        let c = and_parts (any (has T) (values_of p.dependency_module p.dependency m)) _ b.1 in
        let n = eligible-in p m a.0 in
        let d = any-mem (leads p T) (imports_of p m) c.1 in
        let r = leads-reach p ok T d.0 (import-in p ok m d.0 d.1) d.2 in (
          led-marked (m + at_lead) (lead-led p ok (successors edges) graph.there T size m n (reach_leads p ok T m n r.0 r.1 (step d.1 r.2))),
          led-marked (m + at_dependent) (dependent-led p ok (successors edges) graph.there T size m c.0),
          parts-candidate p m a.0 b.0,
        )

  -- a state
  module _ {met list : Listing} {k : ℕ} (s : State p seeds edges met list k) where
    abbrev T' : List ℕ
    T' = S list.list k

    -- the list by the statement
    pub asked-listed : (m : ℕ) → m < modules p → rule_of p T' m ≡ true → has list.marks m ≡ true
    asked-listed m l e =
        let n : m < length (start_of p seeds) = omega (arith, l, start-length (orders_of p) (labels_of p) p seeds) in
        elem-listed s.listed m (s.taking.holds m n ∙ or_right (has (start_of p seeds) m) (rule_of p T' m) e)

    pub start-listed : (m : ℕ) → has (start_of p seeds) m ≡ true → has list.marks m ≡ true
    start-listed m e = elem-listed s.listed m (s.taking.holds m (has_in (start_of p seeds) m e) ∙ or_left (has (start_of p seeds) m) (rule_of p T' m) e)

    pub listed-asked : (m : ℕ) → has list.marks m ≡ true → (has (start_of p seeds) m ≡ true) ⊎ (rule_of p T' m ≡ true)
    listed-asked m e =
        let n : m < length (start_of p seeds) = omega (arith, has_in list.marks m e, s.size, start-length (orders_of p) (labels_of p) p seeds) in
        or_parts (has (start_of p seeds) m) (rule_of p T' m) (sym (s.taking.holds m n) ∙ listed-elem s.listed m e)

  -- one taking more
  module _ (met list : Listing) (k end : ℕ) (notes : RuleNotes)
      (s : State p seeds edges met list k) (b : Batch p list.marks notes end) (ahead : k < end) (within : end ≤ length list.list)
      (met' list' : Listing) (h : Stepped edges (candidate_marks p) (eligible_marks p) notes.asked met list k met' list') where
    abbrev placed : List ℕ
    placed = list.marks

    abbrev placed' : List ℕ
    placed' = list'.marks

    abbrev marks' : List ℕ
    marks' = met'.marks

    abbrev Old : List ℕ
    Old = S list.list k

    abbrev New : List ℕ
    New = S list'.list (k + 1)

    abbrev x : ℕ
    x = get_or list.list k 0

    -- the places met now
    abbrev part : List ℕ
    part = drop (length met.list) met'.list

    met_grew : Grew (Reach⁺ (successors edges) x) met met'
    met_grew = h.reached.grown.grew

    listed' : Listed list'.marks list'.list
    listed' = h.grown.grew.listed s.listed

    known' : Listed met'.marks met'.list
    known' = met_grew.listed s.known

    n-is : length placed ≡ length (start_of p seeds)
    n-is = s.size ∙ sym (start-length (orders_of p) (labels_of p) p seeds)

    n-is' : length placed' ≡ length (start_of p seeds)
    n-is' = h.grown.grew.size ∙ n-is

    old-taken : (y : ℕ) → has Old y ≡ true → (has placed y ≡ true) × (get_or placed y 0 ≤ k)
    old-taken y e = has-taken s.listed k (omega (arith, ahead, within)) (length (start_of p seeds)) n-is y e

    new-taken : (y : ℕ) → has New y ≡ true → (has placed' y ≡ true) × (get_or placed' y 0 ≤ k + 1)
    new-taken y e = has-taken listed' (k + 1) (omega (arith, ahead, within, h.grown.grew.more)) (length (start_of p seeds)) n-is' y e

    taken-new : (y : ℕ) → has placed y ≡ true → get_or placed y 0 ≤ k + 1 → has New y ≡ true
    taken-new y e l =
        taken-has listed' (k + 1) (omega (arith, ahead, within, h.grown.grew.more)) (length (start_of p seeds)) n-is' y (grew-has h.grown.grew y e) (omega (arith, l, h.grown.grew.old y e))

    stays : (y : ℕ) → has Old y ≡ true → has New y ≡ true
    stays y e = let q = old-taken y e in taken-new y q.0 (omega (arith, q.1))

    -- what is taken now was listed before
    was-listed : (y : ℕ) → has New y ≡ true → (has placed y ≡ true) × (get_or placed y 0 ≤ k + 1)
    was-listed y e =
        let q = new-taken y e in
        let o = old-place h.grown.grew s.listed y q.0 (omega (arith, q.1, ahead, within)) in
        (o, omega (arith, q.1, h.grown.grew.old y o))

    taken-x : has New x ≡ true
    taken-x =
        let l : k < length list.list = omega (arith, ahead, within) in
        let q = s.listed.placed k l in
        taken-new x (mark-in (get_or placed x 0) (λ z. omega (arith, z, q.1))) (omega (arith, q.1))

    either : (y : ℕ) → has New y ≡ true → (has Old y ≡ true) ⊎ (y ≡ x)
    either y e = go (dec_lt (get_or placed y 0) (k + 1))
      where
        q : (has placed y ≡ true) × (get_or placed y 0 ≤ k + 1)
        q = was-listed y e

        go : Dec (get_or placed y 0 < k + 1) → (has Old y ≡ true) ⊎ (y ≡ x)
        go (yes l) = inl (taken-has s.listed k (omega (arith, ahead, within)) (length (start_of p seeds)) n-is y q.0 (omega arith))
        go (no l) = let r = place s.listed y q.0 in inr (sym r.2 ∙ ap (λ (i : ℕ). get_or list.list i 0) (omega (arith, r.3, q.1, l)))

    led' : (v : ℕ) → has marks' v ≡ true → (y : ℕ) × (has New y ≡ true) × Reach⁺ (successors edges) y v
    led' v e = ⊎_elim (λ q. let r = s.led v q in (r.0, stays r.0 r.1, r.2)) (λ q. (x, taken-x, q)) (met_grew.only v e)

    full' : (y v : ℕ) → has New y ≡ true → Reach⁺ (successors edges) y v → has marks' v ≡ true
    full' y v e r =
        ⊎_elim (λ q. grew-has met_grew v (s.full y v q r)) (λ q. h.reached.grown.all v (subst (λ (z : ℕ). Reach⁺ (successors edges) z v) q r)) (either y e)

    within_new : Within Old New
    unfolding Within
    within_new = stays

    more : (m : ℕ) → rule_of p Old m ≡ true → rule_of p New m ≡ true
    unfolding Monotone
    more m e = asked-monotone (orders_of p) (labels_of p) p Old New (sized list.list k ∙ sym (sized list'.list (k + 1))) within_new m e

    -- the places of the graph, before and after
    abbrev size' : length New ≡ modules p
    size' = sized list'.list (k + 1)

    abbrev size : length Old ≡ modules p
    size = sized list.list k

    -- a place that is marked now was marked before, or stands in the new part
    fresh : (v : ℕ) → has marks' v ≡ true → (has met.marks v ≡ true) ⊎ Memᴰ v part
    fresh v e =
        let r = place known' v e in
        go r.0 r.1 r.2 (dec_lt r.0 (length met.list))
      where
        go : (i : ℕ) → i < length met'.list → get_or met'.list i 0 ≡ v → Dec (i < length met.list) → (has met.marks v ≡ true) ⊎ Memᴰ v part
        go i l q (yes a) = inl (subst (λ (y : ℕ). has met.marks y ≡ true) (sym (met_grew.front i a) ∙ q) (at_place s.known i a))
        go i l q (no a) =
            let n = length met.list in
            let z : n + (i - n) ≡ i = omega arith in
            inr (subst (λ (y : ℕ). Memᴰ y part) (get_or-drop n met'.list (i - n) 0 ∙ ap (λ (j : ℕ). get_or met'.list j 0) z ∙ q) (get_d-mem part (i - n) (omega (arith, l, length-drop n met'.list))))

    -- what is listed now, the start has or a rule asks for
    old-asked : (m : ℕ) → has placed m ≡ true → (has (start_of p seeds) m ≡ true) ⊎ (rule_of p New m ≡ true)
    old-asked m e = ⊎_elim inl (λ q. inr (more m q)) (listed-asked s m e)

    given-asked : (m : ℕ) → given (Gives marks' (candidate_marks p)) part m → (has (start_of p seeds) m ≡ true) ⊎ (rule_of p New m ≡ true)
    given-asked m (v, i, inl q) =
        inr (marked-request New marks' size' led' full' m (omega (arith, q.1, length-candidates p, few)) (subst (λ (v : ℕ). has marks' v ≡ true) q.0 (mem-listed known' v (mem-drop (length met.list) met'.list i))))
    given-asked m (v, i, inr q) = ⊎_elim (λ z. old-asked m (was-listed m z).0) inr (marked-pair New marks' size' led' full' m q.1 q.2 q.3)

    few_taken : k < 4096
    few_taken = omega (arith, ahead, within, listed-fits s.listed, s.size, few)

    now-asked : (m : ℕ) → given (chosen (eligible_marks p)) (rows_of notes.asked (k + 1)) m → rule_of p New m ≡ true
    now-asked m (v, i, q) =
        let r = mem-rows notes.asked (k + 1) i in
        let g : has (eligible_marks p) m ≡ true = subst (λ (x : ℕ). has (eligible_marks p) x ≡ true) (sym q.0) q.1 in
        let e : get_or notes.asked m 0 ≡ k + 1 = ap (λ (x : ℕ). get_or notes.asked x 0) q.0 ∙ r.1 in
        let z = b.sound m (omega (arith, q.0, r.0, b.len)) (omega (arith, e, few_taken)) in
        asks-asked (orders_of p) (labels_of p) p suffix_rule New m
        (stands-suffix p New z.0 z.1 m (sym (eligible-has p m) ∙ g) z.2 z.3 (taken-new z.1 z.4 (omega (arith, e, z.5))))

    listed-now : (m : ℕ) → has placed' m ≡ true → (has (start_of p seeds) m ≡ true) ⊎ (rule_of p New m ≡ true)
    listed-now m e = ⊎_elim (old-asked m) (λ q. ⊎_elim (given-asked m) (λ z. inr (now-asked m z)) q) (h.grown.grew.only m e)

    -- and all of that is listed

    keeps : (m : ℕ) → has placed m ≡ true → has placed' m ≡ true
    keeps m e = grew-has h.grown.grew m e

    rule-listed : (m : ℕ) → m < modules p → rule_of p Old m ≡ true → has placed' m ≡ true
    rule-listed m l e = keeps m (asked-listed s m l e)

    suffix-listed : (m : ℕ) → suffix_asks (eligible p) (orders_of p) New m ≡ true → has placed' m ≡ true
    suffix-listed m e =
        let q = suffix-stands p New m e in
        let r = q.1 in
        let t = was-listed r.1 r.4 in
        let g : has (eligible_marks p) m ≡ true = eligible-has p m ∙ q.0 in
        ⊎_elim (keeps m) (λ l. late r.0 r.1 q.0 g (omega (arith, l, t.1)) (dec_lt (get_or notes.asked m 0) (k + 1))) (b.all r.0 r.1 m r.2 r.3 t.0 (omega (arith, t.1, ahead)) g)
      where
        late : (root y : ℕ) → eligible p m ≡ true → has (eligible_marks p) m ≡ true → get_or notes.asked m 0 ≤ k + 1 → Dec (get_or notes.asked m 0 < k + 1) → has placed' m ≡ true
        late root y g i l (no a) = let n = eligible-in p m g in let e : get_or notes.asked m 0 ≡ k + 1 = omega arith in h.grown.all m (inr (m, subst (λ (at : ℕ). Memᴰ m (rows_of notes.asked at)) e (rows-mem notes.asked m (omega (arith, n, b.len))), (refl, i)))
        late root y g i l (yes a) =
            let n = eligible-in p m g in
            let q = b.sound m n (omega (arith, a, few_taken)) in
            rule-listed m n
            (asks-asked (orders_of p) (labels_of p) p suffix_rule Old m
            (stands-suffix p Old q.0 q.1 m g q.2 q.3 (taken-has s.listed k (omega (arith, ahead, within)) (length (start_of p seeds)) n-is q.1 q.4 (omega (arith, a, q.5)))))

    request-listed : (m : ℕ) → m < modules p → (component_asks (sensitive p) (eligible p) (labels_of p) p New m ≡ true) ⊎ (read_asks (eligible p) (reached p) p New m ≡ true) → has placed' m ≡ true
    request-listed m n e =
        ⊎_elim (λ o. rule-listed m n (marked-request Old met.marks size s.led s.full m (omega (arith, n, few)) o))
        (λ i. h.grown.all m (inl (m + at_request, i, inl (refl, omega (arith, n, length-candidates p)))))
        (fresh (m + at_request) (request-marked New marks' size' led' full' m e))

    pair-listed : (m : ℕ) → m < modules p → import_asks (eligible p) (reached p) p New m ≡ true → has placed' m ≡ true
    pair-listed m n e =
        let q = pair-marked New marks' size' led' full' m e in
        ⊎_elim
        (λ o.
        ⊎_elim (λ w. ⊎_elim (λ z. keeps m (old-taken m z).0) (rule-listed m n) (marked-pair Old met.marks size s.led s.full m o w q.2))
        (λ i. h.grown.all m (inl (m + at_dependent, i, inr (inr refl, q.0, q.1, q.2))))
        (fresh (m + at_dependent) q.1))
        (λ i. h.grown.all m (inl (m + at_lead, i, inr (inl refl, q.0, q.1, q.2))))
        (fresh (m + at_lead) q.0)

    all_listed : (m : ℕ) → m < modules p → rule_of p New m ≡ true → has placed' m ≡ true
    all_listed m n e = let r = asked-asks (orders_of p) (labels_of p) p New m e in go r.0 r.1
      where
        go : (rule : Rule) → asks (orders_of p) (labels_of p) p rule New m ≡ true → has placed' m ≡ true
        go suffix_rule q = suffix-listed m q
        go component_rule q = request-listed m n (inl q)
        go import_rule q = pair-listed m n q
        go read_rule q = request-listed m n (inr q)

    pub state-next : State p seeds edges met' list' (k + 1)
    state-next = record {
      size = h.grown.grew.size ∙ s.size;
      places = met_grew.size ∙ s.places;
      known = known';
      along = h.reached.along;
      led = led';
      full = full';
      listed = listed';
      taking = record {
        taken = omega (arith, ahead, within, h.grown.grew.more);
        once = once listed';
        inside = λ m e. omega (arith, has_in placed' m (elem-listed listed' m e), n-is');
        holds = λ m l.
            let n : m < modules p = omega (arith, l, start-length (orders_of p) (labels_of p) p seeds) in
            iff-eq (elem m list'.list) (has (start_of p seeds) m || rule_of p New m)
            (λ e. ⊎_elim (or_left (has (start_of p seeds) m) (rule_of p New m)) (or_right (has (start_of p seeds) m) (rule_of p New m)) (listed-now m (elem-listed listed' m e)))
            (λ e. listed-elem listed' m (⊎_elim (λ q. keeps m (start-listed s m q)) (all_listed m n) (or_parts (has (start_of p seeds) m) (rule_of p New m) e)));
      };
    }

    -- and what is noted for rule (i) stays right
    pub batch-next : Batch p placed' notes end
    batch-next = record {
      settling = settling-more p notes.settled placed placed' keeps b.settling;
      len = b.len;
      sound = λ m l e. let q = b.sound m l e in (q.0, q.1, q.2, q.3, grew-has h.grown.grew q.1 q.4, q.5 ∙ sym (h.grown.grew.old q.1 q.4));
      all = λ root y m r t e l g.
          let o = old-place h.grown.grew s.listed y e (omega (arith, l, within)) in
          let z = h.grown.grew.old y o in
          ⊎_elim (λ q. inl (keeps m q)) (λ q. inr (omega (arith, q, z))) (b.all root y m r t o (omega (arith, l, z)) g);
    }
