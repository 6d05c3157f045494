-- The statements of specs/ToldApart, inhabited.
-- Assumes nothing.
use mathlib.Core.Path.{◌≡◌, refl, sym, ap, ◌∙◌}
use Rattle.std.specs.Prelude.{Option, None, Some, Result, Ok, Err}
use mathlib.Core.Logic.{◌⊎◌, inl, inr, ⊎_elim, ⊎_map}
use mathlib.Core.Bool.{Bool, true, false, cond, ◌&&◌}
use mathlib.Core.List.{List, ◌∷◌}
use Prim.Native.Nat.{ℕ, zero, ◌*◌, ◌≤◌}
use native.Mathlib.Omega.{arith}
use lib.ListN.{length, take}
use lib.Dec.{ltb, leb}
use Rattle.lists.specs.Words.{up_to, ones, bit}
use Rattle.lists.proofs.Laws.{length-count_from, length-keep, ones-zeros}
use Rattle.walk.specs.Walk.{everywhere}
use Rattle.walk.proofs.Orders.{order-length}
use Rattle.tables.specs.Project.{Project}
use Rattle.tables.specs.Readings.{modules, chunks, is_normal, is_analysed}
use Rattle.tables.specs.Refusal.{below, sizes_fit, values_fit, rows_rise, rows_agree, newer_fits, refusal}
use Rattle.tables.specs.Answers.{number, number_of, refused_of, answer, verdict}
use Rattle.tables.specs.Accepted.{Accepted}
use Rattle.tables.specs.declared.Refusal.{Refusal}
use Rattle.tables.specs.declared.Refusal.TheVariants.{ListSize, ColumnValue, RowOrder, RowConflict, Argument, ShortSlice, Text, ShortForCircles, PlanForm, NewerRow, PastSeason}
use Rattle.names.specs.Names.{names_sized, names_in}
use Rattle.table.specs.Table.{bounds_fit, table, table_refusal, tested_too, Lent, lent}
use Rattle.table.proofs.Laws.{none-tested, lent-current}
use Rattle.arrangement.specs.OfProject.{lent_named}
use Rattle.arrangement.proofs.OfProject.{lent-named}
use Rattle.sort_modules.specs.Sort.{statics_of, visited, sorted}
use Rattle.sort_modules.specs.OfProject.{sorted_of}
use Rattle.sort_chunk_modules.specs.Promise.{named_refusal}
use Rattle.import_circles.specs.Promise.{refused_or}
use Rattle.load_trial.specs.Promise.{trial_refusal}
use Rattle.circle_gathering.specs.Gathering.{joined}
use Rattle.import_circles.specs.OfProject.{circles_of}
use Rattle.import_circles.proofs.Counts.{circles-few}
use Rattle.expected_visit.specs.OfProject.{expected_of}
use Rattle.expected_visit.proofs.Laws.{expected-length}
use Rattle.entries_order.specs.OfEntries.{expected_of_entries}
use Rattle.entries_order.proofs.Parts.{entries-length}
use Rattle.entry_run.specs.Actual.{actual_of}
use Rattle.entry_run.proofs.OfProject.{actual-length}
use Rattle.strong_connection.specs.Cycles.{cyclic}
use Rattle.chunk_cycles.specs.Cycles.{imported_by, cyclic_of, reaches_cycle_of}
use Rattle.at_risk.specs.Promise.{order_risk_of_entry, cycle_risk_of_entry}
use Rattle.at_risk.proofs.Joined.{length-order-risk, length-cycle-risk}
use Rattle.seeds.specs.Seeds.{seeds_fit}
use Rattle.wrap_plan.specs.Promise.{plan_of}
use Rattle.wrap_plan.proofs.Promise.{length-plan}
use Rattle.sensitivity.specs.Marks.{grounds_of}
use Rattle.sensitivity.proofs.Marks.{length-grounds}
use Rattle.takings_from_seeds.specs.Promise.{RunOf}
use Rattle.takings_from_seeds.proofs.Runs.{run_length}
use Rattle.order_analysis.specs.Promise.{whole_plan}
use Rattle.order_analysis.proofs.Promise.{length_whole}
use Rattle.plan_conditions.specs.Form.{plan_fits}
use Rattle.planned_load.specs.Steps.{step_modules}
use Rattle.planned_load.proofs.Stepping.{planned-length}
use Rattle.wall_line.specs.Promise.{page_line_of}
use Rattle.wall_line.proofs.Lines.{line-fits}
use Rattle.wall_page.specs.Promise.{page_with}
use Rattle.wall_page.proofs.Fits.{page-fits}
use Rattle.answer_codes.specs.Calls.{Call, Sort, Circles, Expected, Entries, Actual, Labels, Reach, OrderRisk, CycleRisk, Plan, Takings, Whole, Grounds, Share, Line, Page, Arrange, Load, Test, reads_member_order, lent_to, Promise}
use Rattle.answer_codes.specs.Exported.{coded}
use Rattle.answer_codes.specs.ToldApart.{count_limit, number_limit, AcceptedWith, RefusedWith, AnswersAreToldApart, BelowExactlyIfAccepted}

-- what an operation counts: modules or chunks, each once

module _ (p : Project) where
  sorted-few : length (sorted_of p) ≤ modules p
  unfolding sorted_of sorted visited
  sorted-few =
      let o = order-length (statics_of p.dynamic p.normal p.record_module p.record_kind p.record_target) everywhere (modules p) (p.runtime ∷ p.entry) in
      omega (arith, length-keep (is_normal p.normal) (visited p.dynamic p.normal p.record_module p.record_kind p.record_target p.runtime p.entry))

  expected-few : (root : ℕ) → length (expected_of p root) ≤ modules p
  unfolding expected_of
  expected-few root = expected-length p.normal p.included p.record_module p.record_kind p.record_target root

  steps-few : (plan : List ℕ) (root : ℕ) → length (step_modules p plan root) ≤ modules p
  unfolding step_modules
  steps-few plan root = planned-length p plan root

  worklist-few : (seeds list lengths : List ℕ) → RunOf p seeds list lengths → length list ≤ modules p
  worklist-few = run_length p

  cyclic-few : length (cyclic_of p) ≤ chunks p
  unfolding cyclic_of
  cyclic-few = omega (arith, length-keep (cyclic (chunks p) (imported_by p)) (up_to (chunks p)), length-count_from zero (chunks p))

bit-few : (b : Bool) → bit b ≤ 1
bit-few true = omega arith
bit-few false = omega arith

page-few : (p : Project) → Accepted p → (grounds plan : List ℕ) (root : ℕ) → length (page_with p grounds plan root) ≤ 167936
unfolding page_with
page-few p ok grounds plan root = omega (arith, page-fits p ok (take (modules p) grounds) (take (modules p) plan) root, ok.sizes.normal)

-- what refuses a project has a number of 4 at most, or 10

abbrev pub Known : Option Refusal → Type 0
Known r = (number_of r ≤ 4) ⊎ (number_of r ≡ 10)

refusal-known : (p : Project) → Known (refusal p)
unfolding refusal
refusal-known p = known (sizes_fit p) (values_fit p) (rows_rise p) (rows_agree p) (newer_fits p.newer)
  where
    known : (a b c d e : Bool) → Known (cond a (cond b (cond c (cond d (cond e None (Some NewerRow)) (Some RowConflict)) (Some RowOrder)) (Some ColumnValue)) (Some ListSize))
    known true true true true true = inl (omega arith)
    known true true true true false = inr refl
    known true true true false e = inl (omega arith)
    known true true false d e = inl (omega arith)
    known true false c d e = inl (omega arith)
    known false b c d e = inl (omega arith)

-- the tests alone ask for no argument and no room
tests-alone : (r : Option Refusal) → ◌≡◌ {A = Result ℕ Refusal} (answer r 0) (answer (verdict r true true) 0)
tests-alone None = refl
tests-alone (Some x) = refl

-- a call that nothing refuses is on a project that nothing refuses
verdict-none : (r : Option Refusal) (fits room : Bool) → verdict r fits room ≡ None → r ≡ None
verdict-none None fits room e = refl
verdict-none (Some x) fits room e = e

pub least : (x : Refusal) → 1 ≤ number x
least ListSize = omega arith
least ColumnValue = omega arith
least RowOrder = omega arith
least RowConflict = omega arith
least Argument = omega arith
least ShortSlice = omega arith
least Text = omega arith
least ShortForCircles = omega arith
least PlanForm = omega arith
least NewerRow = omega arith
least PastSeason = omega arith

-- an answer by what refuses it, of which 1 to 6 and 10 can be, and its count

module _ (call : Call) (a : Result ℕ Refusal) (r : ℕ) (code : r ≡ coded a) where
  abbrev Told : Type 0
  Told = AcceptedWith call a r ⊎ RefusedWith call a r

  accepted : (count : ℕ) → count ≤ count_limit call → a ≡ Ok count → Told
  accepted count few e = let q : r ≡ count = code ∙ ap coded e in inl (record { accepted = rw q e; within = omega arith })

  refused : (x : Refusal) → (number x ≤ number_limit call) ⊎ (number x ≡ 10) → a ≡ Err x → Told
  refused x known e = inr (record { why = x; refused = e; code = code ∙ ap coded e; least = least x; known = known })

  told : (v : Option Refusal) (fits room : Bool) (count : ℕ) → Known v → 6 ≤ number_limit call → (verdict v fits room ≡ None → count ≤ count_limit call) → a ≡ answer (verdict v fits room) count → Told
  told None true true count known l few e = accepted count (few refl) e
  told None true false count known l few e = refused ShortSlice (inl l) e
  told None false room count known l few e = refused Argument (inl (omega arith)) e
  told (Some x) fits room count known l few e = refused x (⊎_map (λ k. omega arith) (λ q. q) known) e

  told-room : (v : Option Refusal) (fits : Bool) (count : ℕ) → Known v → 8 ≤ number_limit call → (v ≡ None → count ≤ count_limit call) → a ≡ answer (refused_or v (cond fits None (Some ShortForCircles))) count → Told
  told-room None true count known l few e = accepted count (few refl) e
  told-room None false count known l few e = refused ShortForCircles (inl l) e
  told-room (Some x) fits count known l few e = refused x (⊎_map (λ k. omega arith) (λ q. q) known) e

  told-load : (v : Option Refusal) (fits form room : Bool) (count : ℕ) → Known v → 9 ≤ number_limit call → (v ≡ None → count ≤ count_limit call) → a ≡ answer (trial_refusal v fits form room) count → Told
  told-load None true true true count known l few e = accepted count (few refl) e
  told-load None true true false count known l few e = refused ShortSlice (inl (omega arith)) e
  told-load None true false room count known l few e = refused PlanForm (inl l) e
  told-load None false form room count known l few e = refused Argument (inl (omega arith)) e
  told-load (Some x) fits form room count known l few e = refused x (⊎_map (λ k. omega arith) (λ q. q) known) e

-- and so does what refuses it with two further tests
tested-known : (r : Option Refusal) (one two : Bool) → Known r → Known (tested_too r one two)
tested-known None true true k = k
tested-known None true false k = inl (omega arith)
tested-known None false two k = inl (omega arith)
tested-known (Some x) one two k = known x one two k
  where
    known : (x : Refusal) (one two : Bool) → Known (Some x) → Known (tested_too (Some x) one two)
    known ListSize one two k = k
    known ColumnValue true two k = k
    known x false two k = inl (omega arith)
    known x true false k = inl (omega arith)
    known x true true k = k

module _ (t : Lent) (number-known : Known t.refused) (tested : t.refused ≡ None → Accepted t.project) where
  -- the project as it is read
  abbrev p : Project
  p = t.project

  module _ (first second : List ℕ) (a : Result ℕ Refusal) (r : ℕ) (first' second' : List ℕ) (code : r ≡ coded a) where
    by_number : (call : Call) → 6 ≤ number_limit call → (fits room : Bool) (count : ℕ) → (Accepted p → count ≤ count_limit call)
        → a ≡ answer (verdict t.refused fits room) count → AcceptedWith call a r ⊎ RefusedWith call a r
    by_number call l fits room count few = told call a r code t.refused fits room count number-known l (λ z. few (tested (verdict-none t.refused fits room z)))

    by-promise : (call : Call) → Promise call t first second a first' second' → AcceptedWith call a r ⊎ RefusedWith call a r
    by-promise Sort h = by_number Sort (omega arith) true (leb (modules p) (length first) && leb (modules p) (length second)) (length (sorted_of p)) (λ ok. omega (arith, sorted-few p, ok.sizes.normal)) h.answered
    by-promise Circles h =
        told-room Circles a r code t.refused (leb (length (joined (circles_of p))) (length first) && leb (length (circles_of p)) (length second)) (length (circles_of p)) number-known (omega arith)
        (λ z. circles-few p (tested z)) h.answered
    by-promise (Expected root) h = by_number (Expected root) (omega arith) (ltb root (modules p)) (leb (modules p) (length first)) (length (expected_of p root)) (λ ok. omega (arith, expected-few p root, ok.sizes.normal)) h.answered
    by-promise (Entries entries) h = by_number (Entries entries) (omega arith) (below (modules p) entries) (leb (modules p) (length first)) (length (expected_of_entries p entries)) (λ ok. omega (arith, entries-length p entries, ok.sizes.normal)) h.answered
    by-promise (Actual root) h = by_number (Actual root) (omega arith) (is_analysed p root) (leb (modules p) (length first) && leb (modules p) (length second)) (length (actual_of p root)) (λ ok. omega (arith, actual-length p root, ok.sizes.normal)) h.answered
    by-promise Labels h = by_number Labels (omega arith) true (leb (chunks p) (length first)) (length (cyclic_of p)) (λ ok. omega (arith, cyclic-few p, ok.sizes.order)) h.answered
    by-promise (Reach c) h = by_number (Reach c) (omega arith) (ltb c (chunks p)) true (bit (reaches_cycle_of p c)) (λ ok. omega (arith, bit-few (reaches_cycle_of p c))) h.answered
    by-promise (OrderRisk root) h = by_number (OrderRisk root) (omega arith) (is_analysed p root) (leb (modules p) (length first)) (ones (order_risk_of_entry p root)) (λ ok. omega (arith, ones-zeros (order_risk_of_entry p root), length-order-risk p root, ok.sizes.normal)) h.answered
    by-promise (CycleRisk root) h = by_number (CycleRisk root) (omega arith) (is_analysed p root) (leb (modules p) (length first)) (ones (cycle_risk_of_entry p root)) (λ ok. omega (arith, ones-zeros (cycle_risk_of_entry p root), length-cycle-risk p root, ok.sizes.normal)) h.answered
    by-promise (Plan seeds) h = by_number (Plan seeds) (omega arith) (seeds_fit (modules p) seeds) (leb (modules p) (length first)) (ones (plan_of p seeds)) (λ ok. omega (arith, ones-zeros (plan_of p seeds), length-plan p seeds, ok.sizes.normal)) h.answered
    by-promise (Takings seeds) h =
        let room : Bool = leb (modules p) (length first) && leb (modules p) (length second) in
        told (Takings seeds) a r code t.refused (seeds_fit (modules p) seeds) room (length h.members) number-known (omega arith)
        (λ z. omega (arith, worklist-few p seeds h.members h.sizes (h.run z), (tested (verdict-none t.refused (seeds_fit (modules p) seeds) room z)).sizes.normal)) h.answered
    by-promise Whole h = by_number Whole (omega arith) true (leb (modules p) (length first)) (ones (whole_plan p)) (λ ok. omega (arith, ones-zeros (whole_plan p), length_whole p, ok.sizes.normal)) h.answered
    by-promise Grounds h = by_number Grounds (omega arith) true (leb (modules p) (length first)) (ones (grounds_of p)) (λ ok. omega (arith, ones-zeros (grounds_of p), length-grounds p, ok.sizes.normal)) h.answered
    by-promise Share h = by_number Share (omega arith) true (leb 4 (length first)) 4 (λ ok. omega arith) h.answered
    by-promise (Line root number) h = by_number (Line root number) (omega arith) (is_analysed p root) (leb 41 (length first)) (length (page_line_of p root number)) (λ ok. omega (arith, line-fits p root ok number)) h.answered
    by-promise (Page root grounds plan) h = by_number (Page root grounds plan) (omega arith) (is_analysed p root) (leb (modules p) (length grounds) && (leb (modules p) (length plan) && leb (41 * modules p) (length first))) (length (page_with p grounds plan root)) (λ ok. page-few p ok grounds plan root) h.answered
    by-promise (Arrange names) h =
        told (Arrange names) a r code (named_refusal t names) true (leb (length p.member) (length first)) (length p.member) (tested-known t.refused true (ltb 0 (length names)) number-known) (omega arith)
        (λ z.
        let ok = tested (none-tested t.refused true (ltb 0 (length names)) (verdict-none (named_refusal t names) true (leb (length p.member) (length first)) z)).0 in omega (arith, ok.sizes.member_chunk, ok.sizes.member)) h.answered
    by-promise (Load root plan) h =
        told-load (Load root plan) a r code t.refused (is_analysed p root) (plan_fits (modules p) plan) (leb (modules p) (length first) && leb (modules p) (length second)) (length (step_modules p plan root)) number-known (omega arith)
        (λ z. omega (arith, steps-few p plan root, (tested z).sizes.normal)) h.answered
    by-promise Test h = by_number Test (omega arith) true true 0 (λ ok. omega arith) (h ∙ tests-alone t.refused)

module _ (runtime dynamic : ℕ) (bounds columns names : List ℕ) where
  abbrev written : Project
  written = table runtime dynamic bounds columns

  pub number-known : Known (lent runtime dynamic bounds columns names).refused
  number-known = tested-known (table_refusal bounds columns written) (names_sized names) (names_in (modules written) names) (known (bounds_fit bounds columns))
    where
      known : (b : Bool) → Known (cond b (refusal written) (Some ListSize))
      known true = refusal-known written
      known false = inl (omega arith)

  -- as it was lent to an operation that reads the members' order, or doesn't
  abbrev lent_at : Bool → Lent
  lent_at order = cond order (lent_named runtime dynamic bounds columns names) (lent runtime dynamic bounds columns names)

  lent-known : (order : Bool) → Known (lent_at order).refused
  lent-known true = number-known
  lent-known false = number-known

  lent-tested : (order : Bool) → (lent_at order).refused ≡ None → Accepted (lent_at order).project
  lent-tested true z = lent-named bounds columns names written z
  lent-tested false z = lent-current bounds columns names written z

pub answers-are-told-apart : AnswersAreToldApart
unfolding AnswersAreToldApart
answers-are-told-apart call runtime dynamic bounds columns names first second r first' second' e =
    let order : Bool = reads_member_order call in
    by-promise (lent_to call runtime dynamic bounds columns names) (lent-known runtime dynamic bounds columns names order) (lent-tested runtime dynamic bounds columns names order)
    first second e.answer r first' second' e.code call e.promised

limit-below : (call : Call) → count_limit call ≤ 134217728
limit-below Sort = omega arith
limit-below Circles = omega arith
limit-below (Expected root) = omega arith
limit-below (Entries entries) = omega arith
limit-below (Actual root) = omega arith
limit-below Labels = omega arith
limit-below (Reach chunk) = omega arith
limit-below (OrderRisk root) = omega arith
limit-below (CycleRisk root) = omega arith
limit-below (Plan seeds) = omega arith
limit-below (Takings seeds) = omega arith
limit-below Whole = omega arith
limit-below Share = omega arith
limit-below (Line root number) = omega arith
limit-below (Page root grounds plan) = omega arith
limit-below (Arrange names) = omega arith
limit-below (Load root plan) = omega arith
limit-below Grounds = omega arith
limit-below Test = omega arith

some-none : {x : Refusal} → Some x ≡ None → ⊥
some-none e = cc

pub below-exactly-if-accepted : BelowExactlyIfAccepted
unfolding AnswersAreToldApart BelowExactlyIfAccepted
below-exactly-if-accepted call runtime dynamic bounds columns names first second r first' second' e =
    ⊎_elim
    (λ a. (λ l. ap refused_of a.accepted, λ z. omega (arith, a.within, limit-below call)))
    (λ f. (λ l. absurd (omega (arith, f.code)), λ z. absurd (some-none (sym (ap refused_of f.refused) ∙ z))))
    (answers-are-told-apart call runtime dynamic bounds columns names first second r first' second' e)
