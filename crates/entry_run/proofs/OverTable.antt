-- What the columns of a project with some wraps give the visits, and the run that they make.
-- Assumes nothing.
use Rattle.std.specs.Prelude.{◌≡◌, ℕ, ◌<◌, List, length, replicate}
use mathlib.Core.Path.{refl, sym, ap, subst, ◌∙◌}
use mathlib.Core.Logic.{inl}
use mathlib.Core.List.{foldl}
use native.Mathlib.Omega.{arith}
use Rattle.lists.specs.Words.{keep}
use Rattle.lists.proofs.Laws.{length-map-up_to}
use Rattle.tables.specs.Project.{Project, missing}
use Rattle.tables.specs.Readings.{modules, chunks, entry_chunk_of}
use Rattle.tables.specs.Accepted.{Below, BelowOrMissing, Accepted}
use Rattle.load_order.specs.LoadOrder.{load_order}
use Rattle.triggers.specs.inner.Columns.{way_of, row_trigger}
use Rattle.visit_columns.specs.declared.inner.VisitColumns.{VisitColumns}
use Rattle.visit_columns.specs.inner.OverTable.{PreparedAs}
use Rattle.visit_steps.specs.inner.Steps.{Spans, Filling, filling}
use Rattle.module_visits.specs.inner.Visits.{executing, hosted}
use Rattle.chunk_visits.specs.inner.Visits.{triggers_of}
use Rattle.analysed_entries.specs.inner.Entries.{Entry}
use Rattle.entry_run.specs.Actual.{Executed, executes, triggered, run_of}
use Rattle.entry_run.specs.inner.InTurn.{hosts_in_turn}
use Rattle.entry_run.specs.inner.Cores.{turns, Runnable, Listed}
use Rattle.entry_run.specs.inner.OverTable.{Listing}
use Rattle.entry_run.proofs.Columns.{spans, named_by, leads-named, triggers-inside, triggers-named}
use Rattle.entry_run.proofs.Hosting.{turns-kept, turns-written}
use Rattle.entry_run.proofs.Chunks.{run-in-turn}

module _ (p : Project) (ok : Accepted p) (wraps : List ℕ) (columns : VisitColumns) (k : PreparedAs p wraps columns) (root chunk : ℕ) (e : Entry p root chunk) (order hosts : List ℕ) (l : Listing p (length order) (length hosts)) where
  abbrev n : ℕ
  n = modules p

  abbrev records : ℕ
  records = length p.record_module

  -- how long the columns are
  ways-length : length columns.ways.now ≡ n
  ways-length = ap length k.way ∙ length-map-up_to (way_of p.normal p.included wraps) n

  triggers-length : length columns.triggers.now ≡ records
  triggers-length = ap length k.trigger ∙ length-map-up_to (row_trigger p.normal p.included wraps p.record_kind p.record_target) records

  triggers-in : BelowOrMissing n columns.triggers.now
  triggers-in = subst (BelowOrMissing n) (sym k.trigger) (triggers-inside p.normal p.included wraps n refl p.record_module p.record_kind p.record_target)

  -- what the rows of a module name
  triggers-are : (m : ℕ) → m < n → triggers_of columns m ≡ keep (executes p.normal p.included) (triggered p.normal wraps p.record_module p.record_kind p.record_target m)
  triggers-are m h =
      leads-named k.starts columns.triggers.now m (omega (arith, k.start_places))
      ∙ ap (λ (t : List ℕ). named_by p.record_module t m) k.trigger
      ∙ triggers-named p.normal p.included wraps n refl p.record_module p.record_kind p.record_target m

  abbrev load : ℕ → List ℕ
  load = load_order p.order p.import_chunk p.imports

  -- the hosts in turn
  turns-are : turns columns p.member (chunks p) root chunk ≡ keep (executes p.normal p.included) (hosts_in_turn wraps p.member_chunk p.member load (chunks p) root (entry_chunk_of p root))
  turns-are =
      turns-kept p.normal p.included wraps p.member_chunk p.member p.import_chunk columns n (chunks p) refl ok.sizes.order k.way ok.sizes.member k.loading k.member_starts
      (omega (arith, k.member_places)) k.load_starts (omega (arith, k.load_places)) root chunk
      ∙ ap (λ (f : ℕ → List ℕ). keep (executes p.normal p.included) (hosts_in_turn wraps p.member_chunk p.member f (chunks p) root chunk)) k.same
      ∙ ap (λ (c : ℕ). keep (executes p.normal p.included) (hosts_in_turn wraps p.member_chunk p.member load (chunks p) root c)) e.from

  -- the visits may begin
  pub runnable : Runnable columns p.member order hosts (chunks p) root chunk
  runnable = record {
    each = ways-length ∙ sym l.size;
    spans = subst (Spans columns.starts.now (length columns.triggers.now)) (sym l.size) (spans k.starts n (length columns.triggers.now) (omega (arith, k.start_places)) triggers-length);
    triggered = subst (λ (i : ℕ). BelowOrMissing i columns.triggers.now) (sym l.size) triggers-in;
    members = subst (λ (i : ℕ). Below i p.member) (sym l.size) ok.values.member;
    parts = spans k.member_starts (chunks p) (length p.member) (omega (arith, k.member_places)) ok.sizes.member;
    loading = spans k.load_starts (chunks p) (length columns.loads.now) (omega (arith, k.load_places)) k.loading.lengths;
    loaded = λ i h. inl (k.loading.inside i h);
    modules = omega (arith, l.size, ok.sizes.normal);
    places = ok.sizes.order;
    root_in = omega (arith, l.size, e.within);
    chunk_in = e.inside;
    room = omega (arith, l.size, l.room);
  }

  -- and what they make is the run
  pub made-listed : (order' hosts' : List ℕ) (r : ℕ)
      → (foldl (hosted (triggers_of columns)) (executing (replicate (length hosts) 0) order (replicate (length hosts) missing) 0)
      (turns columns p.member (chunks p) root chunk)).made ≡ filling order' hosts' r
      → Listed (run_of p wraps root) order order' hosts' r
  made-listed order' hosts' r made =
      let run : ℕ → List ℕ → Filling = λ i hosts-in-turn. (foldl (hosted (triggers_of columns)) (executing (replicate i 0) order (replicate i missing) 0) hosts-in-turn).made in
      let in-turn : List ℕ = hosts_in_turn wraps p.member_chunk p.member load (chunks p) root (entry_chunk_of p root) in
      subst (λ (x : Executed). Listed x order order' hosts' r) (sym (run-in-turn p wraps root))
      (turns-written p.normal p.included wraps p.record_module p.record_kind p.record_target n refl (triggers_of columns) triggers-are in-turn order order' hosts' r l.room
      (sym (ap (λ (i : ℕ). run i (turns columns p.member (chunks p) root chunk)) l.size ∙ ap (run n) turns-are) ∙ made))
