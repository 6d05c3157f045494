-- The run of a root, as the scope says it: its entry chunk's visit, in which each chunk's members execute once the imported chunks are visited, and last the
-- root. It is the run of hosts in turn: chunks in the order in which their visits end, then all members.
-- Assumes nothing.
use Rattle.std.specs.Prelude.{◌≡◌, ℕ, ◌<◌, ◌≤◌, true, cond, List, [], ◌∷◌, length}
use mathlib.Core.Path.{sym, ap, subst, ◌∙◌}
use mathlib.Core.List.{foldl, foldl-append, flat_map, Memᴰ}
use Rattle.lists.specs.Words.{Distinct}
use Rattle.walk.specs.Walk.{St, everywhere, post_order}
use Rattle.walk.proofs.Visits.{walk-made}
use Rattle.tables.specs.Project.{Project}
use Rattle.tables.specs.Readings.{chunks, is_normal, flagged, wrapped, entry_chunk_of}
use Rattle.load_order.specs.LoadOrder.{load_order}
use Rattle.entry_run.specs.Actual.{Executed, execute, unexecuted, eager_members, execute_members, visit_chunk, run_from, run_of}
use Rattle.entry_run.specs.inner.InTurn.{execute_all, chunk_order, hosts_in_turn}
use Rattle.entry_run.proofs.Actuals.{run-distinct, run-member, run_length, run-hosts-length}
use Rattle.entry_run.proofs.Hosting.{fold-flat}

module _ (normal included wrap record_module record_kind record_target member_chunk member : List ℕ) (loads : ℕ → List ℕ) (n : ℕ) where
  abbrev run : St Executed → ℕ → St Executed
  run = execute normal included wrap record_module record_kind record_target

  -- a chunk's visit executes the members of the chunks in the order in which their visits end
  visit-chunk : (st : St Executed) (c : ℕ) → visit_chunk normal included wrap record_module record_kind record_target member_chunk member loads n st c ≡ foldl run st (flat_map (eager_members wrap member_chunk member) (chunk_order loads n c))
  unfolding visit_chunk execute_members chunk_order
  visit-chunk st c =
      walk-made loads everywhere (execute_members normal included wrap record_module record_kind record_target member_chunk member) st n (c ∷ [])
      ∙ fold-flat run (eager_members wrap member_chunk member) st (post_order loads everywhere n (c ∷ []))

  pub from-in-turn : (root chunk : ℕ) → run_from normal included wrap record_module record_kind record_target member_chunk member loads n root chunk
      ≡ execute_all normal included wrap record_module record_kind record_target (hosts_in_turn wrap member_chunk member loads n root chunk)
  unfolding run_from execute_all hosts_in_turn
  from-in-turn root chunk =
      let start : St Executed = unexecuted normal included wrap record_module record_kind record_target in
      let last : List ℕ = cond (wrapped wrap root) (root ∷ []) [] in
      ap (λ (s : St Executed). s.made)
      (ap (λ (s : St Executed). foldl run s last) (visit-chunk start chunk)
      ∙ sym (foldl-append run start (flat_map (eager_members wrap member_chunk member) (chunk_order loads n chunk)) last))

  -- what a run lists, and its hosts: a place a module
  module _ (root chunk : ℕ) where
    abbrev hosts : List ℕ
    hosts = hosts_in_turn wrap member_chunk member loads n root chunk

    abbrev of-run : (P : Executed → Type 0) → P (execute_all normal included wrap record_module record_kind record_target hosts) → P (run_from normal included wrap record_module record_kind record_target member_chunk member loads n root chunk)
    of-run P h = subst P (sym (from-in-turn root chunk)) h

    pub from-distinct : Distinct (run_from normal included wrap record_module record_kind record_target member_chunk member loads n root chunk).listed
    from-distinct = of-run (λ (e : Executed). Distinct e.listed) (run-distinct normal included wrap record_module record_kind record_target hosts)

    pub from-length : length (run_from normal included wrap record_module record_kind record_target member_chunk member loads n root chunk).listed ≤ length normal
    from-length = of-run (λ (e : Executed). length e.listed ≤ length normal) (run_length normal included wrap record_module record_kind record_target hosts)

    pub from_member : (m : ℕ) → Memᴰ m (run_from normal included wrap record_module record_kind record_target member_chunk member loads n root chunk).listed → (m < length normal) × (is_normal normal m ≡ true) × (flagged included m ≡ true)
    from_member = of-run (λ (e : Executed). (m : ℕ) → Memᴰ m e.listed → (m < length normal) × (is_normal normal m ≡ true) × (flagged included m ≡ true)) (run-member normal included wrap record_module record_kind record_target hosts)

    pub from-hosts-length : length (run_from normal included wrap record_module record_kind record_target member_chunk member loads n root chunk).hosts ≡ length normal
    from-hosts-length = of-run (λ (e : Executed). length e.hosts ≡ length normal) (run-hosts-length normal included wrap record_module record_kind record_target hosts)

-- the run of a root of a project
pub run-in-turn : (p : Project) (wrap : List ℕ) (root : ℕ) → run_of p wrap root
    ≡ execute_all p.normal p.included wrap p.record_module p.record_kind p.record_target
    (hosts_in_turn wrap p.member_chunk p.member (load_order p.order p.import_chunk p.imports) (chunks p) root (entry_chunk_of p root))
unfolding run_of
run-in-turn p wrap root = from-in-turn p.normal p.included wrap p.record_module p.record_kind p.record_target p.member_chunk p.member (load_order p.order p.import_chunk p.imports) (chunks p) root (entry_chunk_of p root)
