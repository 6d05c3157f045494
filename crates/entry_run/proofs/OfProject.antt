-- What holds of the actual order of a root of a project, and of its hosts.
-- Assumes nothing.
use Rattle.std.specs.Prelude.{◌≡◌, ℕ, ◌<◌, ◌≤◌, true, false, ◌⊎◌, List, length, get_or}
use mathlib.Core.Path.{sym, subst}
use mathlib.Core.Logic.{inl, inr, ⊎_elim}
use mathlib.Core.List.{Memᴰ}
use Rattle.lists.specs.Words.{Distinct}
use Rattle.tables.specs.Project.{Project, missing}
use Rattle.tables.specs.Readings.{modules, chunks, is_normal, flagged, wrapped, members_of, entry_chunk_of}
use Rattle.load_order.specs.LoadOrder.{load_order}
use Rattle.entry_run.specs.Actual.{Executed, run_of, actual_of, hosts_of}
use Rattle.entry_run.specs.inner.InTurn.{chunk_order, hosts_in_turn}
use Rattle.entry_run.proofs.Actuals.{Noted, run-noted, turn-host}
use Rattle.entry_run.proofs.Chunks.{from-distinct, from_member, from-length, from-hosts-length, run-in-turn}

-- of a run with any wraps
module _ (p : Project) (wraps : List ℕ) (root : ℕ) where
  abbrev from : ℕ → List ℕ
  from = load_order p.order p.import_chunk p.imports

  -- "no module stands twice"
  pub run-of-distinct : Distinct (run_of p wraps root).listed
  unfolding run_of
  run-of-distinct = from-distinct p.normal p.included wraps p.record_module p.record_kind p.record_target p.member_chunk p.member from (chunks p) root (entry_chunk_of p root)

  -- "each is normal and included"
  pub run-of-member : (m : ℕ) → Memᴰ m (run_of p wraps root).listed → (m < modules p) × (is_normal p.normal m ≡ true) × (flagged p.included m ≡ true)
  unfolding run_of
  run-of-member = from_member p.normal p.included wraps p.record_module p.record_kind p.record_target p.member_chunk p.member from (chunks p) root (entry_chunk_of p root)

  pub run-of-length : length (run_of p wraps root).listed ≤ modules p
  unfolding run_of
  run-of-length = from-length p.normal p.included wraps p.record_module p.record_kind p.record_target p.member_chunk p.member from (chunks p) root (entry_chunk_of p root)

  pub run-of-hosts-length : length (run_of p wraps root).hosts ≡ modules p
  unfolding run_of
  run-of-hosts-length = from-hosts-length p.normal p.included wraps p.record_module p.record_kind p.record_target p.member_chunk p.member from (chunks p) root (entry_chunk_of p root)

module _ (p : Project) (root : ℕ) where
  abbrev loads : ℕ → List ℕ
  loads = load_order p.order p.import_chunk p.imports

  abbrev turns : List ℕ
  turns = hosts_in_turn p.wrap p.member_chunk p.member loads (chunks p) root (entry_chunk_of p root)

  pub actual-distinct : Distinct (actual_of p root)
  unfolding actual_of
  actual-distinct = run-of-distinct p p.wrap root

  pub actual-member : (m : ℕ) → Memᴰ m (actual_of p root) → (m < modules p) × (is_normal p.normal m ≡ true) × (flagged p.included m ≡ true)
  unfolding actual_of
  actual-member = run-of-member p p.wrap root

  pub actual-length : length (actual_of p root) ≤ modules p
  unfolding actual_of
  actual-length = run-of-length p p.wrap root

  pub hosts-length : length (hosts_of p root) ≡ modules p
  unfolding hosts_of
  hosts-length = run-of-hosts-length p p.wrap root

  -- a module with a noted host has wrap not 0; both are listed, and the host was executed by a chunk that is visited, or is the root
  pub record HasHost (m host : ℕ) : Type 0 where
    pub wraps : wrapped p.wrap m ≡ true
    pub listed : Memᴰ m (actual_of p root)
    pub host-listed : Memᴰ host (actual_of p root)
    pub from : ((c : ℕ) × Memᴰ c (chunk_order loads (chunks p) (entry_chunk_of p root)) × Memᴰ host (members_of p.member_chunk p.member c) × (wrapped p.wrap host ≡ false)) ⊎ ((host ≡ root) × (wrapped p.wrap root ≡ true))

  -- as the run notes them
  abbrev AllNoted : Executed → Type 0
  AllNoted e = (m : ℕ) → (get_or e.hosts m missing ≡ missing) ⊎ Noted p.normal p.included p.wrap p.record_module p.record_kind p.record_target turns e m

  all_noted : AllNoted (run_of p p.wrap root)
  all_noted = subst AllNoted (sym (run-in-turn p p.wrap root)) (run-noted p.normal p.included p.wrap p.record_module p.record_kind p.record_target turns)

  pub hosts-noted : (m : ℕ) → (get_or (hosts_of p root) m missing ≡ missing) ⊎ HasHost m (get_or (hosts_of p root) m missing)
  unfolding actual_of hosts_of
  hosts-noted m =
      ⊎_elim
      (λ e. inl e)
      (λ n. inr record {
        wraps = n.wraps;
        listed = n.listed;
        host-listed = n.host-listed;
        from = turn-host p.wrap p.member_chunk p.member loads (chunks p) root (entry_chunk_of p root) (get_or (hosts_of p root) m missing) n.host;
      })
      (all_noted m)
