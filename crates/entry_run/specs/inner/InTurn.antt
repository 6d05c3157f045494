-- The run of a root, rearranged: the chunks in the order in which their visits end, and then all their members. That it is the scope's is a theorem
-- (`run-in-turn` in proofs/Chunks.antt).
-- Assumes nothing.
use Rattle.std.specs.Prelude.{ℕ, cond, List, [], ◌∷◌, ◌++◌}
use mathlib.Core.List.{foldl, flat_map}
use Rattle.walk.specs.Walk.{everywhere, post_order}
use Rattle.tables.specs.Readings.{wrapped}
use Rattle.entry_run.specs.Actual.{Executed, execute, unexecuted, eager_members}

-- the modules executed as their own hosts, in turn
unfoldable pub execute_all : List ℕ → List ℕ → List ℕ → List ℕ → List ℕ → List ℕ → List ℕ → Executed
execute_all normal included wrap record_module record_kind record_target hosts =
    (foldl (execute normal included wrap record_module record_kind record_target) (unexecuted normal included wrap record_module record_kind record_target) hosts).made

-- the chunks in the order in which their visits end, over n chunks that load others
unfoldable pub chunk_order : (ℕ → List ℕ) → ℕ → ℕ → List ℕ
chunk_order loads n c = post_order loads everywhere n (c ∷ [])

-- the hosts in turn: each visited chunk's eager members, and last a root with wrap not 0
unfoldable pub hosts_in_turn : List ℕ → List ℕ → List ℕ → (ℕ → List ℕ) → ℕ → ℕ → ℕ → List ℕ
hosts_in_turn wrap member_chunk member loads n root chunk =
    flat_map (eager_members wrap member_chunk member) (chunk_order loads n chunk) ++ cond (wrapped wrap root) (root ∷ []) []
