-- Hosts in turn over the columns that the visits read are the hosts in turn of the definition.
-- Assumes nothing.
use Rattle.std.specs.Prelude.{◌≡◌, ℕ, ◌+◌, ◌<◌, ◌≤◌, Bool, true, cond, List, [], ◌∷◌, ◌++◌, length, replicate}
use mathlib.Core.Path.{refl, sym, ap, subst, ◌∙◌}
use mathlib.Core.Logic.{⊎_elim}
use mathlib.Core.List.{foldl, foldl-append, flat_map}
use native.Mathlib.Omega.{arith}
use lib.ListN.{length-replicate}
use Rattle.lists.specs.Words.{keep}
use Rattle.lists.proofs.Laws.{both, keep_append}
use Rattle.lists.proofs.Maps.{keep-flat, flat-cong}
use Rattle.walk.specs.Walk.{St, visit, walk, everywhere, post_order}
use Rattle.walk.proofs.Visits.{visit-stopped, visit-grown, walk-made}
use Rattle.walk.proofs.Orders.{order-met}
use Rattle.walk.proofs.Going.{visited-walk}
use Rattle.tables.specs.Project.{missing}
use Rattle.tables.specs.Lookups.{FirstRows}
use Rattle.tables.specs.Readings.{wrapped, values_of, members_of}
use Rattle.tables.specs.Refusal.{chunk_limit}
use Rattle.tables.proofs.Rows.{values-part}
use Rattle.load_order.specs.inner.Rows.{Loads}
use Rattle.triggers.specs.inner.Columns.{ways}
use Rattle.visit_columns.specs.declared.inner.VisitColumns.{VisitColumns}
use Rattle.visit_steps.specs.inner.Steps.{part, Filling, filling, fills, in_way}
use Rattle.module_visits.specs.inner.Visits.{executing, hosted}
use Rattle.chunk_visits.specs.inner.Visits.{loads_of, triggers_of, ran_members, Ran}
use Rattle.entry_run.specs.Actual.{executes, triggered, eager_members}
use Rattle.entry_run.specs.inner.InTurn.{execute_all, chunk_order, hosts_in_turn}
use Rattle.entry_run.specs.inner.Cores.{turns, Listed}
use Rattle.entry_run.proofs.Pruning.{visit-pruned, order_same}
use Rattle.entry_run.proofs.Columns.{leads-named, named-values, keep_one, keep_two}
use Rattle.entry_run.proofs.Filling.{turns-listed}

pub fold-flat : {S : Type 0} (f : S → ℕ → S) (g : ℕ → List ℕ) (s : S) (xs : List ℕ) → foldl (λ (t : S) (x : ℕ). foldl f t (g x)) s xs ≡ foldl f s (flat_map g xs)
unfolding flat_map
fold-flat f g s [] = refl
fold-flat f g s (x ∷ xs) = fold-flat f g (foldl f s (g x)) xs ∙ sym (foldl-append f s (g x) (flat_map g xs))

-- a chunk's visit and the root make what the hosts in turn make
pub ran-turns : (columns : VisitColumns) (member : List ℕ) (chunks root chunk : ℕ) (s t : St Filling) (marks : List ℕ)
    → Ran columns member chunk (root ∷ []) (replicate chunks 0) s marks t
    → foldl (hosted (triggers_of columns)) s (turns columns member chunks root chunk) ≡ t
unfolding ran_members turns
ran-turns columns member chunks root chunk s t marks r =
    let run-host = hosted (triggers_of columns) in
    let act = ran_members columns member in
    let own : ℕ → List ℕ = λ c. keep (in_way 1 columns.ways.now) (part columns.member_starts.now member c) in
    let cs : List ℕ = post_order (loads_of columns) everywhere chunks (chunk ∷ []) in
    let made : r.visited ≡ foldl run-host s (flat_map own cs) =
    sym (ap (λ (u : St (St Filling)). u.made) (visited-walk (loads_of columns) everywhere act r.visits))
    ∙ walk-made (loads_of columns) everywhere act s chunks (chunk ∷ [])
    ∙ fold-flat run-host own s cs in
    foldl-append run-host s (flat_map own cs) (keep (in_way 2 columns.ways.now) (root ∷ []))
    ∙ ap (λ (u : St Filling). foldl run-host u (keep (in_way 2 columns.ways.now) (root ∷ []))) (sym made)
    ∙ r.finally

-- by the first rows of the chunks, the hosts in turn are those of the definition that execute
module _ (normal included wrap member_chunk member import_chunk : List ℕ) (columns : VisitColumns) (n chunks : ℕ) (size : length normal ≡ n) (few : chunks ≤ chunk_limit)
    (way : columns.ways.now ≡ ways normal included wrap n) (lengths : length member ≡ length member_chunk) (loading : Loads import_chunk columns.loads.now chunks)
    (members : FirstRows member_chunk columns.member_starts.now) (member-room : chunks < length columns.member_starts.now)
    (rows : FirstRows import_chunk columns.load_starts.now) (room : chunks < length columns.load_starts.now) where
  abbrev gate : ℕ → Bool
  gate = executes normal included

  loaded : (c : ℕ) → c < chunks → loads_of columns c ≡ values_of import_chunk columns.loads.now c
  loaded c h = leads-named rows columns.loads.now c (omega (arith, room)) ∙ named-values chunks import_chunk columns.loads.now c (omega (arith, few)) loading.lengths loading.inside

  own : (c : ℕ) → c < chunks → keep (in_way 1 columns.ways.now) (part columns.member_starts.now member c) ≡ keep gate (eager_members wrap member_chunk member c)
  unfolding eager_members
  own c h =
      ap (λ (w : List ℕ). keep (in_way 1 w) (part columns.member_starts.now member c)) way
      ∙ ap (keep (in_way 1 (ways normal included wrap n))) (values-part member_chunk c _ _ (members.firsts c (omega (arith, member-room))) (members.firsts (c + 1) (omega (arith, member-room))) member lengths)
      ∙ keep_one normal included wrap n size (members_of member_chunk member c)

  pub turns-kept : (root chunk : ℕ) → turns columns member chunks root chunk ≡ keep gate (hosts_in_turn wrap member_chunk member (values_of import_chunk columns.loads.now) chunks root chunk)
  unfolding turns hosts_in_turn chunk_order
  turns-kept root chunk =
      let cs : List ℕ = post_order (loads_of columns) everywhere chunks (chunk ∷ []) in
      let eager : ℕ → List ℕ = eager_members wrap member_chunk member in
      let last : List ℕ = keep (wrapped wrap) (root ∷ []) in
      ap (λ (l : List ℕ). l ++ keep (in_way 2 columns.ways.now) (root ∷ []))
      (flat-cong (λ (c : ℕ). keep (in_way 1 columns.ways.now) (part columns.member_starts.now member c)) (λ (c : ℕ). keep gate (eager c)) cs (λ c h. own c (order-met (loads_of columns) everywhere chunks (chunk ∷ []) c h).0)
      ∙ sym (keep-flat gate eager cs))
      ∙ ap (λ (l : List ℕ). keep gate (flat_map eager cs) ++ l) (ap (λ (w : List ℕ). keep (in_way 2 w) (root ∷ [])) way ∙ keep_two normal included wrap n size (root ∷ []))
      ∙ sym (keep_append gate (flat_map eager cs) last)
      ∙ ap (λ (l : List ℕ). keep gate (flat_map eager l ++ last)) (order_same (values_of import_chunk columns.loads.now) (loads_of columns) chunks loaded (chunk ∷ []))

-- hosts that execute run in turn as the definition runs them, by successors that are those which execute
module _ (normal included wrap record_module record_kind record_target : List ℕ) (n : ℕ) (size : length normal ≡ n) (succ' : ℕ → List ℕ)
    (agree : (m : ℕ) → m < n → succ' m ≡ keep (executes normal included) (triggered normal wrap record_module record_kind record_target m)) where
  abbrev gate' : ℕ → Bool
  gate' = executes normal included

  abbrev runs : St Filling → ℕ → St Filling
  runs s host = visit (triggered normal wrap record_module record_kind record_target) gate' (fills host) (length normal) s host

  host-runs : (s : St Filling) (host : ℕ) → length s.marks ≡ n → gate' host ≡ true → hosted succ' s host ≡ runs s host
  unfolding hosted walk
  host-runs s host l g =
      ap (λ (k : ℕ). visit succ' everywhere (fills host) k s host) (l ∙ sym size)
      ∙ visit-pruned (triggered normal wrap record_module record_kind record_target) succ' gate' (fills host) n agree (length normal) s host l g

  hosts-run : (s : St Filling) (hosts : List ℕ) → length s.marks ≡ n → foldl (hosted succ') s (keep gate' hosts) ≡ foldl runs s hosts
  hosts-run s [] l = refl
  hosts-run s (x ∷ xs) l =
      ⊎_elim
      (λ g.
      ap (λ (b : Bool). foldl (hosted succ') s (cond b (x ∷ keep gate' xs) (keep gate' xs))) g
      ∙ ap (λ (t : St Filling). foldl (hosted succ') t (keep gate' xs)) (host-runs s x l g)
      ∙ hosts-run (runs s x) xs ((visit-grown (triggered normal wrap record_module record_kind record_target) gate' (fills x) (length normal) s x).len ∙ l))
      (λ g.
      ap (λ (b : Bool). foldl (hosted succ') s (cond b (x ∷ keep gate' xs) (keep gate' xs))) g
      ∙ hosts-run s xs l
      ∙ ap (λ (t : St Filling). foldl runs t xs) (sym (visit-stopped (triggered normal wrap record_module record_kind record_target) gate' (fills x) (length normal) s x g)))
      (both (gate' x))

  pub turns-written : (hosts order order' hosts' : List ℕ) (r : ℕ) → n ≤ length order
      → (foldl (hosted succ') (executing (replicate n 0) order (replicate n missing) 0) (keep (executes normal included) hosts)).made ≡ filling order' hosts' r
      → Listed (execute_all normal included wrap record_module record_kind record_target hosts) order order' hosts' r
  turns-written hosts order order' hosts' r room e =
      let s : St Filling = executing (replicate n 0) order (replicate n missing) 0 in
      turns-listed normal included wrap record_module record_kind record_target order order' hosts' r hosts (omega (arith, size))
      (subst (λ (k : ℕ). (foldl runs (executing (replicate k 0) order (replicate k missing) 0) hosts).made ≡ filling order' hosts' r) (sym size)
      (ap (λ (t : St Filling). t.made) (sym (hosts-run s hosts (length-replicate n 0))) ∙ e))
