-- What a run of hosts lists, and which hosts it notes.
-- Assumes nothing.
use Rattle.std.specs.Prelude.{◌≡◌, ℕ, zero, suc, ◌<◌, ◌≤◌, Bool, true, false, cond, eqb, ◌⊎◌, List, [], ◌∷◌, ◌++◌, length, get_or, set, replicate}
use mathlib.Core.Path.{refl, sym, ap, subst, ◌∙◌}
use mathlib.Core.Logic.{inl, inr, ⊎_elim}
use mathlib.Core.List.Memᴰ
use mathlib.Core.List.{foldl, flat_map, append_assoc, append-nil, Memᴰ}
use native.Mathlib.Omega.{arith}
use native.Mathlib.Decide.{ℕ_discrete, dec_lt}
use lib.ListN.{length-set, length-replicate}
use lib.Seq.{get_or-set_same, get_or-set_other, set_out}
use borrow.Author.Tests.{eqb-false}
use Rattle.lists.specs.Words.{Distinct}
use Rattle.lists.proofs.Laws.{both, not-true, and_parts, mem-keep}
use Rattle.lists.proofs.Members.{mem-flat}
use Rattle.walk.specs.Walk.{St, fresh, enter, visit, snoc, unmet, post_order}
use Rattle.walk.proofs.Visits.{zeros-replicate, visit-old, visit-new, visit-fold, walk-fuel, snoc-fold}
use Rattle.walk.proofs.Orders.{order-met, order-distinct, order-length}
use Rattle.tables.specs.Project.{missing}
use Rattle.tables.specs.Readings.{is_normal, flagged, wrapped, is_eager, any_target, targets_of, members_of}
use Rattle.entry_run.specs.Actual.{Executed, note, executes, triggered, execute, unexecuted, unwrapped, eager_members}
use Rattle.entry_run.specs.inner.InTurn.{execute_all, chunk_order, hosts_in_turn}

-- what one host's run lists

module _ (succ : ℕ → List ℕ) (gate : ℕ → Bool) where
  -- what holds of all successors holds of all that is newly listed, but for the start
  module _ (q : ℕ → Type 0) (next : (m y : ℕ) → Memᴰ y (succ m) → q y) where
    abbrev All : List ℕ → Type 0
    All l = (x : ℕ) → Memᴰ x l → q x

    fold-all : (k : ℕ) → ((s : St (List ℕ)) (m : ℕ) → q m → All s.made → All (visit succ gate snoc k s m).made)
        → (s : St (List ℕ)) (xs : List ℕ) → All xs → All s.made → All (foldl (visit succ gate snoc k) s xs).made
    fold-all k h s [] a b = b
    fold-all k h s (x ∷ xs) a b = fold-all k h (visit succ gate snoc k s x) xs (λ y m. a y (Memᴰ.tail m)) (h s x (a x (Memᴰ.head refl)) b)

    visit-all : (k : ℕ) (s : St (List ℕ)) (m : ℕ) → q m → All s.made → All (visit succ gate snoc k s m).made
    unfolding visit
    visit-all zero s m a b = b
    visit-all (suc k) s m a b =
        ⊎_elim
        (λ e.
        let t : St (List ℕ) = foldl (visit succ gate snoc k) (enter m s) (succ m) in
        let c : All t.made = fold-all k (visit-all k) (enter m s) (succ m) (next m) b in
        rw (visit-new succ gate snoc k s m e) (λ x h. ⊎_elim (c x) (λ o. subst q (sym (Memᴰ.eq_of_singleton o)) a) (Memᴰ.append_cases t.made h)))
        (λ e. rw (visit-old succ gate snoc (suc k) s m e) b)
        (both (cond (gate m) (fresh s m) false))

  -- a visit that lists anything lists its start
  visit-self : (k : ℕ) (marks : List ℕ) (m x : ℕ) → let v = visit succ gate snoc k (record { marks = marks; made = [] }) m in Memᴰ x v.made → Memᴰ m v.made
  unfolding visit
  visit-self zero marks m x h = absurd (Memᴰ.not-nil h)
  visit-self (suc k) marks m x h =
      let s : St (List ℕ) = record { marks = marks; made = [] } in
      let t : St (List ℕ) = foldl (visit succ gate snoc k) (enter m s) (succ m) in
      ⊎_elim
      (λ e. rw (visit-new succ gate snoc k s m e) (Memᴰ.append_right t.made (Memᴰ.head refl)))
      (λ e. absurd (Memᴰ.not-nil (subst (λ (u : St (List ℕ)). Memᴰ x u.made) (visit-old succ gate snoc (suc k) s m e) h)))
      (both (cond (gate m) (fresh s m) false))

-- noting a list of modules under one host

pub note-listed : (host : ℕ) (e : Executed) (xs : List ℕ) → (foldl (note host) e xs).listed ≡ e.listed ++ xs
note-listed host e [] = sym (append-nil e.listed)
note-listed host e (x ∷ xs) = note-listed host (note host e x) xs ∙ append_assoc e.listed (x ∷ []) xs

-- a module's place after one note
note-at : (host : ℕ) (e : Executed) (x m : ℕ) → let a = note host e x in
    (get_or a.hosts m missing ≡ get_or e.hosts m missing) ⊎ ((m ≡ x) × (x ≡ host → ⊥) × (get_or a.hosts m missing ≡ host))
note-at host e x m =
    ⊎_elim
    (λ q. inl (rw q))
    (λ q. rw q (go (ℕ_discrete m x) (dec_lt x (length e.hosts)) (eqb-false x host q)))
    (both (eqb x host))
  where
    go : Dec (m ≡ x) → Dec (x < length e.hosts) → (x ≡ host → ⊥)
        → (get_or (set e.hosts x host) m missing ≡ get_or e.hosts m missing) ⊎ ((m ≡ x) × (x ≡ host → ⊥) × (get_or (set e.hosts x host) m missing ≡ host))
    go (yes s) (yes l) n = inr (s, n, rw s (get_or-set_same e.hosts x host missing l))
    go (yes s) (no l) n = inl (ap (λ (h : List ℕ). get_or h m missing) (set_out e.hosts x host (omega arith)))
    go (no s) l n = inl (get_or-set_other e.hosts x m host missing s)

pub notes-at : (host : ℕ) (e : Executed) (xs : List ℕ) (m : ℕ) → let a = foldl (note host) e xs in
    (get_or a.hosts m missing ≡ get_or e.hosts m missing) ⊎ (Memᴰ m xs × (m ≡ host → ⊥) × (get_or a.hosts m missing ≡ host))
notes-at host e [] m = inl refl
notes-at host e (x ∷ xs) m =
    ⊎_elim
    (λ p.
    ⊎_elim
    (λ q. inl (p ∙ q))
    (λ q. inr (Memᴰ.head q.0, λ w. q.1 (sym q.0 ∙ w), p ∙ q.2))
    (note-at host e x m))
    (λ p. inr (Memᴰ.tail p.0, p.1, p.2))
    (notes-at host (note host e x) xs m)

note-length : (host : ℕ) (e : Executed) (x : ℕ) → length (note host e x).hosts ≡ length e.hosts
note-length host e x = ⊎_elim (λ q. rw q) (λ q. rw q (length-set e.hosts x host)) (both (eqb x host))

pub notes-length : (host : ℕ) (e : Executed) (xs : List ℕ) → length (foldl (note host) e xs).hosts ≡ length e.hosts
notes-length host e [] = refl
notes-length host e (x ∷ xs) = notes-length host (note host e x) xs ∙ note-length host e x

module _ (normal included wrap record_module record_kind record_target : List ℕ) where
  abbrev pub triggers : ℕ → List ℕ
  triggers = triggered normal wrap record_module record_kind record_target

  abbrev pub runs : ℕ → Bool
  runs = executes normal included

  -- what a host's run adds to what is met and listed
  abbrev pub added : List ℕ → ℕ → St (List ℕ)
  added marks host = visit triggers runs snoc (length normal) (record { marks = marks; made = [] }) host

  -- a host's run notes, under it, what the same walk lists
  pub execute-added : (s : St Executed) (host : ℕ)
      → execute normal included wrap record_module record_kind record_target s host
      ≡ record { marks = (added s.marks host).marks; made = foldl (note host) s.made (added s.marks host).made }
  unfolding execute
  execute-added s host = visit-fold triggers runs (note host) s.made (length normal) (record { marks = s.marks; made = [] }) host

  -- the list alone
  abbrev pub listing : St Executed → St (List ℕ)
  listing s = record { marks = s.marks; made = s.made.listed }

  pub execute-listing : (s : St Executed) (host : ℕ)
      → listing (execute normal included wrap record_module record_kind record_target s host) ≡ visit triggers runs snoc (length normal) (listing s) host
  execute-listing s host =
      let a : St (List ℕ) = added s.marks host in
      ap listing (execute-added s host)
      ∙ ap (λ (l : List ℕ). record { marks = a.marks; made = l }) (note-listed host s.made a.made ∙ sym (snoc-fold s.made.listed a.made))
      ∙ sym (visit-fold triggers runs snoc s.made.listed (length normal) (record { marks = s.marks; made = [] }) host)

  abbrev pub executes-in-turn : St Executed → List ℕ → St Executed
  executes-in-turn = foldl (execute normal included wrap record_module record_kind record_target)

  pub run-listing : (s : St Executed) (hosts : List ℕ) → listing (executes-in-turn s hosts) ≡ foldl (visit triggers runs snoc (length normal)) (listing s) hosts
  run-listing s [] = refl
  run-listing s (host ∷ hosts) =
      run-listing (execute normal included wrap record_module record_kind record_target s host) hosts
      ∙ ap (λ (t : St (List ℕ)). foldl (visit triggers runs snoc (length normal)) t hosts) (execute-listing s host)

  -- the run of all hosts in turn
  abbrev pub run : List ℕ → Executed
  run hosts = execute_all normal included wrap record_module record_kind record_target hosts

  -- it lists the post-order of the one walk from all hosts
  pub run-order : (hosts : List ℕ) → (run hosts).listed ≡ post_order triggers runs (length normal) hosts
  unfolding execute_all post_order
  run-order hosts =
      let n : ℕ = length normal in
      ap (λ (s : St (List ℕ)). s.made) (run-listing (unexecuted normal included wrap record_module record_kind record_target) hosts ∙ sym (walk-fuel triggers runs snoc n (unmet n) hosts (omega (arith, zeros-replicate n))))

  -- "no module stands twice"
  pub run-distinct : (hosts : List ℕ) → Distinct (run hosts).listed
  run-distinct hosts = subst Distinct (sym (run-order hosts)) (order-distinct triggers runs (length normal) hosts)

  -- each listed module has a row, is normal and included
  pub run-member : (hosts : List ℕ) (m : ℕ) → Memᴰ m (run hosts).listed → (m < length normal) × (is_normal normal m ≡ true) × (flagged included m ≡ true)
  run-member hosts m h =
      let a = order-met triggers runs (length normal) hosts m (subst (Memᴰ m) (run-order hosts) h) in
      let b = and_parts (is_normal normal m) (flagged included m) a.2 in
      (a.0, b.0, b.1)

  pub run_length : (hosts : List ℕ) → length (run hosts).listed ≤ length normal
  run_length hosts = subst (λ (l : List ℕ). length l ≤ length normal) (sym (run-order hosts)) (order-length triggers runs (length normal) hosts)

  -- the hosts

  -- m has a noted host, which is one of `hosts` and listed; m itself is listed and has wrap not 0
  pub record Noted (hosts : List ℕ) (e : Executed) (m : ℕ) : Type 0 where
    pub wraps : wrapped wrap m ≡ true
    pub listed : Memᴰ m e.listed
    pub host : Memᴰ (get_or e.hosts m missing) hosts
    pub host-listed : Memᴰ (get_or e.hosts m missing) e.listed

  abbrev AllNoted : List ℕ → Executed → Type 0
  AllNoted hosts e = (m : ℕ) → (get_or e.hosts m missing ≡ missing) ⊎ Noted hosts e m

  triggers-wrapped : (m y : ℕ) → Memᴰ y (triggers m) → wrapped wrap y ≡ true
  unfolding triggered
  triggers-wrapped m y h = (mem-keep (wrapped wrap) (targets_of is_eager any_target normal record_module record_kind record_target m) h).1

  -- a host's run keeps it so
  notes-more : (hosts : List ℕ) (e : Executed) (marks : List ℕ) (host : ℕ) → Memᴰ host hosts → AllNoted hosts e → AllNoted hosts (foldl (note host) e (added marks host).made)
  notes-more hosts e marks host h all m =
      ⊎_elim
      (λ p.
      ⊎_elim
      (λ q. inl (p ∙ q))
      (λ q. inr record {
        wraps = q.wraps;
        listed = longer m q.listed;
        host = subst (λ (x : ℕ). Memᴰ x hosts) (sym p) q.host;
        host-listed = subst (λ (x : ℕ). Memᴰ x after.listed) (sym p) (longer (get_or e.hosts m missing) q.host-listed);
      })
      (all m))
      (λ p. inr record {
        wraps = ⊎_elim (λ q. absurd (p.1 q)) (λ q. q) (visit-all triggers runs Right (λ a y k. inr (triggers-wrapped a y k)) (length normal) (record { marks = marks; made = [] }) host (inl refl) (λ x k. absurd (Memᴰ.not-nil k)) m p.0);
        listed = newer m p.0;
        host = subst (λ (x : ℕ). Memᴰ x hosts) (sym p.2) h;
        host-listed = subst (λ (x : ℕ). Memᴰ x after.listed) (sym p.2) (newer host (visit-self triggers runs (length normal) marks host m p.0));
      })
      (notes-at host e new m)
    where
      new : List ℕ
      new = (added marks host).made

      after : Executed
      after = foldl (note host) e new

      Right : ℕ → Type 0
      Right x = (x ≡ host) ⊎ (wrapped wrap x ≡ true)

      longer : (x : ℕ) → Memᴰ x e.listed → Memᴰ x after.listed
      longer x k = subst (Memᴰ x) (sym (note-listed host e new)) (Memᴰ.append_left new k)

      newer : (x : ℕ) → Memᴰ x new → Memᴰ x after.listed
      newer x k = subst (Memᴰ x) (sym (note-listed host e new)) (Memᴰ.append_right e.listed k)

  fold-noted : (hosts : List ℕ) (s : St Executed) (xs : List ℕ) → ((x : ℕ) → Memᴰ x xs → Memᴰ x hosts) → AllNoted hosts s.made → AllNoted hosts (executes-in-turn s xs).made
  fold-noted hosts s [] f all = all
  fold-noted hosts s (x ∷ xs) f all =
      fold-noted hosts (execute normal included wrap record_module record_kind record_target s x) xs (λ y h. f y (Memᴰ.tail h))
      (subst (λ (t : St Executed). AllNoted hosts t.made) (sym (execute-added s x)) (notes-more hosts s.made s.marks x (f x (Memᴰ.head refl)) all))

  -- a module has no noted host, or one as `Noted` says
  pub run-noted : (hosts : List ℕ) (m : ℕ) → (get_or (run hosts).hosts m missing ≡ missing) ⊎ Noted hosts (run hosts) m
  unfolding execute_all
  run-noted hosts = fold-noted hosts (unexecuted normal included wrap record_module record_kind record_target) hosts (λ x h. h) (λ m. inl (none (length normal) m))
    where
      none : (n m : ℕ) → get_or (replicate n missing) m missing ≡ missing
      none zero m = refl
      none (suc n) zero = refl
      none (suc n) (suc m) = none n m

  fold-hosts-length : (s : St Executed) (xs : List ℕ) → length (executes-in-turn s xs).made.hosts ≡ length s.made.hosts
  fold-hosts-length s [] = refl
  fold-hosts-length s (x ∷ xs) =
      fold-hosts-length (execute normal included wrap record_module record_kind record_target s x) xs
      ∙ ap (λ (t : St Executed). length t.made.hosts) (execute-added s x)
      ∙ notes-length x s.made (added s.marks x).made

  -- a place a module
  pub run-hosts-length : (hosts : List ℕ) → length (run hosts).hosts ≡ length normal
  unfolding execute_all
  run-hosts-length hosts = fold-hosts-length (unexecuted normal included wrap record_module record_kind record_target) hosts ∙ length-replicate (length normal) missing

-- a host in turn is a member with wrap 0 of a visited chunk, or the root with wrap not 0
pub turn-host : (wrap member_chunk member : List ℕ) (loads : ℕ → List ℕ) (n root chunk host : ℕ) → Memᴰ host (hosts_in_turn wrap member_chunk member loads n root chunk)
    → ((c : ℕ) × Memᴰ c (chunk_order loads n chunk) × Memᴰ host (members_of member_chunk member c) × (wrapped wrap host ≡ false)) ⊎ ((host ≡ root) × (wrapped wrap root ≡ true))
unfolding hosts_in_turn eager_members
turn-host wrap member_chunk member loads n root chunk host h =
    ⊎_elim
    (λ a.
    let r = mem-flat (eager_members wrap member_chunk member) (chunk_order loads n chunk) a in
    let k = mem-keep (unwrapped wrap) (members_of member_chunk member r.0) r.2 in
    inl (r.0, r.1, k.0, not-true (wrapped wrap host) k.1))
    (λ b. inr (last (wrapped wrap root) refl b))
    (Memᴰ.append_cases (flat_map (eager_members wrap member_chunk member) (chunk_order loads n chunk)) h)
  where
    last : (w : Bool) → wrapped wrap root ≡ w → Memᴰ host (cond w (root ∷ []) []) → (host ≡ root) × (wrapped wrap root ≡ true)
    last true e k = (Memᴰ.eq_of_singleton k, e)
    last false e k = absurd (Memᴰ.not-nil k)
