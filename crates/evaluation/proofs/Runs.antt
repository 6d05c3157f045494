-- What any part of module evaluation does from one state to another: it leaves alone what had begun, but for ancestor indices, which
-- only fall; and it adds to the stack just the modules that it leaves EVALUATING, each once.
-- Assumes nothing.
use mathlib.Core.Path.{◌≡◌, refl, sym, ap, subst, ◌∙◌}
use mathlib.Core.Logic.{◌⊎◌, inl, inr, ⊎_elim}
use mathlib.Core.Bool.{Bool, true, false, true≢false}
use mathlib.Core.List.Memᴰ
use mathlib.Core.List.{List, [], ◌∷◌, ◌++◌, foldl, append_assoc, Memᴰ}
use Prim.Native.Nat.{ℕ, zero, suc, ◌≤◌}
use native.Mathlib.Decide.{ℕ_discrete}
use native.Mathlib.Omega.{arith}
use lib.Dec.{eqb}
use borrow.Author.Tests.{eq-eqb}
use Rattle.lists.specs.Words.{elem, Distinct}
use Rattle.lists.proofs.Laws.{both, distinct_append, elem_mem}
use Rattle.lists.proofs.Members.{not-elem}
use Rattle.evaluation.specs.Evaluation.{Status, linked, evaluating, evaluated, Module, State, module_at, begin, execute, pop, finish, require, inner_module_evaluation}
use Rattle.evaluation.proofs.Steps.{is_linked, unbegun, linked-is, settled-not, begun-other, begin-same, begin-other, Lowered, lowers, Popped, pops}

pub record Run (s t : State) : Type 0 where
  pub kept : (x : ℕ) → unbegun s x ≡ false → (module_at t x).status ≡ (module_at s x).status
  pub index_kept : (x : ℕ) → unbegun s x ≡ false → (module_at t x).dfs_index ≡ (module_at s x).dfs_index
  pub ancestor-falls : (x : ℕ) → unbegun s x ≡ false → (module_at t x).dfs_ancestor_index ≤ (module_at s x).dfs_ancestor_index
  pub added : List ℕ
  pub stacks : t.stack ≡ added ++ s.stack
  pub new : (x : ℕ) → Memᴰ x added → (unbegun s x ≡ true) × ((module_at t x).status ≡ evaluating)
  pub all : (x : ℕ) → unbegun s x ≡ true → (module_at t x).status ≡ evaluating → Memᴰ x added
  pub distinct : Distinct added

pub run-refl : (s : State) → Run s s
unfolding Distinct
run-refl s = record {
  kept = λ x e. refl;
  index_kept = λ x e. refl;
  ancestor-falls = λ x e. omega arith;
  added = [];
  stacks = refl;
  new = λ x h. absurd (Memᴰ.not-nil h);
  all = λ x e f. absurd (true≢false (sym e ∙ ap is_linked f));
  distinct = tt;
}

-- what has begun has begun after
pub stays : {s t : State} → Run s t → (x : ℕ) → unbegun s x ≡ false → unbegun t x ≡ false
stays r x e = ap is_linked (r.kept x e) ∙ e

pub before : {s t : State} → Run s t → (x : ℕ) → unbegun t x ≡ true → unbegun s x ≡ true
before {s} r x e = ⊎_elim (λ f. f) (λ f. absurd (true≢false (sym e ∙ stays r x f))) (both (unbegun s x))

pub run-trans : {s t u : State} → Run s t → Run t u → Run s u
run-trans {s} {t} {u} p q = record {
  kept = λ x e. q.kept x (stays p x e) ∙ p.kept x e;
  index_kept = λ x e. q.index_kept x (stays p x e) ∙ p.index_kept x e;
  ancestor-falls = λ x e. omega (arith, q.ancestor-falls x (stays p x e), p.ancestor-falls x e);
  added = q.added ++ p.added;
  stacks = q.stacks ∙ ap (λ (l : List ℕ). q.added ++ l) p.stacks ∙ sym (append_assoc q.added p.added s.stack);
  new = λ x h. ⊎_elim
      (λ i. (before p x (q.new x i).0, (q.new x i).1))
      (λ i. ((p.new x i).0, q.kept x (ap is_linked (p.new x i).1) ∙ (p.new x i).1))
      (Memᴰ.append_cases q.added h);
  all = λ x e f. ⊎_elim
      (λ g. Memᴰ.append_left p.added (q.all x g f))
      (λ g. Memᴰ.append_right q.added (p.all x e (sym (q.kept x g) ∙ f)))
      (both (unbegun t x));
  distinct = distinct_append q.added p.added q.distinct p.distinct (λ x a b. true≢false (sym (q.new x a).0 ∙ ap is_linked (p.new x b).1));
}

run-lowered : {s t : State} → Lowered s t → Run s t
unfolding Distinct
run-lowered {s} {t} l = record {
  kept = λ x e. l.status-same x;
  index_kept = λ x e. l.index_same x;
  ancestor-falls = λ x e. l.ancestor-falls x;
  added = [];
  stacks = l.stack_same;
  new = λ x h. absurd (Memᴰ.not-nil h);
  all = λ x e f. absurd (true≢false (sym e ∙ ap is_linked (sym (l.status-same x) ∙ f)));
  distinct = tt;
}

requires-run : (inner : State → ℕ → State) → ((s : State) (r : ℕ) → Run s (inner s r)) → (m : ℕ) (s : State) (xs : List ℕ) → Run s (foldl (require inner m) s xs)
requires-run inner h m s [] = run-refl s
requires-run inner h m s (x ∷ xs) = run-trans (run-trans (h s x) (run-lowered (lowers m x (inner s x)))) (requires-run inner h m (require inner m s x) xs)

-- the frame of m: from s, where m has not begun, past its beginning and its requested modules to t
module _ (m : ℕ) (s t : State) (f : unbegun s m ≡ true) (p : Run (begin m s) t) where
  begun : unbegun (begin m s) m ≡ false
  begun = ap (λ (n : Module). is_linked n.status) (begin-same s m f)

  -- m is EVALUATING
  pub going : (module_at t m).status ≡ evaluating
  going = p.kept m begun ∙ ap (λ (n : Module). n.status) (begin-same s m f)

  -- its index is the one that it began with, and its ancestor index is no higher
  pub going-index : (module_at t m).dfs_index ≡ s.index
  going-index = p.index_kept m begun ∙ ap (λ (n : Module). n.dfs_index) (begin-same s m f)

  pub going-ancestor : (module_at t m).dfs_ancestor_index ≤ s.index
  going-ancestor = omega (arith, p.ancestor-falls m begun, ap (λ (n : Module). n.dfs_ancestor_index) (begin-same s m f))

  -- another module is as it was when m begins
  other : (x : ℕ) → (x ≡ m → ⊥) → unbegun (begin m s) x ≡ unbegun s x
  other x n = ap (λ (n : Module). is_linked n.status) (begin-other s m x n)

  old : (x : ℕ) → unbegun s x ≡ false → unbegun (begin m s) x ≡ false
  old x e = other x (begun-other s m x f e) ∙ e

  same : {A : Type 0} (field : Module → A) (x : ℕ) → unbegun s x ≡ false → field (module_at (begin m s) x) ≡ field (module_at s x)
  same field x e = ap field (begin-other s m x (begun-other s m x f e))

  apart : Memᴰ m p.added → ⊥
  apart h = true≢false (sym (p.new m h).0 ∙ begun)

  -- a module that had not begun before m is m, or had not begun after
  first : (x : ℕ) → unbegun s x ≡ true → (x ≡ m) ⊎ (unbegun (begin m s) x ≡ true)
  first x e = go (ℕ_discrete x m)
    where
      go : Dec (x ≡ m) → (x ≡ m) ⊎ (unbegun (begin m s) x ≡ true)
      go (yes q) = inl q
      go (no n) = inr (other x n ∙ e)

  unmet : (x : ℕ) → unbegun (begin m s) x ≡ true → unbegun s x ≡ true
  unmet x e = ⊎_elim (λ g. g) (λ g. absurd (true≢false (sym e ∙ old x g))) (both (unbegun s x))

  -- the part of the stack that the frame has put there
  part : List ℕ
  part = p.added ++ (m ∷ [])

  part-new : (x : ℕ) → Memᴰ x part → (unbegun s x ≡ true) × ((module_at t x).status ≡ evaluating)
  unfolding part
  part-new x h = ⊎_elim
      (λ i. (unmet x (p.new x i).0, (p.new x i).1))
      (λ i. let q = Memᴰ.eq_of_singleton i in (rw q f, rw q going))
      (Memᴰ.append_cases p.added h)

  part-all : (x : ℕ) → unbegun s x ≡ true → (module_at t x).status ≡ evaluating → Memᴰ x part
  unfolding part
  part-all x e g = ⊎_elim (λ q. Memᴰ.append_right p.added (Memᴰ.head q)) (λ q. Memᴰ.append_left (m ∷ []) (p.all x q g)) (first x e)

  -- past step 16: nothing is popped, or just that part
  data Finished (u : State) : Type 0 where
    waits : u ≡ execute m t → Finished u
    closes : Popped part s.stack (execute m t) u → Finished u

  popped : Popped part s.stack (execute m t) (pop m t.stack (execute m t))
  unfolding part
  popped = subst (λ (l : List ℕ). Popped part s.stack (execute m t) (pop m l (execute m t))) (sym p.stacks) (pops m p.added s.stack apart (execute m t))

  finished : Finished (finish m (execute m t))
  finished = go (eqb (module_at t m).dfs_ancestor_index (module_at t m).dfs_index)
    where
      go : (b : Bool) → Finished (elim b [ true ↦ pop m t.stack (execute m t) | false ↦ execute m t ])
      go true = closes popped
      go false = waits refl

  pub finish-executed : (finish m (execute m t)).executed ≡ t.executed ++ (m ∷ [])
  finish-executed = go finished
    where
      go : {u : State} → Finished u → u.executed ≡ t.executed ++ (m ∷ [])
      go (waits e) = ap (λ (v : State). v.executed) e
      go (closes q) = q.executed-same

  -- no other module has begun by it
  pub finish-unbegun : (x : ℕ) → unbegun (finish m (execute m t)) x ≡ unbegun t x
  finish-unbegun x = go finished (both (elem x part))
    where
      go : {u : State} → Finished u → (elem x part ≡ true) ⊎ (elem x part ≡ false) → unbegun u x ≡ unbegun t x
      go (waits e) b = ap (λ (v : State). unbegun v x) e
      go (closes q) (inl i) = let h = elem_mem x part i in ap is_linked (q.settles x h) ∙ sym (ap is_linked (part-new x h).1)
      go (closes q) (inr n) = ap is_linked (q.others x (not-elem x part n))

  pub run-frame : Run s (finish m (execute m t))
  unfolding Distinct part
  run-frame = go finished
    where
      -- what had begun before m is none of the part
      spared : (x : ℕ) → unbegun s x ≡ false → Memᴰ x part → ⊥
      spared x e h = true≢false (sym (part-new x h).0 ∙ e)

      go : {u : State} → Finished u → Run s u
      go {u} (waits e) = rw e (record {
        kept = λ x g. p.kept x (old x g) ∙ same (λ (n : Module). n.status) x g;
        index_kept = λ x g. p.index_kept x (old x g) ∙ same (λ (n : Module). n.dfs_index) x g;
        ancestor-falls = λ x g. omega (arith, p.ancestor-falls x (old x g), same (λ (n : Module). n.dfs_ancestor_index) x g);
        added = part;
        stacks = p.stacks ∙ sym (append_assoc p.added (m ∷ []) s.stack);
        new = part-new;
        all = part-all;
        distinct = distinct_append p.added (m ∷ []) p.distinct (λ h. Memᴰ.not-nil h, tt) (λ x a b. apart (rw (Memᴰ.eq_of_singleton b) at a));
      })
      go {u} (closes q) = record {
        kept = λ x g. q.others x (spared x g) ∙ p.kept x (old x g) ∙ same (λ (n : Module). n.status) x g;
        index_kept = λ x g. q.index_same x ∙ p.index_kept x (old x g) ∙ same (λ (n : Module). n.dfs_index) x g;
        ancestor-falls = λ x g. omega (arith, q.ancestor-same x, p.ancestor-falls x (old x g), same (λ (n : Module). n.dfs_ancestor_index) x g);
        added = [];
        stacks = q.stack_is;
        new = λ x h. absurd (Memᴰ.not-nil h);
        all = λ x g e. ⊎_elim
            (λ i. absurd (settled-not (q.settles x (elem_mem x part i)) e))
            (λ n. absurd (not-elem x part n (part-all x g (sym (q.others x (not-elem x part n)) ∙ e))))
            (both (elem x part));
        distinct = tt;
      }

  -- a module that begins at index 0 pops all that its frame has put on the stack
  pub finish-root : s.index ≡ 0 → (finish m (execute m t)).stack ≡ s.stack
  finish-root z =
      let e : eqb (module_at t m).dfs_ancestor_index (module_at t m).dfs_index ≡ true = eq-eqb (module_at t m).dfs_ancestor_index (module_at t m).dfs_index (omega (arith, going-index, going-ancestor)) in
      rw (e, finish) popped.stack_is

module _ (requested : ℕ → List ℕ) where
  -- past the requested modules of m, which begins at s
  abbrev pub inside : ℕ → State → ℕ → State
  inside k s m = foldl (require (inner_module_evaluation requested k) m) (begin m s) (requested m)

  -- the two cases of a call
  pub inner-new : (k : ℕ) (s : State) (m : ℕ) → unbegun s m ≡ true → inner_module_evaluation requested (suc k) s m ≡ finish m (execute m (inside k s m))
  unfolding inner_module_evaluation
  inner-new k s m e = rw (linked-is (module_at s m).status e, inner_module_evaluation)

  pub inner-old : (k : ℕ) (s : State) (m : ℕ) → unbegun s m ≡ false → inner_module_evaluation requested k s m ≡ s
  unfolding inner_module_evaluation
  inner-old zero s m e = refl
  inner-old (suc k) s m e = go (module_at s m).status refl
    where
      go : (b : Status) → (module_at s m).status ≡ b → inner_module_evaluation requested (suc k) s m ≡ s
      go linked q = absurd (true≢false (sym (ap is_linked q) ∙ e))
      go evaluating q = rw (q, inner_module_evaluation)
      go evaluated q = rw (q, inner_module_evaluation)

  -- every call is a run, and so is the part of a frame that follows the requested modules
  pub inner-run : (k : ℕ) (s : State) (m : ℕ) → Run s (inner_module_evaluation requested k s m)
  unfolding inner_module_evaluation
  inner-run zero s m = run-refl s
  inner-run (suc k) s m =
      ⊎_elim
      (λ e. rw (inner-new k s m e) (run-frame m s (inside k s m) e (requires-run (inner_module_evaluation requested k) (inner-run k) m (begin m s) (requested m))))
      (λ e. rw (inner-old (suc k) s m e) (run-refl s))
      (both (unbegun s m))

  pub inside-run : (k : ℕ) (s : State) (m : ℕ) → Run (begin m s) (inside k s m)
  inside-run k s m = requires-run (inner_module_evaluation requested k) (inner-run k) m (begin m s) (requested m)
