-- What each step of module evaluation does to the module records: beginning a module, lowering an ancestor index, popping the stack.
-- Assumes nothing.
use mathlib.Core.Path.{◌≡◌, refl, sym, ap, ◌∙◌}
use mathlib.Core.Logic.{⊎_elim}
use mathlib.Core.Bool.{Bool, true, false, true≢false, false≢true}
use mathlib.Core.List.Memᴰ
use mathlib.Core.List.{List, [], ◌∷◌, ◌++◌, Memᴰ}
use Prim.Native.Nat.{ℕ, zero, suc, ◌≤◌, ◌<◌}
use native.Mathlib.Omega.{arith}
use lib.ListN.{length, get_or, set}
use lib.Seq.{get_or-set_same, get_or-set_other}
use borrow.Author.Tests.{eq-eqb, ne_eqb}
use Rattle.lists.specs.Words.{elem}
use Rattle.lists.proofs.Laws.{both, elem_mem}
use Rattle.lists.proofs.Members.{not-elem}
use Rattle.evaluation.specs.Evaluation.{Status, linked, evaluating, evaluated, Module, State, no_module, module_at, store, begin, lowered, lower, settled, remove, pop}

abbrev pub is_linked : Status → Bool
is_linked linked = true
is_linked evaluating = false
is_linked evaluated = false

-- what is LINKED has not begun
abbrev pub unbegun : State → ℕ → Bool
unbegun st x = is_linked (module_at st x).status

pub linked-is : (s : Status) → is_linked s ≡ true → s ≡ linked
linked-is linked e = refl
linked-is evaluating e = absurd (false≢true e)
linked-is evaluated e = absurd (false≢true e)

pub evaluated-is : (s : Status) → is_linked s ≡ false → (s ≡ evaluating → ⊥) → s ≡ evaluated
evaluated-is linked e n = absurd (true≢false e)
evaluated-is evaluating e n = absurd (n refl)
evaluated-is evaluated e n = refl

-- EVALUATED and EVALUATING differ
pub settled-not : {s : Status} → s ≡ evaluated → s ≡ evaluating → ⊥
settled-not e f = let z : ◌≡◌ {A = ℕ} 0 1 = cc in omega arith

-- only a module is LINKED
pub linked-in : (l : List Module) (x : ℕ) → is_linked (get_or l x no_module).status ≡ true → x < length l
linked-in [] x e = absurd (false≢true e)
linked-in (y ∷ l) zero e = omega arith
linked-in (y ∷ l) (suc x) e = let h = linked-in l x e in omega arith

-- a module that has not begun is not one that has
pub begun-other : (s : State) (m x : ℕ) → unbegun s m ≡ true → unbegun s x ≡ false → x ≡ m → ⊥
begun-other s m x e f p = true≢false (sym e ∙ ap (unbegun s) (sym p) ∙ f)

module _ (s : State) (m : ℕ) where
  pub begin-same : unbegun s m ≡ true → module_at (begin m s) m ≡ record { status = evaluating; dfs_index = s.index; dfs_ancestor_index = s.index }
  begin-same e = get_or-set_same s.modules m _ no_module (linked-in s.modules m e)

  pub begin-other : (x : ℕ) → (x ≡ m → ⊥) → module_at (begin m s) x ≡ module_at s x
  begin-other x n = get_or-set_other s.modules m x _ no_module n

-- where one module record takes another's place, what relates the new one to the old one relates each module's to its own before
pub replaced : (R : Module → Module → Type 0) → ((n : Module) → R n n) → (l : List Module) (m : ℕ) (now : Module) → R now (get_or l m no_module)
    → (x : ℕ) → R (get_or (set l m now) x no_module) (get_or l x no_module)
replaced R same [] m now e x = same no_module
replaced R same (y ∷ l) zero now e zero = e
replaced R same (y ∷ l) zero now e (suc x) = same (get_or l x no_module)
replaced R same (y ∷ l) (suc m) now e zero = same y
replaced R same (y ∷ l) (suc m) now e (suc x) = replaced R same l m now e x

abbrev SameStatus : Module → Module → Type 0
SameStatus a b = a.status ≡ b.status

abbrev SameIndex : Module → Module → Type 0
SameIndex a b = a.dfs_index ≡ b.dfs_index

abbrev SameAncestor : Module → Module → Type 0
SameAncestor a b = a.dfs_ancestor_index ≡ b.dfs_ancestor_index

abbrev NoHigher : Module → Module → Type 0
NoHigher a b = a.dfs_ancestor_index ≤ b.dfs_ancestor_index

-- lowering an ancestor index changes no more than that
pub record Lowered (s t : State) : Type 0 where
  pub status-same : (x : ℕ) → (module_at t x).status ≡ (module_at s x).status
  pub index_same : (x : ℕ) → (module_at t x).dfs_index ≡ (module_at s x).dfs_index
  pub ancestor-falls : (x : ℕ) → (module_at t x).dfs_ancestor_index ≤ (module_at s x).dfs_ancestor_index
  pub stack_same : t.stack ≡ s.stack
  pub executed-same : t.executed ≡ s.executed

pub lowers : (m r : ℕ) (s : State) → Lowered s (lower m r s)
lowers m r s = go (module_at s r).status
  where
    same : Lowered s s
    same = record { status-same = λ x. refl; index_same = λ x. refl; ancestor-falls = λ x. omega arith; stack_same = refl; executed-same = refl }

    go : (b : Status) → Lowered s (elim b [ linked ↦ s | evaluating ↦ store m (lowered (module_at s m) (module_at s r)) s | evaluated ↦ s ])
    go linked = same
    go evaluated = same
    go evaluating =
        let now : Module = lowered (module_at s m) (module_at s r) in
        record {
          status-same = replaced SameStatus (λ n. refl) s.modules m now refl;
          index_same = replaced SameIndex (λ n. refl) s.modules m now refl;
          ancestor-falls = replaced NoHigher (λ n. omega arith) s.modules m now (omega arith);
          stack_same = refl;
          executed-same = refl;
        }

-- popping: the modules of `gone` are EVALUATED, `rest` is the stack, and nothing else changes
pub record Popped (gone rest : List ℕ) (s t : State) : Type 0 where
  pub settles : (x : ℕ) → Memᴰ x gone → (module_at t x).status ≡ evaluated
  pub others : (x : ℕ) → (Memᴰ x gone → ⊥) → (module_at t x).status ≡ (module_at s x).status
  pub index_same : (x : ℕ) → (module_at t x).dfs_index ≡ (module_at s x).dfs_index
  pub ancestor-same : (x : ℕ) → (module_at t x).dfs_ancestor_index ≡ (module_at s x).dfs_ancestor_index
  pub stack_is : t.stack ≡ rest
  pub executed-same : t.executed ≡ s.executed

settled-status : (l : List Module) (r : ℕ) → (get_or (set l r (settled (get_or l r no_module))) r no_module).status ≡ evaluated
settled-status [] r = refl
settled-status (y ∷ l) zero = refl
settled-status (y ∷ l) (suc r) = settled-status l r

removes : (r : ℕ) (rest : List ℕ) (s : State) → Popped (r ∷ []) rest s (remove r rest s)
removes r rest s =
    let now : Module = settled (module_at s r) in
    record {
      settles = λ x h. rw (Memᴰ.eq_of_singleton h) (settled-status s.modules r);
      others = λ x h. ap (λ (n : Module). n.status) (get_or-set_other s.modules r x now no_module (λ p. h (Memᴰ.head p)));
      index_same = replaced SameIndex (λ n. refl) s.modules r now refl;
      ancestor-same = replaced SameAncestor (λ n. refl) s.modules r now refl;
      stack_is = refl;
      executed-same = refl;
    }

popped-more : {r : ℕ} {gone rest rest' : List ℕ} {s t u : State} → Popped (r ∷ []) rest' s t → Popped gone rest t u → Popped (r ∷ gone) rest s u
popped-more {r} {gone} {rest} {rest'} {s} {t} {u} p q = record {
  settles = λ x h. ⊎_elim
      (λ e. q.settles x (elem_mem x gone e))
      (λ e. ⊎_elim (λ i. q.others x (not-elem x gone e) ∙ p.settles x (Memᴰ.head i)) (λ i. absurd (not-elem x gone e i)) (Memᴰ.cases_cons h))
      (both (elem x gone));
  others = λ x h. q.others x (λ i. h (Memᴰ.tail i)) ∙ p.others x (λ i. h (Memᴰ.head (Memᴰ.eq_of_singleton i)));
  index_same = λ x. q.index_same x ∙ p.index_same x;
  ancestor-same = λ x. q.ancestor-same x ∙ p.ancestor-same x;
  stack_is = q.stack_is;
  executed-same = q.executed-same ∙ p.executed-same;
}

-- from a stack with m once in its upper part, the loop pops just that part, m with it
pub pops : (m : ℕ) (added rest : List ℕ) → (Memᴰ m added → ⊥) → (s : State) → Popped (added ++ (m ∷ [])) rest s (pop m (added ++ (m ∷ rest)) s)
unfolding pop
pops m [] rest n s = rw (eq-eqb m m refl, pop) (removes m rest s)
pops m (r ∷ added) rest n s =
    rw (ne_eqb r m (λ p. n (Memᴰ.head (sym p))), pop)
    (popped-more (removes r (added ++ (m ∷ rest)) s) (pops m added rest (λ h. n (Memᴰ.tail h)) (remove r (added ++ (m ∷ rest)) s)))
