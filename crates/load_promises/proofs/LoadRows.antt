-- What the rows of a plain project's modules lead to.
-- Assumes nothing.
use mathlib.Core.Path.{◌≡◌, refl, sym, ap, subst, ◌∙◌}
use mathlib.Core.Logic.{⊎_elim}
use mathlib.Core.Bool.{Bool, true, false, not, true≢false, false≢true}
use mathlib.Core.List.Memᴰ
use mathlib.Core.List.{List, [], ◌∷◌, Memᴰ}
use Prim.Native.Nat.{ℕ, zero, suc, ◌<◌}
use native.Mathlib.Omega.{arith}
use lib.ListN.{length, get_or}
use lib.Dec.{eqb, ltb}
use borrow.Author.Tests.{eq-eqb, eqb-true, eqb-false, lt-ltb, ltb-true}
use Rattle.lists.specs.Words.{up_to, any, every, elem, has}
use Rattle.lists.proofs.Laws.{both, not-true, and-join, iff-eq, mem-keep, keep-mem, mem-any, every-mem, up_to-mem, mem-elem, elem_mem}
use Rattle.lists.proofs.Members.{mem-flat, flat-mem}
use Rattle.walk.specs.Walk.{everywhere, post_order}
use Rattle.walk.specs.Reach.{here, ReachAny, passing}
use Rattle.walk.proofs.Orders.{order-followed, reach-order}
use Rattle.tables.specs.Project.{Project, missing}
use Rattle.tables.specs.Readings.{modules, is_normal, wrapped, is_import, is_eager, any_target, normal_target, resolved, row_targets, targets_of, rows_of, values_of}
use Rattle.tables.specs.declared.Target.TheVariants.{Missing, External, Normal}
use Rattle.tables.proofs.Targets.{normal-in}
use Rattle.entry_run.specs.Actual.{triggered, read_as_two}
use Rattle.eligibility.specs.Eligible.{eligible}
use Rattle.wrap_rules.specs.Rules.{imports_of, leads, import_asks}
use Rattle.wrap_rules.specs.Plan.{reached, roots, import_rule}
use Rattle.order_analysis.specs.Promise.{whole_plan}
use Rattle.promises.specs.Statements.{WholePlanIsLeast}
use Rattle.load_promises.specs.Load.{implies, reached_normal, normal_imports, only_eligible, no_require, imports_are_dependencies, Plain}
use Rattle.promises.proofs.Theorems.{whole_plan_is_least}

pub implied : (a b : Bool) → implies a b ≡ true → a ≡ true → b ≡ true
implied true b e h = e
implied false b e h = absurd (false≢true h)

-- but for kind 1, a record wakes what it imports
eager-import : (k : ℕ) → eqb k 1 ≡ false → is_eager k ≡ is_import k
eager-import k e =
    iff-eq (ltb k 2) (eqb k 0) (λ l. let h = ltb-true k 2 l in eq-eqb k 0 (other k h (eqb-false k 1 e))) (λ q. let h = eqb-true k 0 q in lt-ltb k 2 (omega arith))
  where
    other : (j : ℕ) → j < 2 → (j ≡ 1 → ⊥) → j ≡ 0
    other zero l n = refl
    other (suc zero) l n = absurd (n refl)
    other (suc (suc j)) l n = absurd (omega arith)

module _ (normal kind target : List ℕ) (row : ℕ) where
  abbrev pub led : List ℕ
  led = row_targets is_import normal_target normal kind target row

  abbrev pub woken : List ℕ
  woken = row_targets is_eager any_target normal kind target row

  abbrev imported : List ℕ
  imported = row_targets is_import any_target normal kind target row

  -- a row that is no require leads nowhere, to an external module that it wakes, or to a normal one that it wakes
  pub data RowCase : Type 0 where
    none : led ≡ [] → woken ≡ [] → RowCase
    outer : (t : ℕ) → is_normal normal t ≡ false → led ≡ [] → woken ≡ t ∷ [] → RowCase
    inner : (t : ℕ) → is_normal normal t ≡ true → led ≡ t ∷ [] → woken ≡ t ∷ [] → RowCase

  abbrev at : ℕ
  at = get_or target row 0

  no_target : eqb at missing ≡ true → resolved normal target row ≡ Missing
  unfolding resolved
  no_target m = rw m

  normal-target : eqb at missing ≡ false → is_normal normal at ≡ true → resolved normal target row ≡ Normal at
  unfolding resolved
  normal-target m q = rw (m, q)

  external-target : eqb at missing ≡ false → is_normal normal at ≡ false → resolved normal target row ≡ External at
  unfolding resolved
  external-target m q = rw (m, q)

  pub row-case : eqb (get_or kind row 0) 1 ≡ false → RowCase
  row-case e =
      ⊎_elim
      (λ i.
      let j : is_eager (get_or kind row 0) ≡ true = eager-import (get_or kind row 0) e ∙ i in
      ⊎_elim
      (λ m. none (rw (i, no_target m)) (rw (j, no_target m)))
      (λ m.
      ⊎_elim (λ q. inner at q (rw (i, normal-target m q)) (rw (j, normal-target m q)))
      (λ q. outer at q (rw (i, external-target m q)) (rw (j, external-target m q)))
      (both (is_normal normal at)))
      (both (eqb at missing)))
      (λ i. let j : is_eager (get_or kind row 0) ≡ false = eager-import (get_or kind row 0) e ∙ i in none (rw i) (rw j))
      (both (is_import (get_or kind row 0)))

  led-normal : (y : ℕ) → Memᴰ y led → (is_normal normal y ≡ true) × Memᴰ y imported
  led-normal y h =
      ⊎_elim
      (λ (i : is_import (get_or kind row 0) ≡ true).
      ⊎_elim
      (λ m. let z : led ≡ [] = rw (i, no_target m) in absurd (Memᴰ.not-nil (subst (Memᴰ y) z h)))
      (λ m.
      ⊎_elim
      (λ q.
      let one : led ≡ at ∷ [] = rw (i, normal-target m q) in
      let also : imported ≡ at ∷ [] = rw (i, normal-target m q) in
      let o : y ≡ at = Memᴰ.eq_of_singleton (subst (Memᴰ y) one h) in
      (ap (is_normal normal) o ∙ q, subst (Memᴰ y) (sym also) (Memᴰ.head o)))
      (λ q. let z : led ≡ [] = rw (i, external-target m q) in absurd (Memᴰ.not-nil (subst (Memᴰ y) z h)))
      (both (is_normal normal at)))
      (both (eqb at missing)))
      (λ (i : is_import (get_or kind row 0) ≡ false). let z : led ≡ [] = rw i in absurd (Memᴰ.not-nil (subst (Memᴰ y) z h)))
      (both (is_import (get_or kind row 0)))

module _ (p : Project) where
  -- a normal import is normal, and an import
  pub import-normal : (m y : ℕ) → Memᴰ y (normal_imports p m) → (is_normal p.normal y ≡ true) × Memᴰ y (imports_of p m)
  unfolding targets_of
  import-normal m y h =
      let r = mem-flat (row_targets is_import normal_target p.normal p.record_kind p.record_target) (rows_of p.record_module m) h in
      let a = led-normal p.normal p.record_kind p.record_target r.0 y r.2 in
      (a.0, flat-mem (row_targets is_import any_target p.normal p.record_kind p.record_target) (rows_of p.record_module m) r.1 a.1)

  pub import-reached : (m y : ℕ) → reached p m ≡ true → Memᴰ y (normal_imports p m) → reached p y ≡ true
  unfolding reached
  import-reached m y e h =
      let order : List ℕ = post_order (normal_imports p) everywhere (modules p) (roots p) in
      mem-elem y order (order-followed (normal_imports p) everywhere (modules p) (roots p) m y (elem_mem m order e) h refl (normal-in p.normal y (import-normal m y h).0))

  pub root-reached : (root : ℕ) → Memᴰ root (roots p) → is_normal p.normal root ≡ true → reached p root ≡ true
  unfolding reached ReachAny
  root-reached root h e =
      mem-elem root (post_order (normal_imports p) everywhere (modules p) (roots p))
      (reach-order (normal_imports p) everywhere (modules p) (roots p) root (root, keep-mem (passing everywhere (modules p)) (roots p) h (lt-ltb root (modules p) (normal-in p.normal root e)), here refl))

  -- a planned module leads to itself
  planned-leads : (S : List ℕ) (y : ℕ) → y < modules p → has S y ≡ true → leads p S y ≡ true
  unfolding leads ReachAny
  planned-leads S y l e =
      mem-any (has S) (post_order (imports_of p) everywhere (modules p) (y ∷ []))
      (reach-order (imports_of p) everywhere (modules p) (y ∷ []) y (y, keep-mem (passing everywhere (modules p)) (y ∷ []) (Memᴰ.head refl) (lt-ltb y (modules p) l), here refl)) e

module _ (p : Project) (plain : Plain p) where
  -- (a)
  pub reached-eligible : (m : ℕ) → reached p m ≡ true → is_normal p.normal m ≡ true → eligible p m ≡ true
  unfolding only_eligible
  reached-eligible m r e =
      implied (reached_normal p m) (eligible p m) (every-mem (λ (x : ℕ). implies (reached_normal p x) (eligible p x)) (up_to (modules p)) plain.eligibles (up_to-mem (normal-in p.normal m e)))
      (and-join (reached p m) (is_normal p.normal m) r e)

  -- (b)
  pub no-require : (m row : ℕ) → reached p m ≡ true → is_normal p.normal m ≡ true → Memᴰ row (rows_of p.record_module m) → eqb (get_or p.record_kind row 0) 1 ≡ false
  unfolding no_require values_of
  no-require m row r e h =
      let values : List ℕ = values_of p.record_module p.record_kind m in
      let a =
      implied (reached_normal p m) (not (elem 1 values)) (every-mem (λ (x : ℕ). implies (reached_normal p x) (not (elem 1 (values_of p.record_module p.record_kind x)))) (up_to (modules p)) plain.requires (up_to-mem (normal-in p.normal m e)))
      (and-join (reached p m) (is_normal p.normal m) r e)
      in
      ⊎_elim
      (λ k.
      absurd (true≢false (sym (mem-elem 1 values (subst (λ (x : ℕ). Memᴰ x values) (eqb-true (get_or p.record_kind row 0) 1 k) (Memᴰ.map (λ (i : ℕ). get_or p.record_kind i 0) h))) ∙ not-true (elem 1 values) a)))
      (λ k. k)
      (both (eqb (get_or p.record_kind row 0) 1))

  -- (c) and rule (iii): what an unplanned module imports is unplanned
  pub import-unplanned : (m y : ℕ) → reached p m ≡ true → is_normal p.normal m ≡ true → has (whole_plan p) m ≡ false → Memᴰ y (normal_imports p m) → has (whole_plan p) y ≡ false
  unfolding imports_are_dependencies WholePlanIsLeast import_asks
  import-unplanned m y r e u h =
      ⊎_elim
      (λ q.
      let plan : List ℕ = whole_plan p in
      let depends : List ℕ = values_of p.dependency_module p.dependency m in
      let a =
      implied (reached_normal p m) (every (λ (t : ℕ). elem t depends) (normal_imports p m)) (every-mem (λ (x : ℕ). implies (reached_normal p x) (every (λ (t : ℕ). elem t (values_of p.dependency_module p.dependency x)) (normal_imports p x))) (up_to (modules p)) plain.dependencies (up_to-mem (normal-in p.normal m e)))
      (and-join (reached p m) (is_normal p.normal m) r e)
      in
      let d = elem_mem y depends (every-mem (λ (t : ℕ). elem t depends) (normal_imports p m) a h) in
      let i = import-normal p m y h in
      let asked =
      and-join (eligible p m) _ (reached-eligible m r e)
      (and-join (reached p m) _ r
      (and-join (any (has plan) depends) (any (leads p plan) (imports_of p m)) (mem-any (has plan) depends d q) (mem-any (leads p plan) (imports_of p m) i.1 (planned-leads p plan y (normal-in p.normal y i.0) q))))
      in
      absurd (true≢false (sym ((whole_plan_is_least p).holds.closed import_rule m (normal-in p.normal m e) asked) ∙ u)))
      (λ q. q)
      (both (has (whole_plan p) y))

  -- a normal module that a reached one wakes, whatever the wraps, is imported by it and wrapped
  pub woken-import : (wrap : List ℕ) (m y : ℕ) → reached p m ≡ true → is_normal p.normal m ≡ true → Memᴰ y (triggered p.normal wrap p.record_module p.record_kind p.record_target m)
      → is_normal p.normal y ≡ true → Memᴰ y (normal_imports p m) × (wrapped wrap y ≡ true)
  unfolding triggered targets_of
  woken-import wrap m y r e h n =
      let k = mem-keep (wrapped wrap) (targets_of is_eager any_target p.normal p.record_module p.record_kind p.record_target m) h in
      let f = mem-flat (row_targets is_eager any_target p.normal p.record_kind p.record_target) (rows_of p.record_module m) k.0 in (
        flat-mem (row_targets is_import normal_target p.normal p.record_kind p.record_target) (rows_of p.record_module m) f.1 (go f.0 (row-case p.normal p.record_kind p.record_target f.0 (no-require m f.0 r e f.1)) f.2),
        k.1,
      )
    where
      go : (row : ℕ) → RowCase p.normal p.record_kind p.record_target row → Memᴰ y (woken p.normal p.record_kind p.record_target row) → Memᴰ y (led p.normal p.record_kind p.record_target row)
      go row (none a b) i = absurd (Memᴰ.not-nil (subst (Memᴰ y) b i))
      go row (outer t q a b) i = absurd (true≢false (sym n ∙ ap (is_normal p.normal) (Memᴰ.eq_of_singleton (subst (Memᴰ y) b i)) ∙ q))
      go row (inner t q a b) i = subst (Memᴰ y) (sym a) (subst (Memᴰ y) b i)

-- the wraps with a set read as 2

pub two_at : (S wraps : List ℕ) (m : ℕ) → m < length wraps → has S m ≡ true → wrapped (read_as_two S wraps) m ≡ true
two_at S [] m l e = absurd (omega arith)
two_at [] (w ∷ wraps) m l e = absurd (false≢true e)
two_at (zero ∷ S) (w ∷ wraps) zero l e = absurd (false≢true e)
two_at (suc x ∷ S) (w ∷ wraps) zero l e = refl
two_at (x ∷ S) (w ∷ wraps) (suc m) l e = two_at S wraps m (omega arith) e

pub else-as-written : (S wraps : List ℕ) (m : ℕ) → has S m ≡ false → wrapped (read_as_two S wraps) m ≡ wrapped wraps m
else-as-written S [] m e = refl
else-as-written [] (w ∷ wraps) m e = refl
else-as-written (zero ∷ S) (w ∷ wraps) zero e = refl
else-as-written (suc x ∷ S) (w ∷ wraps) zero e = absurd (true≢false e)
else-as-written (x ∷ S) (w ∷ wraps) (suc m) e = else-as-written S wraps m e
