-- The modules that the analysed entries reach, by marks closed along the records, and the candidates among them.
-- Assumes nothing.
use Rattle.std.specs.Prelude.{◌≡◌, ℕ, ◌<◌, true, not, ◌&&◌, ◌||◌, List, length, get_or}
use mathlib.Core.Path.{refl, sym, ap, subst, ◌∙◌}
use mathlib.Core.Logic.{⊎_elim}
use mathlib.Core.List.{Memᴰ}
use native.Mathlib.Omega.{arith}
use borrow.Author.Tests.{lt-ltb, ltb-true, eqb-true, eq-eqb, ne_eqb}
use Rattle.lists.specs.Words.{has, marks_of}
use Rattle.lists.proofs.Laws.{both, and_parts, and-join, or_parts, or_left, or_right, iff-eq, has_in, mem-keep, keep-mem, elem_mem, mem-elem, length-marks_of, has-marks_of, marks_of-has, marks_of-cong, mark-in}
use Rattle.lists.proofs.Members.{mem-at, mem-flat, flat-mem, get_d-mem}
use Rattle.walk.specs.Walk.{everywhere, post_order}
use Rattle.walk.specs.Reach.{Reach, here, step, ReachAny, passing, through}
use Rattle.walk.specs.Close.{Within, Bits}
use Rattle.walk.proofs.Orders.{order-followed, order-reach, reach-order}
use Rattle.tables.specs.Project.{Project, missing}
use Rattle.tables.specs.Readings.{modules, is_normal, is_import, resolved, any_target, normal_target, row_targets, targets_of, rows_of}
use Rattle.tables.specs.declared.Target.{Target}
use Rattle.tables.specs.declared.Target.TheVariants.{Missing, External, Normal}
use Rattle.tables.specs.Accepted.{Accepted}
use Rattle.tables.proofs.OwnerRows.{rows-mem}
use Rattle.eligibility.specs.Eligible.{eligible, eligible_marks}
use Rattle.eligibility.proofs.Eligible.{eligible-normal}
use Rattle.wrap_rules.specs.Rules.{imports_of}
use Rattle.wrap_rules.specs.Plan.{roots, reached}
use Rattle.import_edges.specs.inner.Spread.{Along, Under, record_targets}
use Rattle.reached_modules.specs.inner.Roots.{Reaching, Chosen}
use Rattle.wrap_rules.specs.inner.Passes.{candidate_marks}
use Rattle.wrap_rules.proofs.Rows.{import-row}
use Rattle.wrap_rules.proofs.Sets.{eligible-has}
use Rattle.import_edges.proofs.OfProject.{target_row, row_target}
use Rattle.import_edges.proofs.Edging.{RowsIn, spreads-rows}
use Rattle.wrap_rules.proofs.Roots.{root_in}

normal-any : (t : Target) (y : ℕ) → Memᴰ y (normal_target t) → Memᴰ y (any_target t)
normal-any Missing y h = h
normal-any (External m) y h = absurd (mathlib.Core.List.Memᴰ.not-nil h)
normal-any (Normal m) y h = h

-- what is chosen along edges is chosen along the records that they are
pub chosen-rows : (included root_list from to from' to' eligibles old candidates : List ℕ) (n : ℕ) → length old ≡ n → RowsIn from to from' to' n → RowsIn from' to' from to n
    → Chosen included root_list from' to' eligibles old candidates → Chosen included root_list from to eligibles old candidates
chosen-rows included root_list from to from' to' eligibles old candidates n e there back h =
    let r = h.reaching in
    record {
      reached_set = h.reached_set;
      reaching = record { start = r.start; len = r.len; root = r.root; only = r.only; spreads = spreads-rows from to from' to' r.start h.reached_set n (r.len ∙ e) there back r.spreads };
      len = h.len;
      bits = h.bits;
      all = h.all;
      only = h.only;
    }

module _ (p : Project) (ok : Accepted p) where
  abbrev succ : ℕ → List ℕ
  succ = targets_of is_import normal_target p.normal p.record_module p.record_kind p.record_target

  -- a step over normal (record_targets p) is a kind 0 record
  succ-import : (m y : ℕ) → Memᴰ y (succ m) → Memᴰ y (imports_of p m)
  unfolding targets_of
  succ-import m y h =
      let r = mem-flat (row_targets is_import normal_target p.normal p.record_kind p.record_target) (rows_of p.record_module m) h in
      flat-mem (row_targets is_import any_target p.normal p.record_kind p.record_target) (rows_of p.record_module m) r.1
      (⊎_elim (λ e. rw e (normal-any (resolved p.normal p.record_target r.0) y (rw e at r.2))) (λ e. absurd (mathlib.Core.List.Memᴰ.not-nil (rw e at r.2))) (both (is_import (get_or p.record_kind r.0 0))))

  -- a kind 0 record to a normal module is a step
  row-succ : (row : ℕ) → row < length p.record_module → get_or p.record_kind row 0 ≡ 0 → (get_or p.record_target row 0 ≡ missing → ⊥) → is_normal p.normal (get_or p.record_target row 0) ≡ true
      → Memᴰ (get_or p.record_target row 0) (succ (get_or p.record_module row 0))
  unfolding targets_of resolved
  row-succ row l k n g =
      flat-mem (row_targets is_import normal_target p.normal p.record_kind p.record_target) (rows_of p.record_module (get_or p.record_module row 0)) (rows-mem p.record_module row l)
      (rw (eq-eqb (get_or p.record_kind row 0) 0 k) (rw (ne_eqb (get_or p.record_target row 0) missing n) (rw g (mathlib.Core.List.Memᴰ.head refl))))

  module _ (t : List ℕ) (h : Reaching p.included (roots p) p.record_module (record_targets p) (modules p) t) where
    t-len : length t ≡ modules p
    t-len = h.spreads.len ∙ h.len

    -- along a path from a marked module
    follow : {m x : ℕ} → has t m ≡ true → Reach (through succ everywhere (modules p)) m x → has t x ≡ true
    unfolding Along
    follow e (here q) = subst (λ (y : ℕ). has t y ≡ true) (sym q) e
    follow e (step {m} {y} s r) =
        let k = mem-keep (passing everywhere (modules p)) (succ m) s in
        let i = import-row p m (succ-import m y k.0) in
        let q : get_or (record_targets p) i.0 0 ≡ y = row_target p ok i.0 i.1 i.3 ∙ i.4 in
        follow
        (subst (λ (x : ℕ). has t x ≡ true) q
        (h.spreads.along i.0 i.1 (subst (λ (x : ℕ). has t x ≡ true) (sym i.2) e) (subst (λ (x : ℕ). x < length t) (sym q) (omega (arith, ltb-true y (modules p) k.1, t-len)))))
        r

    pub reached-marked : (m : ℕ) → reached p m ≡ true → has t m ≡ true
    unfolding reached ReachAny Within
    reached-marked m e =
        let r = order-reach succ everywhere (modules p) (roots p) m (elem_mem m (post_order succ everywhere (modules p) (roots p)) e) in
        let k = mem-keep (passing everywhere (modules p)) (roots p) r.1 in
        let b = root_in p ok r.0 k.0 in
        let a = mem-at (roots p) k.0 in
        let included : has p.included r.0 ≡ true = mark-in (get_or p.included r.0 0) (λ z. omega (arith, eqb-true (get_or p.included r.0 0) 1 b.1)) in
        follow
        (h.spreads.holds r.0
        (subst (λ (x : ℕ). has h.start x ≡ true) a.2 (h.root a.0 a.1 (subst (λ (x : ℕ). has p.included x ≡ true) (sym a.2) included) (subst (λ (x : ℕ). x < modules p) (sym a.2) b.0))))
        r.2

    -- the reached modules and the externals are closed along the records, since an external has none
    abbrev bound : List ℕ
    bound = marks_of (λ (x : ℕ). reached p x || not (is_normal p.normal x)) (modules p)

    bound-has : (x : ℕ) → x < modules p → has bound x ≡ (reached p x || not (is_normal p.normal x))
    bound-has x l = has-marks_of (λ (y : ℕ). reached p y || not (is_normal p.normal y)) (modules p) x l

    bound-len : length bound ≡ modules p
    bound-len = length-marks_of (λ (x : ℕ). reached p x || not (is_normal p.normal x)) (modules p)

    inside : (x : ℕ) → is_normal p.normal x ≡ true → has bound x ≡ true → reached p x ≡ true
    inside x n e =
        let l : x < modules p = rw bound-len at (has_in bound x e) in
        ⊎_elim (λ r. r) (λ z. absurd (mathlib.Core.Bool.true≢false (sym z ∙ ap not n))) (or_parts (reached p x) (not (is_normal p.normal x)) (sym (bound-has x l) ∙ e))

    bound-along : Along p.record_module (record_targets p) bound
    unfolding Along reached
    bound-along row l e k =
        let from : reached p (get_or p.record_module row 0) ≡ true = inside (get_or p.record_module row 0) (ok.agrees.record_module row l) e in
        let i : get_or (record_targets p) row 0 < modules p = omega (arith, k, bound-len) in
        let q = target_row p ok row l i in
        bound-has (get_or (record_targets p) row 0) i
        ∙ ⊎_elim
        (λ g.
        or_left (reached p (get_or (record_targets p) row 0)) _
        (mem-elem (get_or (record_targets p) row 0) (post_order succ everywhere (modules p) (roots p))
        (subst (λ (x : ℕ). Memᴰ x (post_order succ everywhere (modules p) (roots p))) q.1
        (order-followed succ everywhere (modules p) (roots p) (get_or p.record_module row 0) (get_or p.record_target row 0) (elem_mem (get_or p.record_module row 0) (post_order succ everywhere (modules p) (roots p)) from) (row-succ row l q.0 q.2 (subst (λ (x : ℕ). is_normal p.normal x ≡ true) (sym q.1) g)) refl (subst (λ (x : ℕ). x < modules p) (sym q.1) i)))))
        (λ g. or_right (reached p (get_or (record_targets p) row 0)) _ (ap not g))
        (both (is_normal p.normal (get_or (record_targets p) row 0)))

    pub marked-reached : (m : ℕ) → is_normal p.normal m ≡ true → has t m ≡ true → reached p m ≡ true
    unfolding Within Under reached ReachAny
    marked-reached m n e =
        inside m n
        (h.spreads.under bound (bound-len ∙ sym h.len)
        (λ x s.
        let k = h.only x s in
        let r : Memᴰ x (roots p) = subst (λ (y : ℕ). Memᴰ y (roots p)) k.2 (get_d-mem (roots p) k.0 k.1) in
        let l = (root_in p ok x r).0 in
        bound-has x l
        ∙ or_left (reached p x) _
        (mem-elem x (post_order succ everywhere (modules p) (roots p)) (reach-order succ everywhere (modules p) (roots p) x (x, keep-mem (passing everywhere (modules p)) (roots p) r (lt-ltb x (modules p) l), here refl))))
        bound-along m e)

  -- the candidates
  pub chosen-candidates : (old candidates : List ℕ) → length old ≡ modules p → Bits old → Chosen p.included (roots p) p.record_module (record_targets p) (eligible_marks p) old candidates → candidates ≡ candidate_marks p
  unfolding Bits
  chosen-candidates old candidates n b h =
      let len : length candidates ≡ modules p = h.len ∙ n in
      let r : Reaching p.included (roots p) p.record_module (record_targets p) (modules p) h.reached_set = subst (λ (i : ℕ). Reaching p.included (roots p) p.record_module (record_targets p) i h.reached_set) n h.reaching in
      sym (marks_of-has candidates (h.bits b))
      ∙ ap (marks_of (has candidates)) len
      ∙ marks_of-cong (has candidates) (λ (m : ℕ). eligible p m && reached p m) (modules p)
      (λ m l.
      iff-eq (has candidates m) (eligible p m && reached p m)
      (λ e.
      let q = h.only m e in
      let g : eligible p m ≡ true = sym (eligible-has p m) ∙ q.1 in
      and-join (eligible p m) (reached p m) g (marked-reached h.reached_set r m (eligible-normal p m g) q.0))
      (λ e.
      let q = and_parts (eligible p m) (reached p m) e in
      h.all m (omega (arith, n)) (reached-marked h.reached_set r m q.1) (eligible-has p m ∙ q.0)))
