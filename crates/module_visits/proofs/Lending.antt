-- A visit that enters a place, visits what is pending one by one, and leaves it: what is known between two of them, and at the end.
-- Assumes nothing.
use Rattle.std.specs.Prelude.{◌≡◌, ℕ, suc, ◌+◌, ◌-◌, ◌<◌, ◌≤◌, Bool, true, false, cond, List, [], ◌∷◌, ◌++◌, length, set, slice_index_or, slice_set}
use mathlib.Core.Path.{refl, sym, ap, subst, ◌∙◌}
use mathlib.Core.Logic.{⊎_elim}
use mathlib.Core.List.Memᴰ
use mathlib.Core.List.{flat_map, append_assoc, append-nil, nil≢cons, Memᴰ}
use native.Mathlib.Omega.{arith}
use lib.ListN.{length-set, length-append}
use Rattle.lists.specs.Words.{is_zero, count_from, zeros}
use Rattle.lists.proofs.Laws.{both}
use Rattle.walk.specs.Walk.{St, fresh, Visits, everywhere}
use Rattle.walk.proofs.Visits.{Grown, set-zeros, visit-old}
use Rattle.walk.proofs.Going.{none-visited, met-visited, left-visited, visited-grown, visited-then, visited-keeps, visited-room}
use Rattle.visit_steps.specs.declared.inner.ActualOrderTraversal.{ActualOrderTraversal}
use Rattle.visit_steps.specs.inner.Steps.{named, leads}

-- what a visit still visits: whether it entered its place, whether there is one more, which one, and the rows behind that one
pub record Pending : Type 0 where
  pub entered : Bool
  pub more : Bool
  pub place : ℕ
  pub row : ℕ
  pub end : ℕ

-- what a visit still visits, where its rows lead to places
abbrev pub behind : (ℕ → List ℕ) → Pending → List ℕ
behind rows p = flat_map rows (count_from p.row (p.end - p.row))

abbrev pub pending : (ℕ → List ℕ) → Pending → List ℕ
pending rows p = cond p.more (p.place ∷ behind rows p) []

-- `rest` is what is left of `all` once some that are met are passed over
pub record Passed (marks all rest : List ℕ) : Type 0 where
  pub over : List ℕ
  pub parts : all ≡ over ++ rest
  pub met : (m : ℕ) → Memᴰ m over → is_zero (slice_index_or marks m 1) ≡ false

-- one place further, past those that are met
pub record Next (column marks : List ℕ) (p next : Pending) : Type 0 where
  pub rest : Passed marks (behind (named column) p) (pending (named column) next)
  pub entered : next.entered ≡ p.entered
  pub end : next.end ≡ p.end

-- a visit of m begins: where m was not met, it is marked, and what its rows name is pending
pub record Entered (starts column marks : List ℕ) (m : ℕ) (marks' : List ℕ) (p : Pending) : Type 0 where
  pub entered : p.entered ≡ is_zero (slice_index_or marks m 1)
  pub marked : marks' ≡ cond p.entered (slice_set marks m 1) marks
  pub leads : Passed marks' (cond p.entered (leads starts column m) []) (pending (named column) p)
  pub within : p.end ≤ length column

-- what is pending: one more and what is behind it, or nothing
module _ (rows : ℕ → List ℕ) (p : Pending) where
  pub pending-more : p.more ≡ true → pending rows p ≡ p.place ∷ behind rows p
  pending-more e = ap (λ (b : Bool). cond b (p.place ∷ behind rows p) []) e

  pub pending-none : p.more ≡ false → pending rows p ≡ []
  pending-none e = ap (λ (b : Bool). cond b (p.place ∷ behind rows p) []) e

-- marking a place, or not
marked-length : (b : Bool) (marks : List ℕ) (m : ℕ) → length (cond b (set marks m 1) marks) ≡ length marks
marked-length true marks m = length-set marks m 1
marked-length false marks m = refl

nil-more : (xs : List ℕ) (x : ℕ) (ys : List ℕ) → [] ≡ xs ++ (x ∷ ys) → ⊥
nil-more [] x ys e = nil≢cons e
nil-more (y ∷ xs) x ys e = nil≢cons e

module _ (starts column : List ℕ) {A : Type 0} (act : A → ℕ → A) where
  abbrev succ : ℕ → List ℕ
  succ = leads starts column

  -- from s to t the first of `all` were visited, and `todo` is left
  pub record Between (s : St A) (all todo : List ℕ) (t : St A) : Type 0 where
    pub done : List ℕ
    pub parts : all ≡ done ++ todo
    pub so_far : Visits (leads starts column) everywhere act s done t

  -- places that are met change nothing
  met_all : (t : St A) (xs : List ℕ) → ((x : ℕ) → Memᴰ x xs → fresh t x ≡ false) → Visits succ everywhere act t xs t
  met_all t [] f = none-visited succ everywhere act t
  met_all t (x ∷ xs) f = visited-then succ everywhere act (met-visited succ everywhere act t x (f x (Memᴰ.head refl))) (met_all t xs (λ y h. f y (Memᴰ.tail h)))

  between-passed : {s t : St A} {all todo rest : List ℕ} → Between s all todo t → Passed t.marks todo rest → Between s all rest t
  between-passed {s} {t} {all} {todo} {rest} b p = record {
    done = b.done ++ p.over;
    parts = b.parts ∙ ap (λ (l : List ℕ). b.done ++ l) p.parts ∙ sym (append_assoc b.done p.over rest);
    so_far = visited-then succ everywhere act b.so_far (met_all t p.over p.met);
  }

  pub between_start : (s : St A) {all rest : List ℕ} → Passed s.marks all rest → Between s all rest s
  between_start s p = between-passed (record { done = []; parts = refl; so_far = none-visited succ everywhere act s }) p

  -- one more is visited, and those behind it that are met are passed over
  pub between_next : {s t u : St A} {all todo behind rest : List ℕ} {x : ℕ} → Between s all todo t → todo ≡ x ∷ behind → Visits (leads starts column) everywhere act t (x ∷ []) u → Passed u.marks behind rest → Between s all rest u
  between_next {behind = behind} {x = x} b e v p = between-passed (record {
    done = b.done ++ (x ∷ []);
    parts = b.parts ∙ ap (λ (l : List ℕ). b.done ++ l) e ∙ sym (append_assoc b.done (x ∷ []) behind);
    so_far = visited-then succ everywhere act b.so_far v;
  }) p

  -- the visit of m from s: it has begun, with `marks` and what is pending at first, and stands at t
  module _ (s : St A) (m : ℕ) (marks : List ℕ) (first : Pending) (e : Entered starts column s.marks m marks first) where
    abbrev pub begun : St A
    begun = record { marks = marks; made = s.made }

    -- all that m leads to, where it was entered
    abbrev all-led : List ℕ
    all-led = cond first.entered (leads starts column m) []

    was-fresh : first.entered ≡ true → fresh s m ≡ true
    was-fresh h = sym e.entered ∙ h

    one_less : first.entered ≡ true → suc (zeros marks) ≡ zeros s.marks
    one_less h = ap (λ (l : List ℕ). suc (zeros l)) (e.marked ∙ ap (λ (b : Bool). cond b (set s.marks m 1) s.marks) h) ∙ set-zeros s.marks m (was-fresh h)

    no_more : zeros marks ≤ zeros s.marks
    no_more =
        ⊎_elim
        (λ h. omega (arith, one_less h))
        (λ h. let q : marks ≡ s.marks = e.marked ∙ ap (λ (b : Bool). cond b (set s.marks m 1) s.marks) h in omega (arith, ap zeros q))
        (both first.entered)

    module _ {todo : List ℕ} {t : St A} (b : Between begun all-led todo t) where
      grown : Grown marks t.marks
      grown = visited-grown succ everywhere act b.so_far

      pub between-marks : length t.marks ≡ length s.marks
      between-marks = grown.len ∙ ap length e.marked ∙ marked-length first.entered s.marks m

      pub between-keeps : (P : A → Type 0) → ((a : A) (x : ℕ) → P a → P (act a x)) → P s.made → P t.made
      between-keeps P keeps h = visited-keeps succ everywhere act P keeps b.so_far h

      module _ (size : A → ℕ) (rises : (a : A) (x : ℕ) → size (act a x) ≤ size a + 1) where
        begun-room : size t.made + zeros t.marks ≤ size s.made + zeros marks
        begun-room = visited-room succ everywhere act size rises b.so_far

        -- there is room for all that are not met, and before a place that was entered is left, for one more
        pub between-room : size t.made + zeros t.marks ≤ size s.made + zeros s.marks
        between-room = omega (arith, begun-room, no_more)

        pub between-one : first.entered ≡ true → size t.made + zeros t.marks < size s.made + zeros s.marks
        between-one h = omega (arith, begun-room, one_less h)

      -- one more is left: m was entered, so fewer are not met, and it is one that m leads to
      module _ {x : ℕ} {rest : List ℕ} (some : todo ≡ x ∷ rest) where
        was-entered : first.entered ≡ true
        was-entered =
            ⊎_elim
            (λ h. h)
            (λ h. absurd (nil-more b.done x rest (sym (ap (λ (c : Bool). cond c (leads starts column m) []) h) ∙ b.parts ∙ ap (λ (l : List ℕ). b.done ++ l) some)))
            (both first.entered)

        pub between-falls : zeros t.marks < zeros s.marks
        between-falls = omega (arith, one_less was-entered, grown.fewer)

        pub between-leads : Memᴰ x (leads starts column m)
        between-leads =
            subst (Memᴰ x) (sym (sym (ap (λ (c : Bool). cond c (leads starts column m) []) was-entered) ∙ b.parts ∙ ap (λ (l : List ℕ). b.done ++ l) some))
            (Memᴰ.append_right b.done (Memᴰ.head refl))

      -- nothing is left: m is visited, once the action is done if it was entered
      module _ (none : todo ≡ []) where
        all_done : Visits succ everywhere act begun all-led t
        all_done = subst (λ (l : List ℕ). Visits succ everywhere act begun l t) (sym (b.parts ∙ ap (λ (l : List ℕ). b.done ++ l) none ∙ append-nil b.done)) b.so_far

        pub between-end : Visits (leads starts column) everywhere act s (m ∷ []) (record { marks = t.marks; made = cond first.entered (act t.made m) t.made })
        between-end =
            ⊎_elim
            (λ h.
            let q : marks ≡ set s.marks m 1 = e.marked ∙ ap (λ (c : Bool). cond c (set s.marks m 1) s.marks) h in
            let l : all-led ≡ leads starts column m = ap (λ (c : Bool). cond c (leads starts column m) []) h in
            subst (λ (c : Bool). Visits succ everywhere act s (m ∷ []) (record { marks = t.marks; made = cond c (act t.made m) t.made })) (sym h)
            (left-visited succ everywhere act s t m refl (was-fresh h)
            (subst (λ (k : List ℕ). Visits succ everywhere act (record { marks = k; made = s.made }) (leads starts column m) t) q (subst (λ (k : List ℕ). Visits succ everywhere act begun k t) l all_done))))
            (λ h.
            let q : marks ≡ s.marks = e.marked ∙ ap (λ (c : Bool). cond c (set s.marks m 1) s.marks) h in
            let l : all-led ≡ [] = ap (λ (c : Bool). cond c (leads starts column m) []) h in
            let same : begun ≡ t = (subst (λ (k : List ℕ). Visits succ everywhere act begun k t) l all_done).same (zeros marks) (omega arith) in
            subst (λ (c : Bool). Visits succ everywhere act s (m ∷ []) (record { marks = t.marks; made = cond c (act t.made m) t.made })) (sym h)
            (subst (Visits succ everywhere act s (m ∷ [])) (ap (λ (k : List ℕ). record { marks = k; made = s.made }) (sym q) ∙ same)
            (record { same = λ k z. visit-old succ everywhere act k s m (sym e.entered ∙ h) })))
            (both first.entered)

-- between two visits, what a loop holds: it began with `marked` and what is pending at first, the counters h and what was made, x
pub record Lending (starts column : List ℕ) {A X : Type 0} (act : A → ℕ → A) (mk : X → ℕ → A) (x : X) (h : ActualOrderTraversal) (m : ℕ) (marked : List ℕ) (first p : Pending) (t : ActualOrderTraversal) (ms : List ℕ) (xs : X) : Type 0 where
  pub equal : t.next ≡ t.placed
  pub entered : p.entered ≡ first.entered
  pub end : p.end ≡ first.end
  pub between : Between starts column act (record { marks = marked; made = mk x h.placed }) (cond first.entered (leads starts column m) []) (pending (named column) p) (record { marks = ms; made = mk xs t.placed })

-- the visit with the counters lent: mk makes what is made of the slices and the placed count
module _ (starts column : List ℕ) {A X : Type 0} (act : A → ℕ → A) (mk : X → ℕ → A)
    (marks : List ℕ) (x : X) (h : ActualOrderTraversal) (m : ℕ) (marked : List ℕ) (first : Pending) (e : Entered starts column marks m marked first) where
  abbrev from : St A
  from = record { marks = marks; made = mk x h.placed }

  -- between two visits
  pub record Lent : Type 0 where
    pub p : Pending
    pub t : ActualOrderTraversal
    pub ms : List ℕ
    pub xs : X
    pub equal : t.next ≡ t.placed
    pub entered : p.entered ≡ first.entered
    pub end : p.end ≡ first.end
    pub between : Between starts column act (record { marks = marked; made = mk x h.placed }) (cond first.entered (leads starts column m) []) (pending (named column) p) (record { marks = ms; made = mk xs t.placed })

  abbrev pub lent-turn : (p : Pending) (t : ActualOrderTraversal) (ms : List ℕ) (xs : X) → Lending starts column act mk x h m marked first p t ms xs → Lent
  lent-turn p t ms xs l = record { p = p; t = t; ms = ms; xs = xs; equal = l.equal; entered = l.entered; end = l.end; between = l.between }

  abbrev pub lending : (s : Lent) → Lending starts column act mk x h m marked first s.p s.t s.ms s.xs
  lending s = record { equal = s.equal; entered = s.entered; end = s.end; between = s.between }

  abbrev pub lent-start : h.next ≡ h.placed → Lent
  lent-start q = record { p = first; t = h; ms = marked; xs = x; equal = q; entered = refl; end = refl; between = between_start starts column act _ e.leads }

  module _ (s : Lent) where
    pub lent-marks : length s.ms ≡ length marks
    lent-marks = between-marks starts column act from m marked first e s.between

    pub lent-keeps : (P : A → Type 0) → ((a : A) (y : ℕ) → P a → P (act a y)) → P (mk x h.placed) → P (mk s.xs s.t.placed)
    lent-keeps P keeps q = between-keeps starts column act from m marked first e s.between P keeps q

    pub lent-within : s.p.end ≤ length column
    lent-within = omega (arith, s.end, e.within)

    -- room for all that are not met, and for one more where m was entered
    pub lent-room : (size : A → ℕ) → ((x : X) (n : ℕ) → size (mk x n) ≡ n) → ((a : A) (m : ℕ) → size (act a m) ≤ size a + 1) → s.t.placed + zeros s.ms ≤ h.placed + zeros marks
    lent-room size size_is rises = omega (arith, between-room starts column act from m marked first e s.between size rises, size_is s.xs s.t.placed, size_is x h.placed)

    pub lent_one : (size : A → ℕ) → ((x : X) (n : ℕ) → size (mk x n) ≡ n) → ((a : A) (m : ℕ) → size (act a m) ≤ size a + 1) → s.p.entered ≡ true → s.t.placed + zeros s.ms < h.placed + zeros marks
    lent_one size size_is rises q = omega (arith, between-one starts column act from m marked first e s.between size rises (sym s.entered ∙ q), size_is s.xs s.t.placed, size_is x h.placed)

    module _ (more : s.p.more ≡ true) where
      pub lent-falls : zeros s.ms < zeros marks
      lent-falls = between-falls starts column act from m marked first e s.between (pending-more (named column) s.p more)

      pub lent-leads : Memᴰ s.p.place (leads starts column m)
      lent-leads = between-leads starts column act from m marked first e s.between (pending-more (named column) s.p more)

      abbrev pub lent-next : (r : Pending) (t : ActualOrderTraversal) (ms : List ℕ) (xs : X) → Next column ms s.p r → t.next ≡ t.placed
          → Visits (leads starts column) everywhere act (record { marks = s.ms; made = mk s.xs s.t.placed }) (s.p.place ∷ []) (record { marks = ms; made = mk xs t.placed }) → Lent
      lent-next r t ms xs n q v = record {
        p = r;
        t = t;
        ms = ms;
        xs = xs;
        equal = q;
        entered = n.entered ∙ s.entered;
        end = n.end ∙ s.end;
        between = between_next starts column act s.between (pending-more (named column) s.p more) v n.rest;
      }

      pub lent-nearer : (r : Pending) (ms : List ℕ) → Next column ms s.p r → length (pending (named column) r) < length (pending (named column) s.p)
      lent-nearer r ms n = omega (arith, ap length n.rest.parts, length-append n.rest.over (pending (named column) r), ap length (pending-more (named column) s.p more))

    pub lent-end : s.p.more ≡ false → Visits (leads starts column) everywhere act from (m ∷ []) (record { marks = s.ms; made = cond s.p.entered (act (mk s.xs s.t.placed) m) (mk s.xs s.t.placed) })
    lent-end q =
        subst (λ (b : Bool). Visits (leads starts column) everywhere act from (m ∷ []) (record { marks = s.ms; made = cond b (act (mk s.xs s.t.placed) m) (mk s.xs s.t.placed) })) (sym s.entered)
        (between-end starts column act from m marked first e s.between (pending-none (named column) s.p q))
