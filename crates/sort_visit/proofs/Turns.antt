-- A lent visit, turn by turn: what the slices and the counters hold, what a call may rely on, and how a turn leads to the next.
-- Assumes nothing.
use Rattle.std.specs.Prelude.{◌≡◌, ℕ, suc, ◌+◌, ◌<◌, ◌≤◌, Bool, true, false, cond, List, [], ◌∷◌, length, get_or, take, set}
use mathlib.Core.Path.{refl, sym, ap, subst, ◌∙◌}
use native.Mathlib.Nat.{le_antisymm}
use native.Mathlib.Omega.{arith}
use native.Mathlib.Numerals.{add-one}
use lib.ListN.{length-set}
use lib.Seq.{take-suc}
use Rattle.lists.specs.Words.{is_zero, zeros}
use Rattle.lists.proofs.Laws.{not-false, not-true}
use Rattle.walk.specs.Walk.{St, everywhere, Visits}
use Rattle.walk.proofs.Visits.{set-zeros}
use Rattle.walk.proofs.Going.{Going, going_start, going-row, going-found, going_end, met-visited, left-visited, visited-then}
use Rattle.tables.specs.Project.{Project, missing}
use Rattle.tables.specs.Accepted.{BelowOrMissing}
use Rattle.tables.specs.Lookups.{FirstRow}
use Rattle.tables.specs.Readings.{is_static, any_target, row_targets, targets_of}
use Rattle.tables.proofs.Rows.{run-ordered, targets-of-run}
use Rattle.sort_steps.specs.declared.inner.Counters.{Counters}
use Rattle.sort_steps.specs.Steps.{Met, unmet_of, Numbered, made, number}
use Rattle.sort_visit.specs.Visit.{Indexed, held, Room}
use Rattle.sort_steps.proofs.Rows.{led-all, led-met}
use Rattle.sort_visit.proofs.Carried.{Carried, carried, room_after}

-- the counters, the marks, the numbers and the list
pub record Now : Type 0 where
  pub c : Counters
  pub ms : List ℕ
  pub ns : List ℕ
  pub ss : List ℕ

abbrev pub at : Counters → List ℕ → List ℕ → List ℕ → Now
at c ms ns ss = record { c = c; ms = ms; ns = ns; ss = ss }

-- before the first visit
abbrev pub none : Counters
none = record { placed = 0; next = 0 }

abbrev pub stood : Now → St Numbered
stood t = held t.ms t.ns t.ss t.c.placed t.c.next

-- a module that was not met is marked
abbrev pub marked : Now → ℕ → Now
marked t m = record { c = t.c; ms = set t.ms m 1; ns = t.ns; ss = t.ss }

pub is-marked : (t : Now) (m : ℕ) {z : Bool} (ms : List ℕ) → Met t.ms m z ms → z ≡ false → (is_zero (get_or t.ms m 1) ≡ true) × (ms ≡ set t.ms m 1)
is-marked t m ms e n = (not-false (is_zero (get_or t.ms m 1)) (sym e.before ∙ n), e.marked ∙ ap (λ (b : Bool). cond b t.ms (set t.ms m 1)) n)

module _ (p : Project) where
  -- what a visit asks
  abbrev pub Prepared : List ℕ → Now → ℕ → Type 0
  Prepared starts t m = Indexed p starts (length t.ms) × (m < length t.ms) × Room t.ms t.ns t.ss t.c.placed t.c.next

  abbrev succ : ℕ → List ℕ
  succ = targets_of (is_static p.dynamic) any_target p.normal p.record_module p.record_kind p.record_target

  -- what visits in turn ensure
  abbrev pub Visited : Now → List ℕ → Now → Type 0
  Visited t xs u = Visits succ everywhere (number p.normal) (stood t) xs (stood u)

  pub carried_on : {t u : Now} {xs : List ℕ} → Visited t xs u → Carried t.ms t.ns t.ss t.c.placed t.c.next u.ms u.ns u.ss u.c.placed u.c.next
  carried_on v = carried p.normal succ v

  abbrev rows : ℕ → List ℕ
  rows = row_targets (is_static p.dynamic) any_target p.normal p.record_kind p.record_target

  module _ (t₀ : Now) (m : ℕ) where
    -- a module that was met is passed
    pub passed : {z : Bool} (ms : List ℕ) → Met t₀.ms m z ms → z ≡ true → Visited t₀ (m ∷ []) (record { c = t₀.c; ms = ms; ns = t₀.ns; ss = t₀.ss })
    passed {z} ms e y =
        let old : is_zero (get_or t₀.ms m 1) ≡ false = not-true (is_zero (get_or t₀.ms m 1)) (sym e.before ∙ y) in
        let same : t₀.ms ≡ ms = sym (e.marked ∙ ap (λ (b : Bool). cond b t₀.ms (set t₀.ms m 1)) y) in
        subst (λ (l : List ℕ). Visits succ everywhere (number p.normal) (stood t₀) (m ∷ []) (held l t₀.ns t₀.ss t₀.c.placed t₀.c.next)) same (met-visited succ everywhere (number p.normal) (stood t₀) m old)

    module _ (starts : List ℕ) where
      -- the module's rows: from its first to the next module's first
      abbrev pub first : ℕ
      first = get_or starts m 0

      abbrev pub end : ℕ
      end = get_or starts (m + 1) 0

      -- between the rows
      pub record Turn : Type 0 where
        pub row : ℕ
        pub at : Now
        pub going : Going succ everywhere (number p.normal) rows first (stood (marked t₀ m)) row (stood at)
        pub upto : row ≤ end

      -- what a loop over the rows keeps
      abbrev pub Between : ℕ → Now → Type 0
      Between row at = Going succ everywhere (number p.normal) rows first (stood (marked t₀ m)) row (stood at) × (row ≤ end)

      abbrev pub turn : (row : ℕ) (at : Now) → Between row at → Turn
      turn row at b = record { row = row; at = at; going = b.0; upto = b.1 }

      abbrev pub between : (u : Turn) → Between u.row u.at
      between u = (u.going, u.upto)

      module _ (ready : Prepared starts t₀ m) (fresh : is_zero (get_or t₀.ms m 1) ≡ true) where
        pub first-is : FirstRow p.record_module m first
        first-is = let x = ready.0 in x.firsts.firsts m (omega (arith, x.places, ready.1))

        pub end_is : FirstRow p.record_module (m + 1) end
        end_is = let x = ready.0 in x.firsts.firsts (m + 1) (omega (arith, x.places, ready.1))

        abbrev pub begin : Turn
        begin = record { row = first; at = marked t₀ m; going = going_start succ everywhere (number p.normal) rows first (stood (marked t₀ m)); upto = run-ordered p.record_module m first end first-is end_is }

        one_less : suc (zeros (set t₀.ms m 1)) ≡ zeros t₀.ms
        one_less = set-zeros t₀.ms m fresh

        module _ (u : Turn) where
          kept : Carried (set t₀.ms m 1) t₀.ns t₀.ss t₀.c.placed t₀.c.next u.at.ms u.at.ns u.at.ss u.at.c.placed u.at.c.next
          kept = carried p.normal succ u.going.so_far

          pub marks-len : length u.at.ms ≡ length t₀.ms
          marks-len = kept.marks-len ∙ length-set t₀.ms m 1

          pub numbers-len : length u.at.ns ≡ length t₀.ns
          numbers-len = kept.numbers-len

          -- there is room for what is not met, and the module's own number and place
          roomy : Room u.at.ms u.at.ns u.at.ss (u.at.c.placed + 1) (u.at.c.next + 1)
          roomy =
              let r = ready.2 in
              let k = kept in
              record {
                places = k.numbers-len ∙ r.places ∙ sym marks-len;
                lists = omega (arith, k.lists, one_less, r.lists, k.sorted-len);
                counts = omega (arith, k.counts, one_less, r.counts);
              }

          pub row_in : u.row < end → (u.row < length p.record_kind) × (u.row < length p.record_target) × BelowOrMissing (length u.at.ms) p.record_target
          row_in less =
              let q = ready.0.fit in
              (omega (arith, q.kinds, end_is.within), omega (arith, q.targets, end_is.within), subst (λ (n : ℕ). BelowOrMissing n p.record_target) (sym marks-len) q.within)

          -- a row that leads to nothing unmet
          abbrev pub skip : u.row < end → unmet_of u.at.ms (rows u.row) ≡ [] → Turn
          skip less e = record {
            row = u.row + 1;
            at = u.at;
            going = going-row succ everywhere (number p.normal) rows first (stood (marked t₀ m)) u.going (led-met p.dynamic p.normal p.record_kind p.record_target u.row succ everywhere (number p.normal) (stood u.at) e);
            upto = omega arith;
          }

          module _ (t : ℕ) (less : u.row < end) (e : unmet_of u.at.ms (rows u.row) ≡ t ∷ []) where
            pub leads : rows u.row ≡ t ∷ []
            leads = led-all p.dynamic p.normal p.record_kind p.record_target u.row u.at.ms t e

            -- a row that leads to a module, which is visited
            pub call-ready : t < length u.at.ms → Prepared starts u.at t
            call-ready l =
                let q = roomy in (
                  subst (Indexed p starts) (sym marks-len) ready.0,
                  l,
                  record { places = q.places; lists = omega (arith, q.lists); counts = omega (arith, q.counts) },
                )

            pub fewer : zeros u.at.ms < zeros t₀.ms
            fewer = omega (arith, kept.fewer, one_less)

            abbrev pub found : (v : Now) → Visited u.at (t ∷ []) v → Turn
            found v took = record {
              row = u.row + 1;
              at = v;
              going = going-found succ everywhere (number p.normal) rows first (stood (marked t₀ m)) u.going leads took;
              upto = omega arith;
            }

          -- past the last row, the module is left
          pub leave-ready : (m < length p.normal) × (m < length u.at.ns) × (u.at.c.placed < length u.at.ss) × (u.at.c.next < missing)
          leave-ready =
              let q = roomy in
              (omega (arith, ready.0.fit.size, ready.1), omega (arith, ready.1, ready.2.places, numbers-len), omega (arith, q.lists), omega (arith, q.counts))

          pub ended : end ≤ u.row → (r : Counters) (ns ss : List ℕ) → made ns ss r.placed r.next ≡ number p.normal (made u.at.ns u.at.ss u.at.c.placed u.at.c.next) m
              → Visited t₀ (m ∷ []) (record { c = r; ms = u.at.ms; ns = ns; ss = ss })
          ended past r ns ss e =
              subst (λ (a : Numbered). Visits succ everywhere (number p.normal) (stood t₀) (m ∷ []) (record { marks = u.at.ms; made = a })) (sym e)
              (left-visited succ everywhere (number p.normal) (stood t₀) (stood u.at) m refl fresh
              (going_end succ everywhere (number p.normal) rows first (stood (marked t₀ m)) u.going (le_antisymm u.upto past)
              (targets-of-run p.record_module m first end first-is end_is (is_static p.dynamic) any_target p.normal p.record_kind p.record_target)))

-- ---- the roots
module _ (p : Project) {starts : List ℕ} {t : Now} (indexed : Indexed p starts (length t.ms)) (room : Room t.ms t.ns t.ss t.c.placed t.c.next) where
  -- after visits of some roots, a further one may be visited
  pub root-ready : {u : Now} {xs : List ℕ} {m : ℕ} → Visited p t xs u → m < length t.ms → Prepared p starts u m
  root-ready v l = let k = carried_on p v in (subst (Indexed p starts) (sym k.marks-len) indexed, omega (arith, l, k.marks-len), room_after room k)

-- one root more
pub root-visited : (p : Project) {t u v : Now} {m : ℕ} (roots : List ℕ) (i : ℕ) → i < length roots → Visited p t (m ∷ take i roots) u → Visited p u (get_or roots i 0 ∷ []) v → Visited p t (m ∷ take (i + 1) roots) v
root-visited p {t} {v = w} {m} roots i l before next =
    subst (λ (xs : List ℕ). Visited p t (m ∷ xs) w) (sym (ap (λ (k : ℕ). take k roots) (add-one i) ∙ take-suc roots i 0 l))
    (visited-then (targets_of (is_static p.dynamic) any_target p.normal p.record_module p.record_kind p.record_target) everywhere (number p.normal) before next)
