-- The rows lead to the sort's targets, each once.
-- Assumes nothing.
use Rattle.std.specs.Prelude.{◌≡◌, ℕ, ◌+◌, ◌-◌, ◌<◌, ◌≤◌, Bool, true, false, cond, eqb, List, [], ◌∷◌, length, get_or, take, replicate}
use mathlib.Core.Path.{refl, sym, ap, subst, ◌∙◌, fun_ext}
use mathlib.Core.Logic.{⊎_elim}
use mathlib.Core.Bool.{true≢false}
use mathlib.Core.List.Memᴰ
use mathlib.Core.List.{flat_map, Memᴰ}
use native.Mathlib.Decide.{dec_lt}
use native.Mathlib.Omega.{arith}
use lib.ListN.{get_or-eq_default}
use lib.Seq.{length-take-le}
use borrow.Author.Tests.{ne_eqb, eqb-false}
use Rattle.lists.specs.Words.{elem, count_from, up_to, Distinct}
use Rattle.lists.proofs.Laws.{both, mem-elem, keep-none, mem-up_to, mem-count_from}
use Rattle.lists.proofs.Members.{mem-flat}
use Rattle.tables.specs.Project.{Project, missing}
use Rattle.tables.specs.Lookups.{FirstRows}
use Rattle.tables.specs.Accepted.{Below}
use Rattle.tables.specs.Readings.{modules, rows_of}
use Rattle.tables.specs.Refusal as refusal
use Rattle.tables.proofs.Rows.{rows-of-run, run-ordered}
use Rattle.sort_visit.specs.Visit.{Fit}
use Rattle.sort_steps.proofs.Rows.{unless-missing, unless-one}
use Rattle.sort_steps.specs.Steps.{unless_missing}
use Rattle.circle_search.specs.inner.Search.{once_after, once}
use Rattle.circle_rows.specs.Rows.{led_row, LedOnce}
use Rattle.circle_visit.specs.Visit.{led_by, Leads}

-- what stands once stands in the list, and not in what was seen
once-in : (seen xs : List ℕ) (x : ℕ) → Memᴰ x (once_after seen xs) → elem x seen ≡ false
once-in seen [] x h = absurd (Memᴰ.not-nil h)
once-in seen (y ∷ xs) x h =
    ⊎_elim (λ e. once-in seen xs x (rw e at h))
    (λ e. ⊎_elim (λ q. ap (λ (v : ℕ). elem v seen) q ∙ e) (λ q. later (eqb x y) (once-in (y ∷ seen) xs x q)) (Memᴰ.cases_cons (rw e at h)))
    (both (elem y seen))
  where
    later : (b : Bool) → cond b true (elem x seen) ≡ false → elem x seen ≡ false
    later true z = absurd (true≢false z)
    later false z = z

pub distinct-once : (xs : List ℕ) → Distinct (once xs)
unfolding Distinct
distinct-once xs = go [] xs
  where
    go : (seen xs : List ℕ) → Distinct (once_after seen xs)
    go seen [] = tt
    go seen (x ∷ xs) =
        ⊎_elim (λ e. rw e (go seen xs))
        (λ e. rw e ((λ h. true≢false (sym (mem-elem x (x ∷ seen) (Memᴰ.head refl)) ∙ once-in (x ∷ seen) xs x h)), go (x ∷ seen) xs))
        (both (elem x seen))

led-one : (t y : ℕ) → Memᴰ y (unless_missing t) → (y ≡ t) × (t ≡ missing → ⊥)
led-one t y h =
    ⊎_elim (λ e. absurd (Memᴰ.not-nil (subst (Memᴰ y) (unless-missing t e) h)))
    (λ e. (Memᴰ.eq_of_singleton (subst (Memᴰ y) (unless-one t e) h), eqb-false t missing e))
    (both (eqb t missing))

module _ {starts led : List ℕ} {n : ℕ} (leads : Leads starts led n) where
  -- each target is a module
  pub led-inside : (m y : ℕ) → Memᴰ y (led_by starts led m) → y < n
  unfolding led_by
  led-inside m y h =
      let a = mem-flat (led_row led) (count_from (get_or starts m 0) (get_or starts (m + 1) 0 - get_or starts m 0)) h in
      let r = mem-count_from (get_or starts m 0) (get_or starts (m + 1) 0 - get_or starts m 0) a.1 in
      let q = led-one (get_or led a.0 0) y a.2 in
      ⊎_elim (λ c. omega (arith, c, q.0)) (λ c. absurd (q.1 c)) (leads.within a.0 (below a.0 r.0 r.1))
    where
      below : (row : ℕ) → get_or starts m 0 ≤ row → row < get_or starts m 0 + (get_or starts (m + 1) 0 - get_or starts m 0) → row < length led
      below row a b = go (dec_lt (m + 1) (length starts))
        where
          go : Dec (m + 1 < length starts) → row < length led
          go (yes k) = omega (arith, a, b, leads.ends (m + 1) k)
          go (no k) = absurd (omega (arith, a, b, get_or-eq_default starts 0 {n = m + 1} (omega arith)))

-- the first row of each module of n, and what its rows lead to, each target once
pub record Led (record_module starts led : List ℕ) (n : ℕ) (targets : ℕ → List ℕ) : Type 0 where
  pub firsts : FirstRows record_module starts
  pub size : length starts ≡ n + 1
  pub inside : Below n record_module
  pub once_led : LedOnce record_module targets n led
  pub same : length led ≡ length record_module

-- as they stand in the parts that are lent
pub led-in_parts : {p : Project} → Fit p (modules p) → Below (modules p) p.record_module → {starts led : List ℕ} {targets : ℕ → List ℕ} → FirstRows p.record_module starts → length starts ≡ length {A = ℕ} (take (modules p + 1) (replicate 4097 0))
    → LedOnce p.record_module targets (modules p) led → length led ≡ length {A = ℕ} (take (length p.record_module) (replicate 16384 0)) → Led p.record_module starts led (modules p) targets
led-in_parts {p} fit inside firsts size once_led same = record {
  firsts = firsts;
  size = size ∙ length-take-le (modules p + 1) (replicate 4097 0) (omega (arith, fit.few));
  inside = inside;
  once_led = once_led;
  same = same ∙ length-take-le (length p.record_module) (replicate 16384 0) fit.rows;
}

module _ {record_module starts led : List ℕ} {n : ℕ} {targets : ℕ → List ℕ} (l : Led record_module starts led n targets) where
  no_rows : (m : ℕ) → (m < n → ⊥) → rows_of record_module m ≡ []
  unfolding rows_of
  no_rows m h = keep-none (λ (row : ℕ). eqb (get_or record_module row 0) m) (up_to (length record_module)) (λ row k. ne_eqb (get_or record_module row 0) m (λ q. h (omega (arith, q, l.inside row (mem-up_to {n = length record_module} k)))))

  run : (m : ℕ) → Dec (m < n) → rows_of record_module m ≡ count_from (get_or starts m 0) (get_or starts (m + 1) 0 - get_or starts m 0)
  run m (yes h) =
      rows-of-run record_module m (get_or starts m 0) (get_or starts (m + 1) 0) (l.firsts.firsts m (omega (arith, l.size))) (l.firsts.firsts (m + 1) (omega (arith, l.size)))
  run m (no h) = no_rows m h ∙ sym (ap (λ (k : ℕ). count_from (get_or starts m 0) (k - get_or starts m 0)) past ∙ ap (count_from (get_or starts m 0)) (let z : 0 - get_or starts m 0 ≡ 0 = omega arith in z))
    where
      past : get_or starts (m + 1) 0 ≡ 0
      past = get_or-eq_default starts 0 {n = m + 1} (omega (arith, l.size))

  pub led-targets : led_by starts led ≡ (λ (m : ℕ). once (targets m))
  unfolding led_by
  led-targets = fun_ext (λ m. ap (flat_map (led_row led)) (sym (run m (dec_lt m n))) ∙ l.once_led.leads m)

  pub led-leads : n ≤ refusal.module_limit → length record_module ≤ refusal.row_limit → Leads starts led n
  led-leads few rows = record {
    places = omega (arith, l.size);
    ends = λ m h. omega (arith, (l.firsts.firsts m h).within, l.same);
    ordered = λ m h. run-ordered record_module m (get_or starts m 0) (get_or starts (m + 1) 0) (l.firsts.firsts m (omega arith)) (l.firsts.firsts (m + 1) h);
    within = l.once_led.within;
    rows = omega (arith, l.same);
    few = few;
  }

  pub led-single : (m : ℕ) → Distinct (led_by starts led m)
  led-single m = subst (λ (f : ℕ → List ℕ). Distinct (f m)) (sym led-targets) (distinct-once (targets m))
