-- How many circles there can be, for crates above.
-- Assumes nothing.
use Rattle.std.specs.Prelude.{◌≡◌, ℕ, suc, ◌+◌, ◌<◌, ◌≤◌, eqb, List, [], ◌∷◌, length, get_or, replicate}
use mathlib.Core.Path.{sym, ap, subst, ◌∙◌}
use mathlib.Core.Logic.{⊎_elim}
use mathlib.Core.List.Memᴰ
use mathlib.Core.List.{flat_map, Memᴰ}
use native.Mathlib.Omega.{arith}
use lib.ListN.{length-append}
use Rattle.lists.specs.Words.{elem, up_to}
use Rattle.lists.proofs.Laws.{both, length-keep, length-count_from, mem-keep, mem-up_to}
use Rattle.lists.proofs.Members.{mem-flat}
use Rattle.walk.proofs.Visits.{zeros-replicate}
use Rattle.tables.specs.Project.{Project}
use Rattle.tables.specs.Readings.{modules, is_static, any_target, row_targets, rows_of, targets_of}
use Rattle.tables.specs.Refusal.{row_limit}
use Rattle.tables.specs.Accepted.{Accepted}
use Rattle.tables.proofs.Accepted.{below-mem}
use Rattle.sort_steps.proofs.Rows.{few, led-in}
use Rattle.circle_search.specs.inner.Search.{Held, once_after, once}
use Rattle.circle_search.proofs.Searches.{searches-room}
use Rattle.circle_search.proofs.Once.{circles-once}
use Rattle.circle_search.proofs.States.{add, circles-found}
use Rattle.circle_gathering.proofs.Leading.{distinct-once}
use Rattle.import_circles.specs.OfProject.{walked, roots_of, circles_of}

once-few : (seen xs : List ℕ) → length (once_after seen xs) ≤ length xs
once-few seen [] = omega arith
once-few seen (x ∷ xs) = ⊎_elim (λ e. rw e (omega (arith, once-few seen xs))) (λ e. rw e (omega (arith, once-few (x ∷ seen) xs))) (both (elem x seen))

once-mem : (seen xs : List ℕ) (y : ℕ) → Memᴰ y (once_after seen xs) → Memᴰ y xs
once-mem seen [] y h = h
once-mem seen (x ∷ xs) y h =
    ⊎_elim (λ e. Memᴰ.tail (once-mem seen xs y (rw e at h)))
    (λ e. ⊎_elim (λ q. Memᴰ.head q) (λ q. Memᴰ.tail (once-mem (x ∷ seen) xs y q)) (Memᴰ.cases_cons (rw e at h)))
    (both (elem x seen))

flat-few : (f : ℕ → List ℕ) → ((x : ℕ) → length (f x) ≤ 1) → (xs : List ℕ) → length (flat_map f xs) ≤ length xs
unfolding flat_map
flat-few f h [] = omega arith
flat-few f h (x ∷ xs) = omega (arith, length-append (f x) (flat_map f xs), h x, flat-few f h xs)

module _ (p : Project) (ok : Accepted p) where
  -- a row leads to one module at most
  row-few : (row : ℕ) → length (row_targets (is_static p.dynamic) any_target p.normal p.record_kind p.record_target row) ≤ 1
  row-few row = few p.dynamic p.normal p.record_kind p.record_target row (λ (l : List ℕ). length l ≤ 1) (omega arith) (λ t. omega arith)

  walked-few : (m : ℕ) → length (walked p m) ≤ row_limit
  unfolding walked targets_of rows_of
  walked-few m =
      omega (arith, flat-few (row_targets (is_static p.dynamic) any_target p.normal p.record_kind p.record_target) row-few (rows_of p.record_module m), length-keep (λ (row : ℕ). eqb (get_or p.record_module row 0) m) (up_to (length p.record_module)), length-count_from 0 (length p.record_module), ok.sizes.record_module)

  -- each target is a module
  pub walked-inside : (m y : ℕ) → Memᴰ y (walked p m) → y < modules p
  unfolding walked targets_of rows_of
  walked-inside m y h =
      let f = row_targets (is_static p.dynamic) any_target p.normal p.record_kind p.record_target in
      let a = mem-flat f (rows_of p.record_module m) h in
      let r = mem-up_to {n = length p.record_module} (mem-keep (λ (row : ℕ). eqb (get_or p.record_module row 0) m) (up_to (length p.record_module)) a.1).0 in
      led-in p.dynamic p.normal p.record_kind p.record_target a.0 (modules p) y ok.values.record_target (omega (arith, r, ok.sizes.record_target))
      (few p.dynamic p.normal p.record_kind p.record_target a.0 (λ (l : List ℕ). Memᴰ y l → l ≡ y ∷ []) (λ z. absurd (Memᴰ.not-nil z)) (λ t z. ap (λ (x : ℕ). x ∷ []) (sym (Memᴰ.eq_of_singleton z))) a.2)

  -- each root is a module
  pub roots-inside : (y : ℕ) → Memᴰ y (roots_of p) → y < modules p
  unfolding roots_of
  roots-inside y h = ⊎_elim (λ q. subst (λ (x : ℕ). x < modules p) (sym q) ok.values.runtime) (λ q. below-mem p.entry ok.values.entry q) (Memᴰ.cases_cons h)

  roots_few : length (roots_of p) ≤ row_limit + 1
  unfolding roots_of
  roots_few = omega (arith, ok.sizes.entry)

  pub circles-few : length (circles_of p) ≤ 134217728
  unfolding circles_of
  circles-few =
      let succ : ℕ → List ℕ = λ m. once (walked p m) in
      let n = modules p in
      let start : Held (List (List ℕ)) = record { states = replicate n 0; begun = []; made = [] } in
      let e = circles-found succ n (λ m y h. walked-inside m y (once-mem [] (walked p m) y h)) (λ m. distinct-once (walked p m)) (roots_of p) roots-inside in
      let r = searches-room succ add row_limit (λ m. omega (arith, once-few [] (walked p m), walked-few m)) (λ (l : List (List ℕ)). length l) (λ l path. omega (arith, length-append l (path ∷ []))) (suc n) start (roots_of p) in
      omega (arith, ap length (e ∙ circles-once (walked p) n (roots_of p)), r, zeros-replicate n, ok.sizes.normal, roots_few)
