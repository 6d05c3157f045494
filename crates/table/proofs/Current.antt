-- What is read through `newer` passes the tests that the project as it is written passes.
-- Assumes nothing.
use mathlib.Core.Path.{◌≡◌, refl, sym, subst, ◌∙◌}
use mathlib.Core.Logic.{⊎_elim}
use Rattle.std.specs.Prelude.{None}
use mathlib.Core.Bool.{Bool, true, ◌&&◌, ◌||◌}
use mathlib.Core.List.Memᴰ
use mathlib.Core.List.{List, map}
use Prim.Native.Nat.{ℕ, ◌≤◌}
use native.Mathlib.Omega.{arith}
use lib.ListN.{length, length-map}
use lib.Dec.{eqb, ltb}
use borrow.Author.Tests.{ltb-true, lt-ltb, eqb-true}
use Rattle.lists.specs.Words.{every}
use Rattle.lists.proofs.Laws.{and_parts, or_parts, every-mem, mem-every}
use Rattle.tables.specs.Project.{Project, missing}
use Rattle.tables.specs.Readings.{modules, chunks}
use Rattle.tables.specs.Refusal.{module_limit, sized, sizes_fit, below, below_or_missing, settings_in, modules_in, pair_in, symbols_in, chunks_in, values_fit, rows_rise, rows_agree, newer_fits, refusal}
use Rattle.tables.specs.Accepted.{Accepted}
use Rattle.tables.proofs.Accepted.{sizes-fit, all-passed, accepted}
use Rattle.tables.proofs.Number.{none-refused}
use Rattle.replacement.specs.Replacement.{latest, as_read}
use Rattle.replacement.proofs.Chains.{latest-in, latest-past}
use Rattle.table.specs.Table.{read, current}

every_map : (f : ℕ → Bool) (h : ℕ → ℕ) (xs : List ℕ) → ((x : ℕ) → f x ≡ true → f (h x) ≡ true) → every f xs ≡ true → every f (map h xs) ≡ true
every_map f h xs k e =
    mem-every f (map h xs) (λ y m. let r = Memᴰ.of_map h xs m in subst (λ (z : ℕ). f z ≡ true) r.2 (k r.0 (every-mem f xs e r.1)))

-- a column as it is read is as long
pub read_length : (newer xs : List ℕ) → length (as_read newer xs) ≡ length xs
read_length newer xs = length-map xs (latest newer)

module _ (newer : List ℕ) (fits : newer_fits newer ≡ true) (few : length newer ≤ module_limit) where
  -- modules stay modules
  below-read : (xs : List ℕ) → below (length newer) xs ≡ true → below (length newer) (as_read newer xs) ≡ true
  unfolding below
  below-read xs e =
      every_map (λ (x : ℕ). ltb x (length newer)) (latest newer) xs
      (λ x l. lt-ltb (latest newer x) (length newer) (latest-in newer fits x (ltb-true x (length newer) l))) e

  -- and the mark stays the mark
  below-or-missing-read : (xs : List ℕ) → below_or_missing (length newer) xs ≡ true → below_or_missing (length newer) (as_read newer xs) ≡ true
  unfolding below_or_missing
  below-or-missing-read xs e = every_map test (latest newer) xs kept e
    where
      test : ℕ → Bool
      test x = ltb x (length newer) || eqb x missing

      kept : (x : ℕ) → test x ≡ true → test (latest newer x) ≡ true
      kept x h =
          ⊎_elim
          (λ l. rw (lt-ltb (latest newer x) (length newer) (latest-in newer fits x (ltb-true x (length newer) l))))
          (λ q.
          let m = eqb-true x missing q in
          let e : latest newer x ≡ x = latest-past newer x (omega arith) in
          rw e h)
          (or_parts (ltb x (length newer)) (eqb x missing) h)

-- where each of two tests gives the one in its place
two-parts : (a b c d t t' e f f' g h : Bool) → (t ≡ true → t' ≡ true) → (f ≡ true → f' ≡ true)
    → ((a && (b && ((c && (d && t)) && ((e && f) && g)))) && h) ≡ true → ((a && (b && ((c && (d && t')) && ((e && f') && g)))) && h) ≡ true
two-parts a b c d t t' e f f' g h x y z =
    let z1 = and_parts (a && (b && ((c && (d && t)) && ((e && f) && g)))) h z in
    let z2 = and_parts a (b && ((c && (d && t)) && ((e && f) && g))) z1.0 in
    let z3 = and_parts b ((c && (d && t)) && ((e && f) && g)) z2.1 in
    let z4 = and_parts (c && (d && t)) ((e && f) && g) z3.1 in
    let z5 = and_parts c (d && t) z4.0 in
    let z6 = and_parts d t z5.1 in
    let z7 = and_parts (e && f) g z4.1 in
    let z8 = and_parts e f z7.0 in
    rw (z1.1, z2.0, z3.0, z5.0, z6.0, x z6.1, z7.1, z8.0, y z8.1)

module _ (p : Project) where
  sizes-read : sizes_fit (current p) ≡ sizes_fit p
  unfolding sizes_fit sized current read
  sizes-read = rw (read_length p.newer p.record_target, read_length p.newer p.dependency)

  rise-read : rows_rise (current p) ≡ rows_rise p
  unfolding rows_rise current read
  rise-read = refl

  agree-read : rows_agree (current p) ≡ rows_agree p
  unfolding rows_agree current read
  agree-read = refl

  newer-read : newer_fits (current p).newer ≡ newer_fits p.newer
  unfolding current read
  newer-read = refl

  module _ (same : length p.newer ≡ modules p) (few : length p.newer ≤ module_limit) (fits : newer_fits p.newer ≡ true) where
    targets-in : below_or_missing (modules p) p.record_target ≡ true → below_or_missing (modules p) (as_read p.newer p.record_target) ≡ true
    targets-in = rw same at (below-or-missing-read p.newer fits few p.record_target)

    dependencies-in : below (modules p) p.dependency ≡ true → below (modules p) (as_read p.newer p.dependency) ≡ true
    dependencies-in = rw same at (below-read p.newer fits few p.dependency)

    values-read : values_fit p ≡ true → values_fit (current p) ≡ true
    unfolding values_fit current read
    values-read =
        two-parts (settings_in (modules p) p.runtime p.dynamic) (modules_in (chunks p) p.normal p.included p.sensitive p.reads p.exports p.wrap p.chunk) (below (modules p) p.record_module) (below 4 p.record_kind) (below_or_missing (modules p) p.record_target) (below_or_missing (modules p) (as_read p.newer p.record_target)) (below (modules p) p.dependency_module) (below (modules p) p.dependency) (below (modules p) (as_read p.newer p.dependency)) (pair_in (modules p) 2 p.statement_module p.statement_included) (symbols_in p && chunks_in p)
        targets-in dependencies-in

  -- a project that nothing refuses is refused by nothing as it is read
  pub current-tested : refusal p ≡ None → refusal (current p) ≡ None
  current-tested e =
      let t = all-passed p e in
      let s = sizes-fit p t.0 in
      sym (none-refused (current p) (sizes-read ∙ t.0) (values-read s.newer (omega (arith, s.newer, s.normal)) t.4 t.1) (rise-read ∙ t.2) (agree-read ∙ t.3) (newer-read ∙ t.4))

  pub current-accepted : refusal p ≡ None → Accepted (current p)
  current-accepted e = accepted (current p) (current-tested e)
