-- What the columns that the visits read say of the definitions: the ways in which modules execute, what record rows trigger, and where rows start.
-- Assumes nothing.
use Rattle.std.specs.Prelude.{◌≡◌, ℕ, ◌+◌, ◌<◌, ◌≤◌, Bool, true, false, cond, not, ◌&&◌, eqb, ◌⊎◌, List, [], ◌∷◌, length, get_or}
use mathlib.Core.Path.{refl, sym, ap, subst, ◌∙◌}
use mathlib.Core.Logic.{inl, inr}
use mathlib.Core.List.{flat_map}
use native.Mathlib.Omega.{arith}
use native.Mathlib.Decide.{dec_lt}
use lib.ListN.{get_or-eq_default}
use borrow.Author.Tests.{ne_eqb}
use Rattle.lists.specs.Words.{keep}
use Rattle.lists.proofs.Laws.{keep-keep, keep-cong, get_d-map-up_to, length-map-up_to}
use Rattle.lists.proofs.Maps.{keep-flat, flat-cong, flat-ones}
use Rattle.tables.specs.Project.{missing}
use Rattle.tables.specs.Lookups.{FirstRows}
use Rattle.tables.specs.Accepted.{Below, BelowOrMissing}
use Rattle.tables.specs.Readings.{is_normal, wrapped, is_eager, any_target, normal_target, pick_target, resolved, first_of, rows_of, row_targets, targets_of, values_of}
use Rattle.tables.specs.declared.Target.TheVariants.{Missing, External, Normal}
use Rattle.tables.proofs.Rows.{run-ordered, rows-of-run}
use Rattle.tables.proofs.Targets.{normal-in}
use Rattle.tables.proofs.OwnerRows.{mem-rows}
use Rattle.triggers.specs.inner.Columns.{way_of, runs, row_trigger, ways, triggers}
use Rattle.triggers.proofs.Columns.{way-external}
use Rattle.visit_steps.specs.inner.Steps.{Spans, named, leads, in_way}
use Rattle.entry_run.specs.Actual.{executes, triggered, unwrapped}

-- what the rows of an owner name, the mark left out
unfoldable pub named_by : List ℕ → List ℕ → ℕ → List ℕ
named_by owner column m = flat_map (named column) (rows_of owner m)

-- the first rows of a column of owners
module _ {owner starts : List ℕ} (first : FirstRows owner starts) where
  pub spans : (n rows : ℕ) → n < length starts → rows ≡ length owner → Spans starts rows n
  spans n rows room e = record {
    room = room;
    rising = λ m l. run-ordered owner m (get_or starts m 0) (get_or starts (m + 1) 0) (first.firsts m (omega (arith, room))) (first.firsts (m + 1) (omega (arith, room)));
    within = λ m l. omega (arith, e, (first.firsts (m + 1) (omega (arith, room))).within);
  }

  -- the rows from its start on are the owner's
  pub leads-named : (column : List ℕ) (m : ℕ) → m + 1 < length starts → leads starts column m ≡ named_by owner column m
  unfolding leads named_by
  leads-named column m l = ap (flat_map (named column)) (sym (rows-of-run owner m (get_or starts m 0) (get_or starts (m + 1) 0) (first.firsts m (omega arith)) (first.firsts (m + 1) l)))

pub named-values : (n : ℕ) (owner column : List ℕ) (m : ℕ) → n ≤ missing → length column ≡ length owner → Below n column → named_by owner column m ≡ values_of owner column m
unfolding named_by values_of
named-values n owner column m k e b =
    flat-ones (named column) (λ (row : ℕ). get_or column row 0) (rows_of owner m) (λ row h. one row (omega (arith, e, (mem-rows owner m h).0)))
  where
    one : (row : ℕ) → row < length column → named column row ≡ get_or column row 0 ∷ []
    one row l = rw (ne_eqb (get_or column row 0) missing (λ q. absurd (omega (arith, b row l))))

module _ (normal included wrap : List ℕ) (n : ℕ) (size : length normal ≡ n) where
  abbrev ws : List ℕ
  ws = ways normal included wrap n

  way_at : (m : ℕ) → get_or ws m 0 ≡ way_of normal included wrap m
  way_at m = go (dec_lt m n)
    where
      go : Dec (m < n) → get_or ws m 0 ≡ way_of normal included wrap m
      go (yes h) = get_d-map-up_to (way_of normal included wrap) n m 0 h
      go (no h) =
          get_or-eq_default ws 0 (omega (arith, length-map-up_to (way_of normal included wrap) n))
          ∙ sym (way-external normal included wrap m (λ e. let z : get_or normal m 0 ≡ 0 = get_or-eq_default normal 0 (omega arith) in omega arith))

  -- as a member: wrap 0; where it is triggered, or last: wrap not 0
  way-one : (m : ℕ) → in_way 1 ws m ≡ (unwrapped wrap m && executes normal included m)
  way-one m = ap (λ (w : ℕ). eqb w 1) (way_at m) ∙ go (executes normal included m) (wrapped wrap m)
    where
      go : (e w : Bool) → eqb (cond e (cond w 2 1) 0) 1 ≡ (not w && e)
      go true true = refl
      go true false = refl
      go false true = refl
      go false false = refl

  two : (m : ℕ) → eqb (way_of normal included wrap m) 2 ≡ (wrapped wrap m && executes normal included m)
  two m = go (executes normal included m) (wrapped wrap m)
    where
      go : (e w : Bool) → eqb (cond e (cond w 2 1) 0) 2 ≡ (w && e)
      go true true = refl
      go true false = refl
      go false true = refl
      go false false = refl

  pub keep_one : (xs : List ℕ) → keep (in_way 1 (ways normal included wrap n)) xs ≡ keep (executes normal included) (keep (unwrapped wrap) xs)
  keep_one xs = keep-cong (in_way 1 ws) _ xs (λ x h. way-one x) ∙ sym (keep-keep (executes normal included) (unwrapped wrap) xs)

  pub keep_two : (xs : List ℕ) → keep (in_way 2 (ways normal included wrap n)) xs ≡ keep (executes normal included) (keep (wrapped wrap) xs)
  keep_two xs = keep-cong (in_way 2 ws) _ xs (λ x h. ap (λ (w : ℕ). eqb w 2) (way_at x) ∙ two x) ∙ sym (keep-keep (executes normal included) (wrapped wrap) xs)

  runs-kept : (xs : List ℕ) → runs normal included wrap xs ≡ keep (executes normal included) (keep (wrapped wrap) xs)
  runs-kept xs = keep-cong (λ (t : ℕ). eqb (way_of normal included wrap t) 2) _ xs (λ x h. two x) ∙ sym (keep-keep (executes normal included) (wrapped wrap) xs)

  -- what a row triggers
  module _ (kind target : List ℕ) (row : ℕ) where
    abbrev t : ℕ
    t = get_or target row 0

    abbrev one : ℕ → List ℕ
    one x = cond (eqb x missing) [] (x ∷ [])

    none : one missing ≡ []
    none = refl

    -- by its kind, whether its target is missing, and whether that is normal
    by_row : (b p q : Bool) → eqb t missing ≡ p → is_normal normal t ≡ q
        → one (first_of (runs normal included wrap (cond b (normal_target (pick_target p Missing (pick_target q (Normal t) (External t)))) [])))
        ≡ keep (executes normal included) (keep (wrapped wrap) (cond b (any_target (pick_target p Missing (pick_target q (Normal t) (External t)))) []))
    by_row false p q e f = none
    by_row true true q e f = none
    by_row true false false e f = none ∙ sym (keep-keep (executes normal included) (wrapped wrap) (t ∷ []) ∙ out (wrapped wrap t))
      where
        out : (w : Bool) → cond (w && executes normal included t) (t ∷ []) [] ≡ []
        out true = rw f
        out false = refl
    by_row true false true e f = listed (eqb (way_of normal included wrap t) 2) ∙ runs-kept (t ∷ [])
      where
        listed : (c : Bool) → one (first_of (cond c (t ∷ []) [])) ≡ cond c (t ∷ []) []
        listed true = rw e
        listed false = none

    pub row-names : one (row_trigger normal included wrap kind target row) ≡ keep (executes normal included) (keep (wrapped wrap) (row_targets is_eager any_target normal kind target row))
    unfolding resolved
    row-names = by_row (is_eager (get_or kind row 0)) (eqb t missing) (is_normal normal t) refl refl

    by-row-in : (b p q : Bool) → is_normal normal t ≡ q → let x = first_of (runs normal included wrap (cond b (normal_target (pick_target p Missing (pick_target q (Normal t) (External t)))) [])) in (x < n) ⊎ (x ≡ missing)
    by-row-in false p q f = inr refl
    by-row-in true true q f = inr refl
    by-row-in true false false f = inr refl
    by-row-in true false true f = kept (eqb (way_of normal included wrap t) 2)
      where
        kept : (c : Bool) → (first_of (cond c (t ∷ []) []) < n) ⊎ (first_of (cond c (t ∷ []) []) ≡ missing)
        kept true = inl (omega (arith, size, normal-in normal t f))
        kept false = inr refl

    pub row_inside : (row_trigger normal included wrap kind target row < n) ⊎ (row_trigger normal included wrap kind target row ≡ missing)
    unfolding resolved
    row_inside = by-row-in (is_eager (get_or kind row 0)) (eqb t missing) (is_normal normal t) refl

  -- what record rows trigger
  module _ (owner kind target : List ℕ) where
    abbrev trs : List ℕ
    trs = triggers normal included wrap kind target (length owner)

    trigger-at : (row : ℕ) → row < length owner → get_or trs row 0 ≡ row_trigger normal included wrap kind target row
    trigger-at row l = get_d-map-up_to (row_trigger normal included wrap kind target) (length owner) row 0 l

    pub triggers-inside : BelowOrMissing n (triggers normal included wrap kind target (length owner))
    triggers-inside i l = subst (λ (x : ℕ). (x < n) ⊎ (x ≡ missing)) (sym (trigger-at i (omega (arith, length-map-up_to (row_trigger normal included wrap kind target) (length owner))))) (row_inside kind target i)

    -- the rows of a module name those that it triggers and that execute
    pub triggers-named : (m : ℕ) → named_by owner (triggers normal included wrap kind target (length owner)) m ≡ keep (executes normal included) (triggered normal wrap owner kind target m)
    unfolding named_by triggered targets_of
    triggers-named m =
        let gate : ℕ → Bool = executes normal included in
        let f : ℕ → List ℕ = row_targets is_eager any_target normal kind target in
        flat-cong (named trs) (λ (row : ℕ). keep gate (keep (wrapped wrap) (f row))) (rows_of owner m)
        (λ row h. ap (λ (x : ℕ). cond (eqb x missing) [] (x ∷ [])) (trigger-at row (mem-rows owner m h).0) ∙ row-names kind target row)
        ∙ sym (ap (keep gate) (keep-flat (wrapped wrap) f (rows_of owner m)) ∙ keep-flat gate (λ (row : ℕ). keep (wrapped wrap) (f row)) (rows_of owner m))
