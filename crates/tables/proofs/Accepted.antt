-- What a project that no test refuses is known to be.
-- Assumes nothing.
use Rattle.std.specs.Prelude.{◌≡◌, ℕ, zero, suc, ◌<◌, ◌≤◌, Bool, true, false, cond, not, ◌&&◌, ◌||◌, eqb, ltb, leb, ◌⊎◌, List, [], ◌∷◌, length, get_or, None, Some}
use mathlib.Core.Path.{refl, sym, ◌∙◌}
use mathlib.Core.Logic.{⊎_map}
use mathlib.Core.Bool.{true≢false}
use mathlib.Core.List.{zip, zip_with, Memᴰ}
use native.Mathlib.Omega.{arith}
use borrow.Author.Tests.{ltb-true, leb-true, eqb-true, eqb-false, eq-eqb}
use Rattle.lists.specs.Words.{is_zero, up_to, any, every, twice, Distinct}
use Rattle.lists.proofs.Laws.{and_parts, and-join, or_parts, not-true, every-mem, up_to-mem, mem-elem, mem-any}
use Rattle.lists.proofs.Members.{mem-at}
use Rattle.lists.proofs.Tests.{every-at}
use Rattle.tables.specs.Project.{Project, missing}
use Rattle.tables.specs.Readings.{modules, is_normal}
use Rattle.tables.specs.Refusal.{module_limit, chunk_limit, row_limit, sized, code_sized, symbols_sized, chunks_sized, sizes_fit, below, below_or_missing, code_in, symbols_in, chunks_in, values_fit, rows_rise, same_pair, all_normal, uses_own, depended_resolved, plain_symbols, entries_once, imports_once, rows_agree, newer_fits, refusal}
use Rattle.tables.specs.declared.Refusal.TheVariants.{ListSize, ColumnValue, RowOrder, RowConflict, NewerRow}
use Rattle.tables.specs.Accepted.{Below, BelowOrMissing, Sizes, Values, Rises, Agrees, Accepted}
use Rattle.tables.proofs.Rise.{rises-rising}

-- a member of a column is below the column's bound
pub below-mem : {x n : ℕ} (xs : List ℕ) → Below n xs → Memᴰ x xs → x < n
below-mem xs b h = let r = mem-at xs h in omega (arith, b r.0 r.1, r.2)

-- 1

-- each is as long as the column
abbrev pub AsLong : List ℕ → List (List ℕ) → Type 0
AsLong column [] = Unit {0}
AsLong column (other ∷ others) = (length other ≡ length column) × AsLong column others

as_long : (column : List ℕ) (others : List (List ℕ)) → ((other : List ℕ) → Memᴰ other others → eqb (length other) (length column) ≡ true) → AsLong column others
as_long column [] h = tt
as_long column (other ∷ others) h = (eqb-true _ _ (h other (Memᴰ.head refl)), as_long column others (λ x m. h x (Memᴰ.tail m)))

pub sized-list : (limit : ℕ) (column : List ℕ) (others : List (List ℕ)) → sized limit column others ≡ true → (length column ≤ limit) × AsLong column others
unfolding sized
sized-list limit column others e =
    let same : List ℕ → Bool = λ (other : List ℕ). eqb (length other) (length column) in
    let b = and_parts (leb (length column) limit) (every same others) e in
    (leb-true _ _ b.0, as_long column others (λ other m. every-mem same others b.1 m))

positive : (n : ℕ) → not (is_zero n) ≡ true → 1 ≤ n
positive zero e = absurd (true≢false (sym e))
positive (suc n) e = omega arith

pub sizes-fit : (p : Project) → sizes_fit p ≡ true → Sizes p
unfolding sizes_fit
sizes-fit p e =
    let g = and_parts (code_sized p) (symbols_sized p && chunks_sized p) e in
    let h = and_parts (symbols_sized p) (chunks_sized p) g.1 in
    let c0 = and_parts _ _ g.0 in
    let c1 = and_parts _ _ c0.1 in
    let c2 = and_parts _ _ c1.1 in
    let m = and_parts (not (is_zero (modules p))) _ c0.0 in
    let s0 = and_parts _ _ h.0 in
    let s1 = and_parts _ _ s0.1 in
    let s2 = and_parts _ _ s1.1 in
    let s3 = and_parts _ _ s2.1 in
    let k0 = and_parts _ _ h.1 in
    let k1 = and_parts _ _ k0.1 in
    let k2 = and_parts _ _ k1.1 in
    let k3 = and_parts _ _ k2.1 in
    let l0 = sized-list module_limit p.normal (p.included ∷ p.sensitive ∷ p.reads ∷ p.exports ∷ p.wrap ∷ p.chunk ∷ p.newer ∷ []) m.1 in
    let l1 = sized-list row_limit p.record_module (p.record_kind ∷ p.record_target ∷ []) c1.0 in
    let l2 = sized-list row_limit p.dependency_module (p.dependency ∷ []) c2.0 in
    let l3 = sized-list row_limit p.statement_module (p.statement_included ∷ []) c2.1 in
    let l4 = sized-list row_limit p.use_statement (p.use_record ∷ []) s0.0 in
    let l5 = sized-list row_limit p.owner (p.canonical ∷ []) s1.0 in
    let l6 = sized-list row_limit p.chain_symbol (p.chain_link ∷ []) s2.0 in
    let l7 = sized-list row_limit p.reference_statement (p.reference_form ∷ p.reference_symbol ∷ []) s3.0 in
    let l8 = sized-list row_limit p.depended_reference (p.depended ∷ []) s3.1 in
    let l9 = sized-list chunk_limit p.order [] k0.0 in
    let l10 = sized-list row_limit p.member_chunk (p.member ∷ []) k1.0 in
    let l11 = sized-list row_limit p.import_chunk (p.imports ∷ []) k2.0 in
    let l12 = sized-list row_limit p.entry (p.entry_chunk ∷ []) k3.0 in
    let l13 = sized-list row_limit p.seed [] k3.1 in
    record {
      some = positive _ m.0;
      normal = l0.0;
      included = l0.1.0;
      sensitive = l0.1.1.0;
      reads = l0.1.1.1.0;
      exports = l0.1.1.1.1.0;
      wrap = l0.1.1.1.1.1.0;
      chunk = l0.1.1.1.1.1.1.0;
      newer = l0.1.1.1.1.1.1.1.0;
      record_module = l1.0;
      record_kind = l1.1.0;
      record_target = l1.1.1.0;
      dependency_module = l2.0;
      dependency = l2.1.0;
      statement_module = l3.0;
      statement_included = l3.1.0;
      use_statement = l4.0;
      use_record = l4.1.0;
      owner = l5.0;
      canonical = l5.1.0;
      chain_symbol = l6.0;
      chain_link = l6.1.0;
      reference_statement = l7.0;
      reference_form = l7.1.0;
      reference_symbol = l7.1.1.0;
      depended_reference = l8.0;
      depended = l8.1.0;
      order = l9.0;
      member_chunk = l10.0;
      member = l10.1.0;
      import_chunk = l11.0;
      imports = l11.1.0;
      entry = l12.0;
      entry_chunk = l12.1.0;
      seed = l13.0;
    }

-- 2

-- a column that passes
pub below_rows : (n : ℕ) (column : List ℕ) → below n column ≡ true → Below n column
unfolding below
below_rows n column e i h = ltb-true _ _ (every-at (λ (x : ℕ). ltb x n) column 0 e i h)

below-or-missing-rows : (n : ℕ) (column : List ℕ) → below_or_missing n column ≡ true → BelowOrMissing n column
unfolding below_or_missing
below-or-missing-rows n column e i h =
    ⊎_map (ltb-true _ _) (eqb-true _ _) (or_parts _ _ (every-at (λ (x : ℕ). ltb x n || eqb x missing) column 0 e i h))

pub values-fit : (p : Project) → values_fit p ≡ true → Values p
unfolding values_fit
values-fit p e =
    let g = and_parts (code_in p) (symbols_in p && chunks_in p) e in
    let h = and_parts (symbols_in p) (chunks_in p) g.1 in
    let c0 = and_parts _ _ g.0 in
    let c1 = and_parts _ _ c0.1 in
    let c2 = and_parts _ _ c1.1 in
    let c3 = and_parts _ _ c2.1 in
    let s0 = and_parts _ _ h.0 in
    let s1 = and_parts _ _ s0.1 in
    let s2 = and_parts _ _ s1.1 in
    let s3 = and_parts _ _ s2.1 in
    let k0 = and_parts _ _ h.1 in
    let k1 = and_parts _ _ k0.1 in
    let k2 = and_parts _ _ k1.1 in
    let k3 = and_parts _ _ k2.1 in
    let settings0 = and_parts _ _ c0.0 in
    let modules0 = and_parts _ _ c1.0 in
    let modules1 = and_parts _ _ modules0.1 in
    let modules2 = and_parts _ _ modules1.1 in
    let modules3 = and_parts _ _ modules2.1 in
    let modules4 = and_parts _ _ modules3.1 in
    let modules5 = and_parts _ _ modules4.1 in
    let records0 = and_parts _ _ c2.0 in
    let records1 = and_parts _ _ records0.1 in
    let dep0 = and_parts _ _ c3.0 in
    let st0 = and_parts _ _ c3.1 in
    let use0 = and_parts _ _ s0.0 in
    let sym0 = and_parts _ _ s1.0 in
    let chain0 = and_parts _ _ s2.0 in
    let ref0 = and_parts _ _ s3.0 in
    let ref1 = and_parts _ _ ref0.1 in
    let depd0 = and_parts _ _ s3.1 in
    let mem0 = and_parts _ _ k1.0 in
    let imp0 = and_parts _ _ k2.0 in
    let ent0 = and_parts _ _ k3.0 in
    record {
      runtime = ltb-true _ _ settings0.0;
      dynamic = ltb-true _ _ settings0.1;
      normal = below_rows _ _ modules0.0;
      included = below_rows _ _ modules1.0;
      sensitive = below_rows _ _ modules2.0;
      reads = below_rows _ _ modules3.0;
      exports = below_rows _ _ modules4.0;
      wrap = below_rows _ _ modules5.0;
      chunk = below-or-missing-rows _ _ modules5.1;
      record_module = below_rows _ _ records0.0;
      record_kind = below_rows _ _ records1.0;
      record_target = below-or-missing-rows _ _ records1.1;
      dependency_module = below_rows _ _ dep0.0;
      dependency = below_rows _ _ dep0.1;
      statement_module = below_rows _ _ st0.0;
      statement_included = below_rows _ _ st0.1;
      use_statement = below_rows _ _ use0.0;
      use_record = below_rows _ _ use0.1;
      owner = below_rows _ _ sym0.0;
      canonical = below_rows _ _ sym0.1;
      chain_symbol = below_rows _ _ chain0.0;
      chain_link = below_rows _ _ chain0.1;
      reference_statement = below_rows _ _ ref0.0;
      reference_form = below_rows _ _ ref1.0;
      reference_symbol = below-or-missing-rows _ _ ref1.1;
      depended_reference = below_rows _ _ depd0.0;
      depended = below_rows _ _ depd0.1;
      order = below_rows _ _ k0.0;
      member_chunk = below_rows _ _ mem0.0;
      member = below_rows _ _ mem0.1;
      import_chunk = below_rows _ _ imp0.0;
      imports = below_rows _ _ imp0.1;
      entry = below_rows _ _ ent0.0;
      entry_chunk = below-or-missing-rows _ _ ent0.1;
      seed = below_rows _ _ k3.1;
    }

-- 3

pub rows-rise : (p : Project) → rows_rise p ≡ true → Rises p
unfolding rows_rise
rows-rise p e =
    let a0 = and_parts _ _ e in
    let a1 = and_parts _ _ a0.1 in
    let a2 = and_parts _ _ a1.1 in
    record {
      record_module = rises-rising _ a0.0;
      statement_module = rises-rising _ a1.0;
      member_chunk = rises-rising _ a2.0;
      import_chunk = rises-rising _ a2.1;
    }

-- 4

-- a test that is false of a cons is false of its parts
none : (a b : Bool) → cond a true b ≡ false → (a ≡ false) × (b ≡ false)
none true b e = absurd (true≢false e)
none false b e = (refl, e)

once-distinct : (xs : List ℕ) → twice eqb xs ≡ false → Distinct xs
unfolding Distinct
once-distinct [] e = tt
once-distinct (x ∷ xs) e =
    let b = none (any (eqb x) xs) (twice eqb xs) e in
    (λ h. true≢false (sym (mem-elem x xs h) ∙ b.0), once-distinct xs b.1)

-- the pair of row i stands in the zipped columns
zip-mem : (xs ys : List ℕ) (i : ℕ) → i < length xs → i < length ys → Memᴰ {A = ℕ × ℕ} (get_or xs i 0, get_or ys i 0) (zip xs ys)
unfolding zip zip_with
zip-mem [] ys i h k = absurd (omega arith)
zip-mem (x ∷ xs) [] i h k = absurd (omega arith)
zip-mem (x ∷ xs) (y ∷ ys) zero h k = Memᴰ.head refl
zip-mem (x ∷ xs) (y ∷ ys) (suc i) h k = Memᴰ.tail (zip-mem xs ys i (omega arith) (omega arith))

pairs-once : (xs ys : List ℕ) → twice same_pair (zip xs ys) ≡ false
    → (i j : ℕ) → i < j → j < length xs → j < length ys → get_or xs i 0 ≡ get_or xs j 0 → get_or ys i 0 ≡ get_or ys j 0 → ⊥
unfolding zip zip_with
pairs-once [] ys e i j l h k u v = omega arith
pairs-once (x ∷ xs) [] e i j l h k u v = omega arith
pairs-once (x ∷ xs) (y ∷ ys) e i zero l h k u v = omega arith
pairs-once (x ∷ xs) (y ∷ ys) e zero (suc j) l h k u v =
    let b = none (any (same_pair (x, y)) (zip xs ys)) (twice same_pair (zip xs ys)) e in
    true≢false (sym (mem-any (same_pair (x, y)) (zip xs ys) (zip-mem xs ys j (omega arith) (omega arith)) (and-join _ _ (eq-eqb _ _ u) (eq-eqb _ _ v))) ∙ b.0)
pairs-once (x ∷ xs) (y ∷ ys) e (suc i) (suc j) l h k u v =
    let b = none (any (same_pair (x, y)) (zip xs ys)) (twice same_pair (zip xs ys)) e in
    pairs-once xs ys b.1 i j (omega arith) (omega arith) (omega arith) u v

module _ (normal column : List ℕ) where
  normal-rows : all_normal normal column ≡ true → (i : ℕ) → i < length column → is_normal normal (get_or column i 0) ≡ true
  unfolding all_normal
  normal-rows e = every-at (is_normal normal) column 0 e

module _ (p : Project) where
  own-rows : uses_own p.statement_module p.record_module p.use_statement p.use_record ≡ true
      → (i : ℕ) → i < length p.use_statement → get_or p.statement_module (get_or p.use_statement i 0) 0 ≡ get_or p.record_module (get_or p.use_record i 0) 0
  unfolding uses_own
  own-rows e i h = eqb-true _ _ (every-mem _ (up_to (length p.use_statement)) e (up_to-mem h))

  depended-rows : depended_resolved p.reference_form p.depended_reference ≡ true
      → (i : ℕ) → i < length p.depended_reference → get_or p.reference_form (get_or p.depended_reference i 0) 0 ≡ 2
  unfolding depended_resolved
  depended-rows e i h = eqb-true _ _ (every-at (λ (reference : ℕ). eqb (get_or p.reference_form reference 0) 2) p.depended_reference 0 e i h)

  symbol-rows : plain_symbols p.reference_form p.reference_symbol ≡ true
      → (i : ℕ) → i < length p.reference_form → (get_or p.reference_form i 0 ≡ 2) ⊎ (get_or p.reference_symbol i 0 ≡ missing → ⊥)
  unfolding plain_symbols
  symbol-rows e i h =
      ⊎_map (eqb-true _ _) (λ q. eqb-false _ _ (not-true _ q))
      (or_parts _ _ (every-mem _ (up_to (length p.reference_form)) e (up_to-mem h)))

  entry-rows : entries_once p.entry ≡ true → Distinct p.entry
  unfolding entries_once
  entry-rows e = once-distinct p.entry (not-true (twice eqb p.entry) e)

  import-rows : imports_once p.import_chunk p.imports ≡ true
      → (i j : ℕ) → i < j → j < length p.import_chunk → j < length p.imports → get_or p.import_chunk i 0 ≡ get_or p.import_chunk j 0 → get_or p.imports i 0 ≡ get_or p.imports j 0 → ⊥
  unfolding imports_once
  import-rows e = pairs-once p.import_chunk p.imports (not-true (twice same_pair (zip p.import_chunk p.imports)) e)

rows_agree_lem : (p : Project) → rows_agree p ≡ true → Agrees p
unfolding rows_agree
rows_agree_lem p e =
    let a0 = and_parts _ _ e in
    let a1 = and_parts _ _ a0.1 in
    let a2 = and_parts _ _ a1.1 in
    let a3 = and_parts _ _ a2.1 in
    let a4 = and_parts _ _ a3.1 in
    let a5 = and_parts _ _ a4.1 in
    record {
      record_module = normal-rows _ _ a0.0;
      statement_module = normal-rows _ _ a1.0;
      use_record = own-rows p a2.0;
      depended_reference = depended-rows p a3.0;
      reference_symbol = symbol-rows p a4.0;
      entry = entry-rows p a5.0;
      imports = import-rows p a5.1;
    }

-- nothing refuses only if every test passes
all_pass : (a b c d e : Bool) → cond a (cond b (cond c (cond d (cond e None (Some NewerRow)) (Some RowConflict)) (Some RowOrder)) (Some ColumnValue)) (Some ListSize) ≡ None
    → (a ≡ true) × (b ≡ true) × (c ≡ true) × (d ≡ true) × (e ≡ true)
all_pass true true true true true z = (refl, refl, refl, refl, refl)
all_pass true true true true false z = cc
all_pass true true true false e z = cc
all_pass true true false d e z = cc
all_pass true false c d e z = cc
all_pass false b c d e z = cc

-- the tests of a project that nothing refuses
pub all-passed : (p : Project) → refusal p ≡ None → (sizes_fit p ≡ true) × (values_fit p ≡ true) × (rows_rise p ≡ true) × (rows_agree p ≡ true) × (newer_fits p.newer ≡ true)
unfolding refusal
all-passed p e = all_pass (sizes_fit p) (values_fit p) (rows_rise p) (rows_agree p) (newer_fits p.newer) e

pub accepted : (p : Project) → refusal p ≡ None → Accepted p
accepted p e =
    let t = all-passed p e in
    record { sizes = sizes-fit p t.0; values = values-fit p t.1; rises = rows-rise p t.2; agrees = rows_agree_lem p t.3; newer = t.4 }
