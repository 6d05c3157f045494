-- What holds of the columns of a list of records: within the limit they are the records' columns, from place 0, and over it 1 refuses the project.
-- Assumes nothing.
use Rattle.std.specs.Prelude.{◌≡◌, ℕ, zero, suc, ◌+◌, ◌<◌, ◌≤◌, Bool, leb, List, [], ◌∷◌, ◌++◌, map, length, get_or, take, drop, set, replicate, Option, Some}
use mathlib.Core.Path.{refl, sym, ap, subst, ◌∙◌}
use mathlib.Core.Logic.{⊎_elim}
use native.Mathlib.Omega.{arith}
use lib.ListN.{length-map, length-append, length-drop, length-replicate}
use lib.Seq.{length-take-le, take_all, take_at}
use borrow.Author.Tests.{leb-true, leb-false, le-leb, lt-leb}
use Rattle.lists.proofs.Laws.{both, front-more, take_more}
use Rattle.tables.specs.Project.{Project}
use Rattle.tables.specs.Readings.{modules}
use Rattle.tables.specs.Refusal.{row_limit, sizes_fit, refusal}
use Rattle.tables.proofs.Accepted.{sizes-fit}
use Rattle.tables.specs.declared.Refusal.{Refusal}
use Rattle.tables.specs.declared.Refusal.TheVariants.{ListSize}
use Rattle.tables.proofs.Number.{sizes-refused}
use Rattle.names.specs.Names.{names_sized, names_in}
use Rattle.table.specs.declared.Table.{Table}
use Rattle.table.specs.Table.{table, read, with_records, bounds_fit, table_refusal, tested_too}
use Rattle.table.proofs.Laws.{table-unfit, table-fit}
use Rattle.record_columns.specs.declared.Record.{Record}
use Rattle.record_columns.specs.declared.inner.Columns.{Columns}
use Rattle.record_columns.specs.Rows.{importer_column, kind_column, target_column, copied, padded, columns_of}
use Rattle.record_columns.specs.Beside.{lent_beside}

pub copied_all : (n : ℕ) → n ≤ row_limit → copied n ≡ n
unfolding copied
copied_all n h = rw (le-leb n row_limit h)

pub copied_none : (n : ℕ) → row_limit < n → copied n ≡ 0
unfolding copied
copied_none n h = rw (lt-leb n row_limit h)

pub copied-le : (n : ℕ) → copied n ≤ n
copied-le n = ⊎_elim (λ t. omega (arith, copied_all n (leb-true n row_limit t), leb-true n row_limit t)) (λ f. omega (arith, copied_none n (leb-false n row_limit f))) (both (leb n row_limit))

pub copied-limit : (n : ℕ) → copied n ≤ row_limit
copied-limit n = ⊎_elim (λ t. omega (arith, copied_all n (leb-true n row_limit t), leb-true n row_limit t)) (λ f. omega (arith, copied_none n (leb-false n row_limit f))) (both (leb n row_limit))

pub padded-long : (i : ℕ) (column : List ℕ) → i ≤ length column → i ≤ row_limit → length (padded i column) ≡ row_limit
padded-long i column l k =
    length-append (take i column) (drop i (replicate row_limit 0))
    ∙ omega (arith, length-take-le i column l, length-drop {A = ℕ} i (replicate row_limit 0), length-replicate {A = ℕ} row_limit 0)

-- a column that is copied whole
pub whole : (f : Record → ℕ) (records : List Record) → length records ≤ row_limit → take (length records) (padded (copied (length records)) (map f records)) ≡ map f records
whole f records h =
    let n : ℕ = length records in
    let l : length (map f records) ≡ n = length-map records f in
    ap (λ (m : ℕ). take n (padded m (map f records))) (copied_all n h)
    ∙ take_at (take n (map f records)) (drop n (replicate row_limit 0)) n (length-take-le n (map f records) (omega (arith, l)))
    ∙ take_all n (map f records) (omega (arith, l))

-- one row more of a column stands in its array
pub stored : {X : Type 0} (f : X → ℕ) (ys : List X) (i : ℕ) (d : X) → i < length ys → i < row_limit → set (padded i (map f ys)) i (f (get_or ys i d)) ≡ padded (i + 1) (map f ys)
stored f ys i d l k =
    let n : length (map f ys) ≡ length ys = length-map ys f in
    let z : length {A = ℕ} (replicate row_limit 0) ≡ row_limit = length-replicate {A = ℕ} row_limit 0 in
    ap (λ (v : ℕ). set (padded i (map f ys)) i v) (at f ys i d l)
    ∙ front-more (take i (map f ys)) (replicate row_limit 0) i (get_or (map f ys) i 0) (length-take-le i (map f ys) (omega (arith, n))) (omega (arith, z))
    ∙ ap (λ (t : List ℕ). t ++ drop (i + 1) (replicate row_limit 0)) (take_more (map f ys) i (omega (arith, n)))
  where
    at : {X : Type 0} (f : X → ℕ) (ys : List X) (i : ℕ) (d : X) → i < length ys → f (get_or ys i d) ≡ get_or (map f ys) i 0
    at f (y ∷ ys) zero d l = refl
    at f (y ∷ ys) (suc i) d l = at f ys i d (omega (arith, l))
    at f [] i d l = absurd (omega (arith, l))

-- the same of an array and a number that are equal to them
pub stored_too : {X : Type 0} (f : X → ℕ) (ys : List X) (i : ℕ) (d : X) (xs : List ℕ) (x : ℕ) → i < length ys → i < row_limit → xs ≡ padded i (map f ys) → x ≡ f (get_or ys i d) → set xs i x ≡ padded (i + 1) (map f ys)
stored_too f ys i d xs x l k e g = ap (λ (v : ℕ). set xs i v) g ∙ ap (λ (us : List ℕ). set us i (f (get_or ys i d))) e ∙ stored f ys i d l k

-- what holds of the first rows of the columns holds of the records' columns
pub as-columns : (P : List ℕ → List ℕ → List ℕ → Type 0) (c : Columns) (records : List Record) → c ≡ columns_of records → c.rows ≤ row_limit
    → P (take c.rows c.importers) (take c.rows c.kinds) (take c.rows c.targets) → P (importer_column records) (kind_column records) (target_column records)
as-columns P c records is = subst (λ (d : Columns). d.rows ≤ row_limit → P (take d.rows d.importers) (take d.rows d.kinds) (take d.rows d.targets) → P (importer_column records) (kind_column records) (target_column records)) (sym is)
    (λ h p. subst (λ (t : List ℕ). P (importer_column records) (kind_column records) t) (whole (λ (r : Record). r.target) records h)
    (subst (λ (k : List ℕ). P (importer_column records) k (take (length records) (padded (copied (length records)) (target_column records)))) (whole (λ (r : Record). r.kind) records h)
    (subst (λ (i : List ℕ). P i (take (length records) (padded (copied (length records)) (kind_column records))) (take (length records) (padded (copied (length records)) (target_column records)))) (whole (λ (r : Record). r.importer) records h) p)))

-- "a list is over its limit"
over : (p : Project) → row_limit < length p.record_module → Some ListSize ≡ refusal p
over p h = ⊎_elim (λ t. let s = sizes-fit p t in absurd (omega (arith, s.record_module))) (λ f. sizes-refused p f) (both (sizes_fit p))

-- what 1 refuses is refused so, whatever is tested besides
stays : (r : Option Refusal) (one two : Bool) → Some ListSize ≡ r → tested_too r one two ≡ Some ListSize
stays r one two e = subst (λ (k : Option Refusal). tested_too k one two ≡ Some ListSize) e refl

pub too_many : (t : Table) (c : Columns) (records : List Record) → c ≡ columns_of records → row_limit < c.rows → (lent_beside t records).refused ≡ Some ListSize
unfolding read
too_many t c records is h =
    let p : Project = with_records (table t.runtime t.dynamic t.bounds.now t.columns.now) (importer_column records) (kind_column records) (target_column records) in
    let e : Some ListSize ≡ refusal p = over p (omega (arith, h, ap (λ (d : Columns). d.rows) is, length-map records (λ (r : Record). r.importer))) in
    stays (table_refusal t.bounds.now t.columns.now p) (names_sized t.names.now) (names_in (modules p) t.names.now)
    (⊎_elim (λ f. e ∙ table-fit t.bounds.now t.columns.now p f) (λ f. table-unfit t.bounds.now t.columns.now p f) (both (bounds_fit t.bounds.now t.columns.now)))
