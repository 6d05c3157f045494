-- "Sensitive" modules of a project, and on what grounds.
-- Assumes nothing.
use Rattle.std.specs.Prelude.{ℕ, Bool, true, false, cond, not, ◌&&◌, ◌||◌, List, map, ◌==◌}
use Rattle.lists.specs.Words.{is_zero, up_to, any}
use Rattle.tables.specs.Project.{Project}
use Rattle.tables.specs.Readings.{modules, is_normal, flagged, wrapped, is_import, normal_target, row_targets, rows_of, values_of}

-- "a kind 0 record to a normal target with wrap not 0"
unfoldable pub wakes : List ℕ → List ℕ → List ℕ → List ℕ → ℕ → Bool
wakes normal wrap record_kind record_target row = any (wrapped wrap) (row_targets is_import normal_target normal record_kind record_target row)

-- a statement that is included and uses such a record
abbrev pub statement_wakes : List ℕ → List ℕ → List ℕ → List ℕ → List ℕ → List ℕ → List ℕ → ℕ → Bool
statement_wakes normal wrap record_kind record_target statement_included use_statement use_record s =
    flagged statement_included s && any (wakes normal wrap record_kind record_target) (values_of use_statement use_record s)

-- "using, in an included statement", such a record
unfoldable pub uses_wrapped : List ℕ → List ℕ → List ℕ → List ℕ → List ℕ → List ℕ → List ℕ → List ℕ → ℕ → Bool
uses_wrapped normal wrap record_kind record_target statement_module statement_included use_statement use_record m =
    any (statement_wakes normal wrap record_kind record_target statement_included use_statement use_record) (rows_of statement_module m)

-- "Sensitive: not the runtime, normal, included, and flagged sensitive or using .."
abbrev pub is_sensitive : ℕ → List ℕ → List ℕ → List ℕ → (ℕ → Bool) → ℕ → Bool
is_sensitive runtime normal included flag uses m =
    not (m == runtime) && (is_normal normal m && (flagged included m && (flagged flag m || uses m)))

-- "1 for its own flag, 2 for a use that triggers a wrapped module, 3 for both"
abbrev pub ground_by : Bool → Bool → ℕ
ground_by true true = 3
ground_by true false = 1
ground_by false true = 2
ground_by false false = 0

-- the answer of the test: "0 for insensitive"; the runtime, an external and a module that isn't included are, whatever their flag
abbrev pub ground_at : ℕ → List ℕ → List ℕ → List ℕ → (ℕ → Bool) → ℕ → ℕ
ground_at runtime normal included flag uses m =
    cond (not (m == runtime) && (is_normal normal m && flagged included m)) (ground_by (flagged flag m) (uses m)) 0

unfoldable pub ground_of : Project → ℕ → ℕ
ground_of p m =
    ground_at p.runtime p.normal p.included p.sensitive
    (uses_wrapped p.normal p.wrap p.record_kind p.record_target p.statement_module p.statement_included p.use_statement p.use_record)
    m

-- "Everything that asked yes or no asks whether the answer is above 0."
unfoldable pub sensitive : Project → ℕ → Bool
sensitive p m = not (is_zero (ground_of p m))

-- the grounds of all modules
abbrev pub grounds_of : Project → List ℕ
grounds_of p = map (ground_of p) (up_to (modules p))

-- the marks of a project's sensitive modules are their grounds
abbrev pub sensitive_marks : Project → List ℕ
sensitive_marks p = grounds_of p
