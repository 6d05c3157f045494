-- The scope's "sensitive", as it was before grounds were given.
-- Each statement is a type; `proofs/` inhabits it under the same name in small letters.
-- Assumes nothing.
use Rattle.std.specs.Prelude.{◌≡◌, ℕ}
use Rattle.tables.specs.Project.{Project}
use Rattle.sensitivity.specs.Marks.{uses_wrapped, is_sensitive, sensitive}

-- a module's ground is above 0 exactly if it is "not the runtime, normal, included, and flagged sensitive or using .."
unfoldable pub SensitiveAsTheScopeSays : Type 0
SensitiveAsTheScopeSays =
    (p : Project) (m : ℕ) → sensitive p m ≡ is_sensitive p.runtime p.normal p.included p.sensitive
    (uses_wrapped p.normal p.wrap p.record_kind p.record_target p.statement_module p.statement_included p.use_statement p.use_record) m
