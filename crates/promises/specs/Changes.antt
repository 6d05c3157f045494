-- A project with some rows changed and all else the same.
-- Assumes nothing.
use Rattle.std.specs.Prelude.{List, ℕ}
use Rattle.tables.specs.Project.{Project, project}

-- with other seed rows
abbrev pub with_seed : Project → List ℕ → Project
with_seed p seed' =
    project p.runtime p.dynamic p.normal p.included p.sensitive p.reads p.exports p.wrap p.chunk p.newer p.record_module p.record_kind p.record_target p.dependency_module p.dependency p.statement_module p.statement_included p.use_statement p.use_record p.owner p.canonical p.chain_symbol p.chain_link p.reference_statement p.reference_form p.reference_symbol p.depended_reference p.depended p.order p.member_chunk p.member p.import_chunk p.imports p.entry p.entry_chunk seed'

-- with other chunk import rows
abbrev pub with_imports : Project → List ℕ → List ℕ → Project
with_imports p import_chunk' imports' =
    project p.runtime p.dynamic p.normal p.included p.sensitive p.reads p.exports p.wrap p.chunk p.newer p.record_module p.record_kind p.record_target p.dependency_module p.dependency p.statement_module p.statement_included p.use_statement p.use_record p.owner p.canonical p.chain_symbol p.chain_link p.reference_statement p.reference_form p.reference_symbol p.depended_reference p.depended p.order p.member_chunk p.member import_chunk' imports' p.entry p.entry_chunk p.seed

-- with other chunk member rows
abbrev pub with_members : Project → List ℕ → List ℕ → Project
with_members p member_chunk' member' =
    project p.runtime p.dynamic p.normal p.included p.sensitive p.reads p.exports p.wrap p.chunk p.newer p.record_module p.record_kind p.record_target p.dependency_module p.dependency p.statement_module p.statement_included p.use_statement p.use_record p.owner p.canonical p.chain_symbol p.chain_link p.reference_statement p.reference_form p.reference_symbol p.depended_reference p.depended p.order member_chunk' member' p.import_chunk p.imports p.entry p.entry_chunk p.seed

-- with other chunks of the entries
abbrev pub with_entry_chunks : Project → List ℕ → Project
with_entry_chunks p entry_chunk' =
    project p.runtime p.dynamic p.normal p.included p.sensitive p.reads p.exports p.wrap p.chunk p.newer p.record_module p.record_kind p.record_target p.dependency_module p.dependency p.statement_module p.statement_included p.use_statement p.use_record p.owner p.canonical p.chain_symbol p.chain_link p.reference_statement p.reference_form p.reference_symbol p.depended_reference p.depended p.order p.member_chunk p.member p.import_chunk p.imports p.entry entry_chunk' p.seed

-- with other modules normal
abbrev pub with_normal : Project → List ℕ → Project
with_normal p normal' =
    project p.runtime p.dynamic normal' p.included p.sensitive p.reads p.exports p.wrap p.chunk p.newer p.record_module p.record_kind p.record_target p.dependency_module p.dependency p.statement_module p.statement_included p.use_statement p.use_record p.owner p.canonical p.chain_symbol p.chain_link p.reference_statement p.reference_form p.reference_symbol p.depended_reference p.depended p.order p.member_chunk p.member p.import_chunk p.imports p.entry p.entry_chunk p.seed

-- with other modules flagged sensitive
abbrev pub with_sensitive : Project → List ℕ → Project
with_sensitive p sensitive' =
    project p.runtime p.dynamic p.normal p.included sensitive' p.reads p.exports p.wrap p.chunk p.newer p.record_module p.record_kind p.record_target p.dependency_module p.dependency p.statement_module p.statement_included p.use_statement p.use_record p.owner p.canonical p.chain_symbol p.chain_link p.reference_statement p.reference_form p.reference_symbol p.depended_reference p.depended p.order p.member_chunk p.member p.import_chunk p.imports p.entry p.entry_chunk p.seed

-- with other kinds of exports
abbrev pub with_exports : Project → List ℕ → Project
with_exports p exports' =
    project p.runtime p.dynamic p.normal p.included p.sensitive p.reads exports' p.wrap p.chunk p.newer p.record_module p.record_kind p.record_target p.dependency_module p.dependency p.statement_module p.statement_included p.use_statement p.use_record p.owner p.canonical p.chain_symbol p.chain_link p.reference_statement p.reference_form p.reference_symbol p.depended_reference p.depended p.order p.member_chunk p.member p.import_chunk p.imports p.entry p.entry_chunk p.seed

-- with other records
abbrev pub with_records : Project → List ℕ → List ℕ → List ℕ → Project
with_records p record_module' record_kind' record_target' =
    project p.runtime p.dynamic p.normal p.included p.sensitive p.reads p.exports p.wrap p.chunk p.newer record_module' record_kind' record_target' p.dependency_module p.dependency p.statement_module p.statement_included p.use_statement p.use_record p.owner p.canonical p.chain_symbol p.chain_link p.reference_statement p.reference_form p.reference_symbol p.depended_reference p.depended p.order p.member_chunk p.member p.import_chunk p.imports p.entry p.entry_chunk p.seed

-- with other dependency rows
abbrev pub with_dependencies : Project → List ℕ → List ℕ → Project
with_dependencies p dependency_module' dependency' =
    project p.runtime p.dynamic p.normal p.included p.sensitive p.reads p.exports p.wrap p.chunk p.newer p.record_module p.record_kind p.record_target dependency_module' dependency' p.statement_module p.statement_included p.use_statement p.use_record p.owner p.canonical p.chain_symbol p.chain_link p.reference_statement p.reference_form p.reference_symbol p.depended_reference p.depended p.order p.member_chunk p.member p.import_chunk p.imports p.entry p.entry_chunk p.seed

-- with other `reads`, statements, symbols and references
abbrev pub with_references : Project → List ℕ → List ℕ → List ℕ → List ℕ → List ℕ → List ℕ → List ℕ → List ℕ → Project
with_references p reads' statement_module' statement_included' owner' canonical' reference_statement' reference_form' reference_symbol' =
    project p.runtime p.dynamic p.normal p.included p.sensitive reads' p.exports p.wrap p.chunk p.newer p.record_module p.record_kind p.record_target p.dependency_module p.dependency statement_module' statement_included' p.use_statement p.use_record owner' canonical' p.chain_symbol p.chain_link reference_statement' reference_form' reference_symbol' p.depended_reference p.depended p.order p.member_chunk p.member p.import_chunk p.imports p.entry p.entry_chunk p.seed

-- with other modules superseded
abbrev pub with_newer : Project → List ℕ → Project
with_newer p newer' =
    project p.runtime p.dynamic p.normal p.included p.sensitive p.reads p.exports p.wrap p.chunk newer' p.record_module p.record_kind p.record_target p.dependency_module p.dependency p.statement_module p.statement_included p.use_statement p.use_record p.owner p.canonical p.chain_symbol p.chain_link p.reference_statement p.reference_form p.reference_symbol p.depended_reference p.depended p.order p.member_chunk p.member p.import_chunk p.imports p.entry p.entry_chunk p.seed
