-- The project that a table's settings and columns are.
-- Assumes nothing.
use Rattle.tables.specs.Project.{Project}
use Rattle.current_columns.specs.declared.inner.Columns.TheInside.{Inside}

-- its settings, and its columns
unfoldable pub project : Inside → Project
project c =
    record {
      runtime = c.runtime;
      dynamic = c.dynamic;
      normal = c.normal.now;
      included = c.included.now;
      sensitive = c.sensitive.now;
      reads = c.reads.now;
      exports = c.exports.now;
      wrap = c.wrap.now;
      chunk = c.chunk.now;
      newer = c.newer.now;
      record_module = c.record_module.now;
      record_kind = c.record_kind.now;
      record_target = c.record_target.now;
      dependency_module = c.dependency_module.now;
      dependency = c.dependency.now;
      statement_module = c.statement_module.now;
      statement_included = c.statement_included.now;
      use_statement = c.use_statement.now;
      use_record = c.use_record.now;
      owner = c.owner.now;
      canonical = c.canonical.now;
      chain_symbol = c.chain_symbol.now;
      chain_link = c.chain_link.now;
      reference_statement = c.reference_statement.now;
      reference_form = c.reference_form.now;
      reference_symbol = c.reference_symbol.now;
      depended_reference = c.depended_reference.now;
      depended = c.depended.now;
      order = c.order.now;
      member_chunk = c.member_chunk.now;
      member = c.member.now;
      import_chunk = c.import_chunk.now;
      imports = c.imports.now;
      entry = c.entry.now;
      entry_chunk = c.entry_chunk.now;
      seed = c.seed.now;
    }
