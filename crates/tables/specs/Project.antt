-- The project: two settings and fourteen row lists, as 34 columns in 01's order and under 01's words (`newer` is 02's).
-- Assumes nothing.
use Rattle.std.specs.Prelude.{ℕ, List}

-- the missing mark, `-` in text
abbrev pub missing : ℕ
missing = 4294967295

-- the largest module number
abbrev pub largest : ℕ
largest = 4095

pub record Project : Type 0 where
  -- `runtime dynamic`
  pub runtime : ℕ
  pub dynamic : ℕ
  -- `normal included sensitive reads exports wrap chunk newer`: a module a row
  pub normal : List ℕ
  pub included : List ℕ
  pub sensitive : List ℕ
  pub reads : List ℕ
  pub exports : List ℕ
  pub wrap : List ℕ
  pub chunk : List ℕ
  pub newer : List ℕ
  -- `module kind target`: import records
  pub record_module : List ℕ
  pub record_kind : List ℕ
  pub record_target : List ℕ
  -- `module dependency`
  pub dependency_module : List ℕ
  pub dependency : List ℕ
  -- `module included`: statements
  pub statement_module : List ℕ
  pub statement_included : List ℕ
  -- `statement record`: uses
  pub use_statement : List ℕ
  pub use_record : List ℕ
  -- `owner canonical`: symbols
  pub owner : List ℕ
  pub canonical : List ℕ
  -- `symbol link`: export chains
  pub chain_symbol : List ℕ
  pub chain_link : List ℕ
  -- `statement form symbol`: references
  pub reference_statement : List ℕ
  pub reference_form : List ℕ
  pub reference_symbol : List ℕ
  -- `reference depended`
  pub depended_reference : List ℕ
  pub depended : List ℕ
  -- `order`: chunks
  pub order : List ℕ
  -- `chunk member`
  pub member_chunk : List ℕ
  pub member : List ℕ
  -- `chunk imports`
  pub import_chunk : List ℕ
  pub imports : List ℕ
  -- `entry chunk`
  pub entry : List ℕ
  pub entry_chunk : List ℕ
  -- `seed`
  pub seed : List ℕ

-- the project of two settings and 34 columns
abbrev pub project : ℕ → ℕ → List ℕ → List ℕ → List ℕ → List ℕ → List ℕ → List ℕ → List ℕ → List ℕ → List ℕ → List ℕ → List ℕ → List ℕ → List ℕ → List ℕ → List ℕ → List ℕ → List ℕ → List ℕ → List ℕ → List ℕ → List ℕ → List ℕ → List ℕ → List ℕ → List ℕ → List ℕ → List ℕ → List ℕ → List ℕ → List ℕ → List ℕ → List ℕ → List ℕ → List ℕ → Project
project runtime dynamic normal included sensitive reads exports wrap chunk newer record_module record_kind record_target dependency_module dependency statement_module statement_included use_statement use_record owner canonical chain_symbol chain_link reference_statement reference_form reference_symbol depended_reference depended order member_chunk member import_chunk imports entry entry_chunk seed = record {
  runtime = runtime;
  dynamic = dynamic;
  normal = normal;
  included = included;
  sensitive = sensitive;
  reads = reads;
  exports = exports;
  wrap = wrap;
  chunk = chunk;
  newer = newer;
  record_module = record_module;
  record_kind = record_kind;
  record_target = record_target;
  dependency_module = dependency_module;
  dependency = dependency;
  statement_module = statement_module;
  statement_included = statement_included;
  use_statement = use_statement;
  use_record = use_record;
  owner = owner;
  canonical = canonical;
  chain_symbol = chain_symbol;
  chain_link = chain_link;
  reference_statement = reference_statement;
  reference_form = reference_form;
  reference_symbol = reference_symbol;
  depended_reference = depended_reference;
  depended = depended;
  order = order;
  member_chunk = member_chunk;
  member = member;
  import_chunk = import_chunk;
  imports = imports;
  entry = entry;
  entry_chunk = entry_chunk;
  seed = seed;
}
