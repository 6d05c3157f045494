-- What the rules (ii) to (iv) ask for as a graph, at a project.
-- Assumes nothing.
use Rattle.std.specs.Prelude.{◌≡◌, ℕ, ◌⊎◌, List, length}
use Rattle.tables.specs.Project.{Project, missing}
use Rattle.tables.specs.Readings.{modules}
use Rattle.chunk_cycles.specs.Cycles.{labels_of}
use Rattle.sensitivity.specs.Marks.{sensitive_marks}
use Rattle.eligibility.specs.Eligible.{eligible_marks}
use Rattle.marks.specs.Steps.{looked}
use Rattle.wrap_rules.specs.inner.Passes.{candidate_marks}
use Rattle.import_edges.specs.inner.Spread.{record_targets, EdgesOf}
use Rattle.request_edges.specs.inner.Edges.{numbered, chosen, Rows, EdgeRows, Adds}

-- where the places of each kind start: the requests, "is planned or leads to a planned module", "has a planned dependency", the labels, the chains
abbrev pub at_request : ℕ
at_request = 4096

abbrev pub at_lead : ℕ
at_lead = 8192

abbrev pub at_dependent : ℕ
at_dependent = 12288

abbrev pub at_label : ℕ
at_label = 16384

abbrev pub at_chain : ℕ
at_chain = 32768

-- the import records as edges
pub record ImportRows (p : Project) (importers targets : List ℕ) : Type 0 where
  pub lengths : length targets ≡ length importers
  pub edges : EdgesOf p importers targets (length importers)

-- (ii): from a module to its chunk's label, and on to the members of the label's chunks
abbrev pub ComponentRows : List ℕ → List ℕ → List ℕ → List ℕ → List ℕ → List ℕ → ℕ → ℕ → Type 0
ComponentRows chunks member_chunks members labels numbers asked u v =
    Rows numbers 0 (looked missing labels chunks) at_label u v ⊎ Rows (looked missing labels member_chunks) at_label (looked missing asked members) at_request u v

-- (iii): from a module to itself as one that leads to it, on along the import records, and to what depends on it
abbrev pub LeadRows : List ℕ → List ℕ → List ℕ → List ℕ → List ℕ → ℕ → ℕ → Type 0
LeadRows importers targets dependents dependencies numbers u v =
    Rows numbers 0 numbers at_lead u v ⊎ (Rows targets at_lead importers at_lead u v ⊎ Rows dependencies 0 dependents at_dependent u v)

module _ (p : Project) where
  -- both at a project
  abbrev pub ComponentEdge : List ℕ → List ℕ → List ℕ → ℕ → ℕ → Type 0
  ComponentEdge labels numbers asked u v = ComponentRows p.chunk p.member_chunk p.member labels numbers asked u v

  abbrev pub ImportEdge : List ℕ → ℕ → ℕ → Type 0
  ImportEdge numbers u v = LeadRows p.record_module (record_targets p) p.dependency_module p.dependency numbers u v

  -- (iv): from a module to the chains of its symbols and of those with a link that it owns
  abbrev pub ChainEdge : List ℕ → ℕ → ℕ → Type 0
  ChainEdge symbols u v =
      Rows p.owner 0 symbols at_chain u v ⊎ Rows (looked missing p.owner p.chain_link) 0 p.chain_symbol at_chain u v

  -- each reference's module, where that is a candidate that reads at the top level
  abbrev pub readers_of : List ℕ → List ℕ
  readers_of candidates = looked missing (chosen candidates p.reads) (looked missing p.statement_module p.reference_statement)

  -- and from the chain of a symbol, or of its canonical, to the readers of the references that name it
  abbrev pub ReadEdge : List ℕ → ℕ → ℕ → Type 0
  ReadEdge readers u v =
      Rows p.reference_symbol at_chain readers at_request u v
      ⊎ (Rows (looked missing p.canonical p.reference_symbol) at_chain readers at_request u v
      ⊎ (Rows p.depended at_chain (looked missing readers p.depended_reference) at_request u v
      ⊎ Rows (looked missing p.canonical p.depended) at_chain (looked missing readers p.depended_reference) at_request u v))

  -- the edges of (iv)
  abbrev pub SymbolEdge : List ℕ → ℕ → ℕ → Type 0
  SymbolEdge candidates u v = ChainEdge (numbered (length p.owner)) u v ⊎ ReadEdge (readers_of candidates) u v

  -- the edges of a project
  unfoldable pub RequestEdge : ℕ → ℕ → Type 0
  RequestEdge u v =
      ComponentEdge (labels_of p) (numbered (modules p)) (chosen (sensitive_marks p) (eligible_marks p)) u v
      ⊎ (ImportEdge (numbered (modules p)) u v ⊎ (ChainEdge (numbered (length p.owner)) u v ⊎ ReadEdge (readers_of (candidate_marks p)) u v))

-- all edges are added
abbrev pub Requests : Project → EdgeRows → EdgeRows → Type 0
Requests p e e' = Adds (RequestEdge p) 155648 e e'
