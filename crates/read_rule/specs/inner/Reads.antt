-- What the passes of rule (iv) look for and ask, over the columns that they read.
-- Assumes nothing.
use Rattle.std.specs.Prelude.{◌≡◌, ℕ, ◌<◌, ◌≤◌, Bool, true, ◌⊎◌, List, length, get_or, slice_index, slice_index_or}
use Rattle.lists.specs.Words.{has}
use Rattle.tables.specs.Project.{Project, missing}
use Rattle.tables.specs.Refusal.{module_limit, row_limit}
use Rattle.tables.specs.Accepted.{Below}
use Rattle.eligibility.specs.Eligible.{eligible}
use Rattle.marks.specs.Steps.{Row, Added}
use Rattle.wrap_rules.specs.Rules.{read_asks}
use Rattle.wrap_rules.specs.Plan.{reached}

-- a symbol's owner is planned, or a link owner in its chain
abbrev pub ChainTouch : List ℕ → List ℕ → List ℕ → List ℕ → ℕ → Type 0
ChainTouch owner chain_symbol chain_link S y =
    (has S (slice_index_or owner y missing) ≡ true)
    ⊎ ((row : ℕ) × (row < length chain_symbol) × (slice_index chain_symbol row ≡ y) × (has S (slice_index_or owner (slice_index chain_link row) missing) ≡ true))

-- the same of the symbol or its canonical
abbrev pub SymbolTouch : List ℕ → List ℕ → List ℕ → List ℕ → List ℕ → ℕ → Type 0
SymbolTouch owner canonical chain_symbol chain_link S y =
    ChainTouch owner chain_symbol chain_link S y ⊎ ChainTouch owner chain_symbol chain_link S (slice_index canonical y)

-- a reference to a symbol in a set, or with a depended one
abbrev pub ReferenceTouch : List ℕ → List ℕ → List ℕ → List ℕ → ℕ → Type 0
ReferenceTouch reference_symbol depended_reference depended symbols r =
    (has symbols (slice_index reference_symbol r) ≡ true) ⊎ Row depended_reference depended symbols r

-- a reference to a symbol that touches the plan, or with a depended one
pub data Touching (owner canonical chain_symbol chain_link reference_symbol depended_reference depended S : List ℕ) (r : ℕ) : Type 0 where
  by_symbol : get_or reference_symbol r 0 < length owner → SymbolTouch owner canonical chain_symbol chain_link S (slice_index reference_symbol r)
      → Touching owner canonical chain_symbol chain_link reference_symbol depended_reference depended S r
  by_depended : (d : ℕ) → d < length depended_reference → slice_index depended_reference d ≡ r → slice_index depended d < length owner → SymbolTouch owner canonical chain_symbol chain_link S (slice_index depended d)
      → Touching owner canonical chain_symbol chain_link reference_symbol depended_reference depended S r

-- a module with a statement that has a reference in a set
pub record Reader (statement_module reference_statement references : List ℕ) (m : ℕ) : Type 0 where
  pub row : ℕ
  pub there : row < length reference_statement
  pub named : get_or statement_module (slice_index reference_statement row) missing ≡ m
  pub holds : has references row ≡ true

-- a candidate with `reads` 1 and a statement that has a reference that touches the plan
pub record TopLevelRead (reads statement_module owner canonical chain_symbol chain_link reference_statement reference_symbol depended_reference depended candidates S : List ℕ) (m : ℕ) : Type 0 where
  pub candidate : has candidates m ≡ true
  pub reading : has reads m ≡ true
  pub row : ℕ
  pub there : row < length reference_statement
  pub named : get_or statement_module (slice_index reference_statement row) missing ≡ m
  pub touches : Touching owner canonical chain_symbol chain_link reference_symbol depended_reference depended S row

-- the chains' columns fit each other, over n symbols
pub record Linking (chain_symbol chain_link : List ℕ) (n : ℕ) : Type 0 where
  pub links : length chain_link ≡ length chain_symbol
  pub symbols : Below n chain_symbol
  pub linked : Below n chain_link

-- a project's symbols' columns fit each other
pub record Symbols (p : Project) : Type 0 where
  pub few : length p.owner ≤ row_limit
  pub canonicals : length p.canonical ≡ length p.owner
  pub inside : Below (length p.owner) p.canonical
  pub chains : Linking p.chain_symbol p.chain_link (length p.owner)

-- its depended rows fit each other, its references and its symbols
pub record Depending (p : Project) : Type 0 where
  pub depends : length p.depended ≡ length p.depended_reference
  pub referring : Below (length p.reference_symbol) p.depended_reference
  pub named : Below (length p.owner) p.depended

-- its statements' and references' columns fit each other and these candidates, over n modules
pub record Reading (p : Project) (candidates : List ℕ) (n : ℕ) : Type 0 where
  pub few : n ≤ module_limit
  pub read : length p.reads ≡ n
  pub modules : Below n p.statement_module
  pub statements : Below (length p.statement_module) p.reference_statement
  pub referred : length p.reference_symbol ≡ length p.reference_statement
  pub few_references : length p.reference_statement ≤ row_limit
  pub depending : Depending p
  pub candidate : length candidates ≡ n

-- what a pass leaves of a project's plan: just what the rule asks for with the plan as it was is added
abbrev pub ReadPassed : Project → List ℕ → List ℕ → Bool → Type 0
ReadPassed p plan plan' changed = Added (λ (m : ℕ). read_asks (eligible p) (reached p) p plan m ≡ true) plan plan' changed
