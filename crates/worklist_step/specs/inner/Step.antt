-- What a taking asks and does, over the request graph.
-- Assumes nothing.
use Rattle.std.specs.Prelude.{◌≡◌, ℕ, ◌+◌, ◌<◌, ◌≤◌, true, ◌⊎◌, List, length, drop, slice_index, Option, MatchOption}
use Rattle.lists.specs.Words.{has}
use Rattle.tables.specs.Readings.{rows_of}
use Rattle.tables.specs.Refusal.{module_limit}
use Rattle.threads.specs.inner.Rows.{Column}
use Rattle.strong_connection.specs.inner.Graph.{EdgeColumns, successors}
use Rattle.request_queue.specs.inner.Growing.{Listing, Grown, given, chosen, Along, Reached}
use Rattle.request_graph.specs.inner.Requests.{at_request, at_lead, at_dependent}

-- how many places the graph has
abbrev pub nodes : ℕ
nodes = 49152

-- a place of one of rule (iii)'s halves, and its module
abbrev pub Half : ℕ → ℕ → Type 0
Half v m = ((v ≡ m + at_lead) × (v < at_dependent)) ⊎ (v ≡ m + at_dependent)

-- m is to be listed when the place v is met: v is the request for it, or one of its two halves of rule (iii), both are met and it is a candidate
abbrev pub Gives : List ℕ → List ℕ → ℕ → ℕ → Type 0
Gives marks candidates v m =
    ((v ≡ m + at_request) × (m < length candidates))
    ⊎ (((v ≡ m + at_lead) ⊎ (v ≡ m + at_dependent)) × (has marks (m + at_lead) ≡ true) × (has marks (m + at_dependent) ≡ true) × (has candidates m ≡ true))

-- r is that module, the only one, or none where there is none
abbrev pub Given : List ℕ → List ℕ → ℕ → Option ℕ → Type 0
Given marks candidates v r = MatchOption r ((m : ℕ) → Gives marks candidates v m → ⊥) (λ n. Gives marks candidates v n × ((m : ℕ) → Gives marks candidates v m → n ≡ m))

-- what a taking asks
pub record Steppable (g : EdgeColumns) (candidates eligible : List ℕ) (asked : Column) (met list : Listing) (k : ℕ) : Type 0 where
  pub places : g.places ≡ nodes
  pub size : length met.marks ≡ nodes
  pub along : Along (successors g) met.marks
  pub few : length list.marks ≤ module_limit
  pub candidate : length candidates ≡ length list.marks
  pub eligibles : length eligible ≡ length list.marks
  pub askeds : length asked.values ≡ length list.marks
  pub room : k + 1 < asked.places
  pub ahead : k < length list.list

-- what it does, with x the module at place k: all that x leads to is met, and what the places met now give and what rule (i) asks for now is listed
pub record Stepped (g : EdgeColumns) (candidates eligible asked : List ℕ) (met list : Listing) (k : ℕ) (met' list' : Listing) : Type 0 where
  pub reached : Reached (successors g) (slice_index list.list k) met met'
  pub grown : Grown (λ (m : ℕ). given (Gives met'.marks candidates) (drop (length met.list) met'.list) m ⊎ given (chosen eligible) (rows_of asked (k + 1)) m) list list'
