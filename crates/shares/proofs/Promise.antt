-- What writing a share promises, in each of its cases; and that an outcome fits the totals.
-- Assumes nothing.
use Rattle.std.specs.Prelude.{◌≡◌, ℕ, ◌<◌, ◌≤◌, List, ◌∷◌, length, drop, Option, None, Some, Ok, Err}
use mathlib.Core.Path.{refl, ap}
use borrow.Author.Tests.{le-leb, lt-leb}
use Rattle.tables.specs.Project.{Project}
use Rattle.tables.specs.declared.Refusal.{Refusal}
use Rattle.tables.specs.declared.Refusal.TheVariants.{ShortSlice}
use Rattle.tables.proofs.Answering.{verdict-project, verdict-short, verdict-none, answer-refused, answer-accepted, after-refused, after-accepted}
use Rattle.table.specs.Table.{current, Lent, lent_as}
use Rattle.arrangement.specs.OfProject.{named, named_lent}
use Rattle.arrangement.proofs.OfProject.{lent-named}
use Rattle.share_totals.specs.declared.Share.{Share}
use Rattle.share_totals.specs.Shares.{share_of, outcome}
use Rattle.share_totals.specs.Within.{Fits}
use Rattle.shares.specs.Promise.{outcome_of, share_numbers, WrittenShare}
use Rattle.table_share.specs.Counts.{eligible_count, planned_count}
use Rattle.table_share.proofs.Counts.{planned-eligible, eligible-few}

-- an outcome by what refuses the project
module _ (e p : ℕ) where
  pub outcome_fits : (v : Option Refusal) → (v ≡ None → Fits (Ok (share_of e p))) → Fits (outcome v e p)
  outcome_fits None h = h refl
  outcome_fits (Some r) h = tt

  -- back from an outcome

  outcome-refused : (v : Option Refusal) {r : Refusal} → Err r ≡ outcome v e p → v ≡ Some r
  outcome-refused None h = cc
  outcome-refused (Some r) h = cc

  outcome-shared : (v : Option Refusal) {s : Share} → Ok s ≡ outcome v e p → (v ≡ None) × (s ≡ share_of e p)
  outcome-shared None h = (refl, cc)
  outcome-shared (Some r) h = cc

-- the outcome of a project that was lent fits the totals
pub project-fits : (bounds columns names : List ℕ) (p : Project) → Fits (outcome_of (named_lent names (lent_as bounds columns names p)))
project-fits bounds columns names p =
    let q = named (current p) names in
    outcome_fits (eligible_count q) (planned_count q) (lent_as bounds columns names p).refused (λ z. (planned-eligible q, eligible-few q (lent-named bounds columns names p z)))

module _ (t : Lent) (out : List ℕ) where
  -- a refusal changes nothing
  pub share-refused : {e : Refusal} → Err e ≡ outcome_of t → WrittenShare t out (Err e) out
  share-refused h =
      let r = verdict-project _ _ (outcome-refused (eligible_count t.project) (planned_count t.project) t.refused h) in
      record { answered = answer-refused 4 r; written = after-refused out (share_numbers t.project) r }

  module _ {s : Share} (h : Ok s ≡ outcome_of t) where
    pub share-short : length out < 4 → WrittenShare t out (Err ShortSlice) out
    share-short l =
        let r = verdict-short _ _ (outcome-shared (eligible_count t.project) (planned_count t.project) t.refused h).0 refl (lt-leb 4 (length out) l) in
        record { answered = answer-refused 4 r; written = after-refused out (share_numbers t.project) r }

    pub share-written : 4 ≤ length out → WrittenShare t out (Ok 4) (s.eligible ∷ s.planned ∷ s.quotient ∷ s.remainder ∷ drop 4 out)
    share-written l =
        let found = outcome-shared (eligible_count t.project) (planned_count t.project) t.refused h in
        let z = verdict-none _ _ found.0 refl (le-leb 4 (length out) l) in
        record {
          answered = answer-accepted z refl;
          written = after-accepted out (share_numbers t.project) z (ap (λ (x : Share). x.eligible ∷ x.planned ∷ x.quotient ∷ x.remainder ∷ drop 4 out) found.1);
        }
