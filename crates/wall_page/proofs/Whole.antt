-- With the grounds that a call left, and the plan that a call of the whole analysis left, the page of an entry is the entry's page.
-- Assumes nothing.
use Rattle.std.specs.Prelude.{◌≡◌, ℕ, ◌≤◌, true, List, ◌++◌, length, take, drop, None, Result}
use mathlib.Core.Path.{refl, sym, ap, ap₂, ◌∙◌}
use native.Mathlib.Omega.{arith}
use lib.Seq.{take_at}
use borrow.Author.Tests.{le-leb}
use Rattle.tables.specs.Project.{Project}
use Rattle.tables.specs.Readings.{modules}
use Rattle.tables.specs.declared.Refusal.{Refusal}
use Rattle.tables.proofs.Answering.{verdict-none, after-accepted}
use Rattle.table.specs.Table.{Lent, read, lent}
use Rattle.arrangement.specs.OfProject.{named, lent_named}
use Rattle.arrangement.proofs.OfProject.{named-modules}
use Rattle.sensitivity.specs.Marks.{ground_of, grounds_of}
use Rattle.sensitivity.proofs.Marks.{length-grounds}
use Rattle.grounds.specs.Promise.{ModuleGrounds}
use Rattle.order_analysis.specs.Promise.{whole_plan, WholeAnalysis}
use Rattle.order_analysis.proofs.Promise.{length_whole}
use Rattle.entry_pages.specs.Marked.{marked_page}
use Rattle.wall_line.specs.Promise.{page_of}
use Rattle.wall_line.proofs.Lines.{marked-page}
use Rattle.wall_page.specs.Promise.{page_with}

-- grounds don't ask for members
grounds-named : (p : Project) (names : List ℕ) → grounds_of p ≡ grounds_of (named p names)
unfolding named read ground_of
grounds-named p names = refl

-- the front of a slice that holds a list of n
front : (list old new : List ℕ) (n : ℕ) → length list ≡ n → new ≡ list ++ drop (length list) old → take n new ≡ list
front list old new n e w = ap (take n) w ∙ take_at list (drop (length list) old) n e

module _ (runtime dynamic : ℕ) (bounds columns names : List ℕ) where
  abbrev t : Lent
  t = lent_named runtime dynamic bounds columns names

  abbrev p : Project
  p = t.project

  -- both calls accepted, on slices with a place a module
  pub page-from-calls : t.refused ≡ None → (root : ℕ) {marks marks' grounds plan : List ℕ} {r r' : Result ℕ Refusal}
      → modules p ≤ length marks → ModuleGrounds (lent runtime dynamic bounds columns names) marks r grounds
      → modules p ≤ length marks' → WholeAnalysis t marks' r' plan
      → page_with p grounds plan root ≡ page_of p root
  unfolding page_with
  page-from-calls accepts root {marks} {marks'} {grounds} {plan} l g m w =
      let c : Project = (lent runtime dynamic bounds columns names).project in
      let same : modules p ≡ modules c = named-modules c names in
      let zg = verdict-none true _ accepts refl (le-leb (modules c) (length marks) (omega arith)) in
      let zw = verdict-none true _ accepts refl (le-leb (modules p) (length marks') m) in
      let eg : take (modules p) grounds ≡ grounds_of p =
      front (grounds_of c) marks grounds (modules p) (length-grounds c ∙ sym same) (g.written ∙ sym (after-accepted marks (grounds_of c) zg refl)) ∙ grounds-named c names in
      let ew : take (modules p) plan ≡ whole_plan p = front (whole_plan p) marks' plan (modules p) (length_whole p) (w.written ∙ sym (after-accepted marks' (whole_plan p) zw refl)) in
      ap₂ (λ (x y : List ℕ). marked_page p x y root) eg ew ∙ marked-page p root
