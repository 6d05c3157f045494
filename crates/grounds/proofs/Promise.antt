-- What the operation promises of a call that is refused, and of one that counts.
-- Assumes nothing.
use Rattle.std.specs.Prelude.{◌≡◌, ℕ, ◌≤◌, true, leb, List, ◌++◌, length, drop, Option, None, Some, Ok, Err}
use mathlib.Core.Path.{refl, sym, ap, ◌∙◌}
use borrow.Author.Tests.{le-leb}
use Rattle.lists.specs.Words.{ones}
use Rattle.tables.specs.Project.{Project}
use Rattle.tables.specs.Readings.{modules}
use Rattle.tables.specs.declared.Refusal.{Refusal}
use Rattle.tables.proofs.Answering.{verdict-none, answer-refused, answer-accepted, after-refused, after-accepted}
use Rattle.table.specs.Table.{Lent}
use Rattle.sensitivity.specs.Marks.{grounds_of}
use Rattle.sensitivity.proofs.Marks.{length-grounds}
use Rattle.grounds.specs.Promise.{grounds_verdict, ModuleGrounds}

module _ (t : Lent) (marks : List ℕ) where
  abbrev p : Project
  p = t.project

  abbrev verdict_of : Option Refusal
  verdict_of = grounds_verdict t (length marks)

  -- a refusal changes nothing
  refused : (r : Refusal) → verdict_of ≡ Some r → ModuleGrounds t marks (Err r) marks
  refused r e = record { answered = answer-refused _ e; written = after-refused marks _ e }

  -- an accepted call with room counts the grounds that it writes
  pub grounds-counted : t.refused ≡ None → modules p ≤ length marks → (made : List ℕ) (count : ℕ) → made ≡ grounds_of p → count ≡ ones (grounds_of p)
      → ModuleGrounds t marks (Ok count) (made ++ drop (modules p) marks)
  grounds-counted accepts l made count e c =
      let z : verdict_of ≡ None = verdict-none true (leb (modules p) (length marks)) accepts refl (le-leb (modules p) (length marks) l) in
      record {
        answered = answer-accepted z c;
        written = after-accepted marks (grounds_of p) z (ap (λ (xs : List ℕ). xs ++ drop (modules p) marks) e ∙ ap (λ (i : ℕ). grounds_of p ++ drop i marks) (sym (length-grounds p)));
      }
