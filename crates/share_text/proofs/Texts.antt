-- The outcome of a text that was read.
-- Assumes nothing.
use mathlib.Core.Path.{◌≡◌, sym, ap, ap₂, subst, ◌∙◌}
use mathlib.Core.Logic.{inl, inr, ⊎_elim}
use mathlib.Core.List.{List}
use Prim.Native.Nat.{ℕ, ◌≤◌}
use native.Mathlib.Omega.{arith}
use lib.ListN.{length, drop, length-append}
use Rattle.table.specs.declared.Table.{Table}
use Rattle.table.specs.Table.{Lent}
use Rattle.arrangement.specs.OfProject.{as_named, named_lent}
use Rattle.named_form.specs.NamedForm.{lent_names}
use Rattle.listing.specs.Reading.{values_of, bounds_of, Reads}
use Rattle.listing.specs.AsTable.{ReadText}
use Rattle.listing.specs.declared.Reading.{Reading}
use Rattle.std.specs.Prelude.{Result, Ok, Err}
use Rattle.listing.proofs.Answered.{text-lent}
use Rattle.tables.specs.declared.Refusal.{Refusal}
use Rattle.share_totals.specs.declared.Share.{Share}
use Rattle.share_totals.specs.Within.{Fits}
use Rattle.shares.specs.Promise.{outcome_of}
use Rattle.shares.proofs.Promise.{project-fits}
use Rattle.share_text.specs.Texts.{TextOutcome}

module _ (s settings settings' bounds bounds' columns columns' : List ℕ) (read : Reading) (a : Reads s settings settings' bounds bounds' columns columns' (Ok read)) where
  -- the values that were read stand in the columns
  pub text-room : read.values ≤ length columns'
  text-room = omega (arith, a.3, ap length a.6, length-append (values_of a.0) (drop (length (values_of a.0)) columns))

  -- and the names in the text
  pub text-names : (read.from ≤ read.to) × (read.to ≤ length s)
  text-names = (a.7.0, a.7.1)

-- 7 where the text is no project's
pub text-refused : (s : List ℕ) (e : Refusal) → ReadText s (Err e) → TextOutcome s (Err e)
text-refused s e a = inr (a.1, ap Err a.0)

-- else the outcome of what was read
pub text-shared : (s : List ℕ) (t : Table) (r : Result Share Refusal) → ReadText s (Ok t) → r ≡ outcome_of (as_named t) → TextOutcome s r
text-shared s t r a e = inl (a.0, a.1, a.2, e ∙ ap₂ (λ (names : List ℕ) (u : Lent). outcome_of (named_lent names u)) a.4 a.3)

-- a text's outcome fits the totals
pub text-fits : (s : List ℕ) (r : Result Share Refusal) → TextOutcome s r → Fits r
text-fits s r =
    ⊎_elim
    (λ a.
    let p = a.0 in
    let l = a.1 in
    subst Fits (sym (a.3 ∙ ap (λ (t : Lent). outcome_of (named_lent (lent_names l) t)) (sym (text-lent s p l a.2.1)))) (project-fits (bounds_of p) (values_of p) (lent_names l) p))
    (λ a. subst Fits (sym a.1) tt)
