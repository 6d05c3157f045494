-- An answer and a slice by what refuses a call.
-- Assumes nothing.
use mathlib.Core.Path.{◌≡◌, sym, ap, ◌∙◌}
use mathlib.Core.List.{List}
use Prim.Native.Nat.{ℕ}
use Rattle.std.specs.Prelude.{Option, None, Some, Ok, Err}
use Rattle.tables.specs.declared.Refusal.{Refusal}
use Rattle.tables.specs.Answers.{answer, after}
use Rattle.tables.proofs.Answering.{answer-refused, answer-accepted, after-refused}

module _ (v : Option Refusal) (count : ℕ) (old new : List ℕ) where
  pub refused-by : {x : Refusal} → v ≡ Some x → (Err x ≡ answer v count) × (old ≡ after v old new)
  refused-by e = (answer-refused count e, after-refused old new e)

  pub accepted-by : (r : ℕ) (out : List ℕ) → v ≡ None → r ≡ count → out ≡ after None old new → (Ok r ≡ answer v count) × (out ≡ after v old new)
  accepted-by r out e c w = (answer-accepted e c, w ∙ ap (λ (w : Option Refusal). after w old new) (sym e))
