-- What one more listed module does to the slices.
-- Assumes nothing.
use Rattle.std.specs.Prelude.{◌≡◌, ℕ, ◌+◌, ◌≤◌, eqb, length, set}
use mathlib.Core.Path.{◌∙◌}
use mathlib.Core.Logic.{⊎_elim}
use native.Mathlib.Omega.{arith}
use lib.ListN.{length-set}
use borrow.Author.Tests.{eq-eqb, ne_eqb}
use Rattle.lists.proofs.Laws.{both}
use Rattle.visit_steps.specs.inner.Steps.{Filling, fills}

module _ (host : ℕ) where
  pub fills-self : (f : Filling) (m : ℕ) → m ≡ host → fills host f m ≡ record { order = set f.order f.count m; count = f.count + 1; hosts = f.hosts }
  fills-self f m e = rw (eq-eqb m host e)

  pub fills-other : (f : Filling) (m : ℕ) → (m ≡ host → ⊥) → fills host f m ≡ record { order = set f.order f.count m; count = f.count + 1; hosts = set f.hosts m host }
  fills-other f m n = rw (ne_eqb m host n)

  -- one more is listed, in slices as long
  pub fills-count : (f : Filling) (m : ℕ) → (fills host f m).count ≤ f.count + 1
  fills-count f m = omega arith

  pub fills-order : (n : ℕ) (f : Filling) (m : ℕ) → length f.order ≡ n → length (fills host f m).order ≡ n
  fills-order n f m e = length-set f.order f.count m ∙ e

  pub fills-hosts : (n : ℕ) (f : Filling) (m : ℕ) → length f.hosts ≡ n → length (fills host f m).hosts ≡ n
  fills-hosts n f m e = ⊎_elim (λ q. rw q e) (λ q. rw q (length-set f.hosts m host ∙ e)) (both (eqb m host))
