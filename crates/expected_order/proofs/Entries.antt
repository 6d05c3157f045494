-- From a visit of the root to the expected order of an entry.
-- Assumes nothing.
use Rattle.std.specs.Prelude.{◌≡◌, ℕ, ◌+◌, ◌≤◌, List, [], ◌∷◌, ◌++◌, length, get_or, drop, replicate}
use mathlib.Core.Path.{sym, ap, ◌∙◌}
use native.Mathlib.Omega.{arith}
use lib.ListN.{length-replicate}
use borrow.Author.Tests.{eq-eqb, ne_eqb}
use Rattle.lists.specs.Words.{keep, zeros}
use Rattle.walk.specs.Walk.{St, Placed, place, everywhere, walk, Visits}
use Rattle.walk.proofs.Visits.{zeros-replicate}
use Rattle.walk.proofs.Going.{visited-walk}
use Rattle.walk.proofs.Placing.{placed-order}
use Rattle.tables.specs.Project.{Project}
use Rattle.tables.specs.Readings.{modules, flagged}
use Rattle.expected_visit.specs.Visit.{normal_imports, held}
use Rattle.expected_visit.specs.Expected.{walked_from, expected}
use Rattle.expected_visit.specs.OfProject.{expected_of}
use Rattle.expected_order.specs.Visit.{Listed}

-- a slice with a place a module has room for what was not met, where nothing was
pub blank_room : (n : ℕ) (marks order : List ℕ) → marks ≡ replicate n 0 → n ≤ length order → 0 + zeros marks ≤ length order
blank_room n marks order e l = omega (arith, l, ap zeros e ∙ zeros-replicate n)

module _ (p : Project) (root : ℕ) (marks order marks' : List ℕ) where
  -- an external root lists nothing
  pub external_listed : (get_or p.normal root 0 ≡ 1 → ⊥) → marks' ≡ replicate (length marks) 0 → Listed (expected_of p root) marks order marks' order 0
  unfolding expected_of expected
  external_listed n z = record {
    count = ap length (sym none);
    written = ap (λ (l : List ℕ). l ++ drop (length l) order) (sym none);
    cleared = z;
  }
    where
      none : expected_of p root ≡ []
      none = rw (ne_eqb (get_or p.normal root 0) 1 n)

  -- a visit of a normal root, from nothing met, lists the expected order
  pub root_listed : (marks₁ marks₂ order' : List ℕ) (r : ℕ) → get_or p.normal root 0 ≡ 1 → length marks ≡ modules p → length marks ≤ length order → marks₁ ≡ replicate (length marks) 0
      → Visits (normal_imports p) everywhere (place (flagged p.included)) (held marks₁ order 0) (root ∷ []) (held marks₂ order' r)
      → length marks₂ ≡ length marks₁ → marks' ≡ replicate (length marks₂) 0
      → Listed (expected_of p root) marks order marks' order' r
  unfolding expected_of expected
  root_listed marks₁ marks₂ order' r e n l b v k z = record {
    count = ap (λ (q : Placed). q.count) made ∙ ap length (sym some);
    written = ap (λ (q : Placed). q.order) made ∙ ap (λ (k : List ℕ). k ++ drop (length k) order) (sym some);
    cleared = z ∙ ap (λ (i : ℕ). replicate {A = ℕ} i 0) (k ∙ ap length b ∙ length-replicate {A = ℕ} (length marks) 0);
  }
    where
      listed : List ℕ
      listed = keep (flagged p.included) (walked_from p.normal p.record_module p.record_kind p.record_target root)

      some : expected_of p root ≡ listed
      some = rw (eq-eqb (get_or p.normal root 0) 1 e)

      made : ◌≡◌ {A = Placed} (record { order = order'; count = r }) (record { order = listed ++ drop (length listed) order; count = length listed })
      made =
          sym (ap (λ (s : St Placed). s.made) (visited-walk (normal_imports p) everywhere (place (flagged p.included)) v))
          ∙ ap (λ (m : List ℕ). (walk (normal_imports p) everywhere (place (flagged p.included)) (held m order 0) (root ∷ [])).made) (b ∙ ap (λ (i : ℕ). replicate {A = ℕ} i 0) n)
          ∙ placed-order (flagged p.included) (normal_imports p) everywhere (modules p) (root ∷ []) order (omega (arith, n, l))
