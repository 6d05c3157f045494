-- The loop of a visit: what is known between two turns, and at the end.
-- Assumes nothing.
use Rattle.std.specs.Prelude.{◌≡◌, ℕ, true, false, List, [], ◌∷◌, ◌++◌, get_or, set, replicate}
use mathlib.Core.Path.{refl, sym, ap, ◌∙◌}
use Rattle.lists.specs.Words.{is_zero}
use Rattle.walk.specs.Walk.{St, everywhere, unmet, Visits}
use Rattle.walk.proofs.Visits.{Grown, walk-fold}
use Rattle.walk.proofs.Orders.{order-marks}
use Rattle.walk.proofs.Going.{none-visited, met-visited, left-visited, visited-grown, visited-then, visited-walk}
use Rattle.strong_connection.specs.Cycles.{reached_from}
use Rattle.strong_connection.specs.inner.Marking.{marking, nothing, Marked, reach_marks}

pub marked-old : (succ : ℕ → List ℕ) (marks : List ℕ) (m : ℕ) → is_zero (get_or marks m 1) ≡ false → Marked succ marks m marks
marked-old succ marks m e = met-visited succ everywhere nothing (marking marks) m e

pub marked-grown : (succ : ℕ → List ℕ) (marks : List ℕ) (m : ℕ) (marks' : List ℕ) → Marked succ marks m marks' → Grown marks marks'
marked-grown succ marks m marks' v = visited-grown succ everywhere nothing v

-- from nothing met, the marks are those of what is reached
pub marked-reached : (succ : ℕ → List ℕ) (n c : ℕ) (marks : List ℕ) → Marked succ (replicate n 0) c marks → marks ≡ reach_marks n succ c
unfolding reached_from
marked-reached succ n c marks v =
    sym (ap (λ (s : St (Unit {0})). s.marks) (visited-walk succ everywhere nothing v))
    ∙ ap (λ (s : St (Unit {0})). s.marks) (walk-fold succ everywhere nothing tt (unmet n) (c ∷ []))
    ∙ order-marks succ everywhere n (c ∷ [])

module _ (succ : ℕ → List ℕ) (m : ℕ) where
  -- between the edges of m: from the marks where the loop begins to those after the first targets
  abbrev pub Visiting : List ℕ → List ℕ → List ℕ → Type 0
  Visiting marks₀ targets marks = Visits succ everywhere nothing (marking marks₀) targets (marking marks)

  pub visiting-start : (marks : List ℕ) → Visiting marks [] marks
  visiting-start marks = none-visited succ everywhere nothing (marking marks)

  pub visiting-next : (marks₀ targets marks : List ℕ) (target : ℕ) (marks' : List ℕ) → Visiting marks₀ targets marks → Marked succ marks target marks' → Visiting marks₀ (targets ++ target ∷ []) marks'
  visiting-next marks₀ targets marks target marks' g v = visited-then succ everywhere nothing g v

  pub visiting-grown : (marks₀ targets marks : List ℕ) → Visiting marks₀ targets marks → Grown marks₀ marks
  visiting-grown marks₀ targets marks g = visited-grown succ everywhere nothing g

  pub visiting-end : (old marks : List ℕ) → is_zero (get_or old m 1) ≡ true → Visiting (set old m 1) (succ m) marks → Marked succ old m marks
  visiting-end old marks e g = left-visited succ everywhere nothing (marking old) (marking marks) m refl e g
