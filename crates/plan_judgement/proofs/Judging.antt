-- The first two of the six conditions, each by its lowest module, by the marks of the eligible modules.
-- Assumes nothing.
use Rattle.std.specs.Prelude.{◌≡◌, ℕ, Bool, not, ◌&&◌, List, length}
use mathlib.Core.Path.{sym, ap, ◌∙◌}
use Rattle.lists.specs.Words.{elem, has}
use Rattle.lists.proofs.Laws.{length-marks_of}
use Rattle.tables.specs.Project.{Project}
use Rattle.tables.specs.Readings.{modules}
use Rattle.eligibility.specs.Eligible.{eligible, eligible_marks}
use Rattle.eligibility.proofs.Eligible.{eligible-marks}
use Rattle.plan_conditions.specs.Conditions.{only_eligible, holds_seeds, broken, lowest}

module _ (p : Project) (seeds plan : List ℕ) where
  -- the marks of the eligible modules are read
  module _ (eligibles : List ℕ) (marks : eligibles ≡ eligible_marks p) (size : length plan ≡ modules p) where
    test : has eligibles ≡ eligible p
    test = ap has marks ∙ eligible-marks p

    pub eligible-count : length eligibles ≡ length plan
    eligible-count = ap length marks ∙ length-marks_of (eligible p) (modules p) ∙ sym size

    pub wrong-is : lowest (λ (m : ℕ). has plan m && not (has eligibles m)) (length plan) ≡ lowest (broken p seeds plan only_eligible) (modules p)
    wrong-is =
        ap (λ (f : ℕ → Bool). lowest (λ (m : ℕ). has plan m && not (f m)) (length plan)) test
        ∙ ap (lowest (λ (m : ℕ). has plan m && not (eligible p m))) size

    pub seed-is : lowest (λ (m : ℕ). (has eligibles m && elem m seeds) && not (has plan m)) (length plan) ≡ lowest (broken p seeds plan holds_seeds) (modules p)
    seed-is =
        ap (λ (f : ℕ → Bool). lowest (λ (m : ℕ). (f m && elem m seeds) && not (has plan m)) (length plan)) test
        ∙ ap (lowest (λ (m : ℕ). (eligible p m && elem m seeds) && not (has plan m))) size
