-- What closing starts from: working sets that hold nothing.
-- Assumes nothing.
use Rattle.std.specs.Prelude.{◌≡◌, ℕ, List, length, get_or, take, replicate}
use mathlib.Core.Path.{◌∙◌}
use native.Mathlib.Omega.{arith}
use Rattle.walk.specs.Close.{Within}
use Rattle.tables.specs.Project.{Project}
use Rattle.tables.specs.Readings.{modules}
use Rattle.tables.specs.Accepted.{Accepted}
use Rattle.marks.proofs.Parts.{part_none, part_length}
use Rattle.wrap_rules.specs.Plan.{roots}
use Rattle.wrap_rules.specs.inner.Passes.{Marked}
use Rattle.import_edges.specs.inner.Spread.{Along, Under, record_targets}
use Rattle.reached_modules.proofs.Choosing.{few-roots}
use Rattle.suffix_rule.specs.inner.Suffix.{Settled}
use Rattle.plan_rounds.specs.inner.Rounds.{Kept}

-- working sets that hold nothing
pub kept_from : (p : Project) → Accepted p → (plan : List ℕ) → Marked p plan → (rows n : ℕ) → rows ≡ length (roots p) → n ≡ modules p → Kept p (take rows (replicate 16384 0)) (take n (replicate 4096 0)) plan
unfolding Settled Within Along Under
kept_from p ok plan b rows n e k = record {
  marked = b;
  settling = record { size = part_length 16384 rows (omega (arith, few-roots p ok)) ∙ e; settles = λ i l h. absurd (part_none 16384 rows i h) };
  leading = record {
    size = part_length 4096 n (omega (arith, ok.sizes.normal)) ∙ k;
    along = λ row l h. absurd (part_none 4096 n (get_or (record_targets p) row 0) h);
    under = λ M i w a m h. absurd (part_none 4096 n m h);
  };
}
