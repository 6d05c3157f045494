-- Where a run starts: the part of a zeroed array that is lent for the roots is blank, and the first notes are right where nothing is listed.
-- Assumes nothing.
use Rattle.std.specs.Prelude.{◌≡◌, ℕ, zero, suc, ◌≤◌, List, ◌∷◌, length, take, replicate}
use mathlib.Core.Path.{refl, ap, ◌∙◌}
use native.Mathlib.Omega.{arith}
use lib.ListN.{length-replicate, get_or-replicate}
use Rattle.tables.specs.Project.{Project}
use Rattle.tables.specs.Readings.{modules}
use Rattle.wrap_rules.specs.Plan.{roots}
use Rattle.suffix_rule.specs.inner.Suffix.{Settled}
use Rattle.reached_modules.proofs.Choosing.{few-roots}
use Rattle.rule_sets.specs.inner.Sets.{Rooted}
use Rattle.rule_sets.proofs.Blank.{blank-none}
use Rattle.suffix_places.specs.inner.Places.{never}
use Rattle.request_queue.specs.inner.Growing.{Listing}
use Rattle.worklist_taking.specs.inner.State.{RuleNotes, Batch}
use Rattle.worklist.specs.inner.Taking.{blank, Fresh}

take-zeros : (n K : ℕ) → n ≤ K → take {A = ℕ} n (replicate K 0) ≡ replicate n 0
take-zeros zero K l = refl
take-zeros (suc n) zero l = absurd (omega arith)
take-zeros (suc n) (suc K) l = ap (λ (xs : List ℕ). 0 ∷ xs) (take-zeros n K (omega arith))

module _ {p : Project} {root_list : List ℕ} (s : Rooted p root_list) where
  pub roots_fit : length root_list ≤ 16384
  roots_fit = omega (arith, ap length s.root, few-roots p s.accepted)

  pub none-settled : take {A = ℕ} (length root_list) (replicate 16384 0) ≡ replicate (length (roots p)) 0
  none-settled = take-zeros (length root_list) 16384 roots_fit ∙ ap (λ (xs : List ℕ). replicate {A = ℕ} (length xs) 0) s.root

-- no root is settled, and rule (i) asks for nothing
pub batch-none : (p : Project) → Batch p (replicate (modules p) 0) (record { settled = replicate (length (roots p)) 0; asked = replicate (modules p) never }) 0
unfolding Settled
batch-none p = record {
  settling = record { size = length-replicate {A = ℕ} (length (roots p)) 0; settles = λ k l e. absurd (blank-none (length (roots p)) k e) };
  len = length-replicate {A = ℕ} (modules p) never;
  sound = λ m l e. absurd (omega (arith, e, get_or-replicate (modules p) m never 0 l));
  all = λ root x m i s c. absurd (blank-none (modules p) x c);
}

-- so nothing is met or listed, and what is noted is right
pub fresh-run : {p : Project} {met list : Listing} {notes : RuleNotes} → met ≡ blank 49152 → list ≡ blank (modules p) → notes ≡ record { settled = replicate (length (roots p)) 0; asked = replicate (modules p) never } → Fresh p met list notes
fresh-run {p} a b n = record { none = a; empty = b; batch = rw (b, n) (batch-none p) }
