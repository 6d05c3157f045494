-- The witnesses, by computation.
-- Assumes nothing.
use mathlib.Core.Path.{◌≡◌, refl}
use mathlib.Core.Bool.{true}
use mathlib.Core.List.{List, [], ◌∷◌}
use Prim.Native.Nat.{ℕ, zero, suc, ◌<◌}
use native.Mathlib.Omega.{arith}
use lib.ListN.{get_or}
use Rattle.lists.specs.Words.{every, elem, has}
use Rattle.lists.proofs.Laws.{every-mem, elem_mem}
use Rattle.chunk_cycles.specs.Paths.{Edge, MoreImports}
use Rattle.eligibility.specs.Eligible.{eligible}
use Rattle.wrap_rules.specs.Plan.{expected_sensitive_of}
use Rattle.at_risk.specs.Promise.{actual_sensitive_of}
use Rattle.eligibility.proofs.Eligible.{eligible-in}
use Rattle.order_analysis.specs.Promise.{seeds_of}
use Rattle.marked_cases.specs.Listing.{listing}
use Rattle.marked_cases.specs.Cases.{edge10}
use Rattle.promises.specs.Statements.{ClosedOverSeeds, AllEligible}
use Rattle.premises.specs.Witnesses.{LeastPlanWitness, LeastWholePlanWitness, MoreSeedsWitness, MoreSeedRowsWitness, MoreImportsWitness, SameOrderWitness, CallWitness}
use Rattle.marked_cases.proofs.Computing.{computing}

-- four marks hold every module of four
all-four : (m : ℕ) → m < 4 → has (1 ∷ 1 ∷ 1 ∷ 1 ∷ []) m ≡ true
all-four zero l = refl
all-four (suc zero) l = refl
all-four (suc (suc zero)) l = refl
all-four (suc (suc (suc zero))) l = refl
all-four (suc (suc (suc (suc m)))) l = absurd (omega arith)

all_closed : (seeds : List ℕ) → ClosedOverSeeds listing seeds (1 ∷ 1 ∷ 1 ∷ 1 ∷ [])
all_closed seeds = record { marks = refl; seeded = λ m s e. all-four m (eligible-in listing m e); closed = λ rule m l a. all-four m l }

pub least_plan_witness : LeastPlanWitness
unfolding computing
least_plan_witness = record { closed = all_closed (2 ∷ []); ineligible = refl; plan = refl }

pub least_whole_plan_witness : LeastWholePlanWitness
unfolding computing
least_whole_plan_witness = record { closed = all_closed (seeds_of listing); plan = refl }

-- the members of a list are among another's
pub every-elem : (xs ys : List ℕ) → every (λ (x : ℕ). elem x ys) xs ≡ true → (m : ℕ) → elem m xs ≡ true → elem m ys ≡ true
every-elem xs ys e m h = every-mem (λ (x : ℕ). elem x ys) xs e (elem_mem m xs h)

pub more_seeds_witness : MoreSeedsWitness
unfolding computing
more_seeds_witness = record { more = every-elem (1 ∷ []) (2 ∷ 1 ∷ []) refl; plan = refl }

pub more_seed_rows_witness : MoreSeedRowsWitness
unfolding computing
more_seed_rows_witness = record { more = every-elem (3 ∷ []) (2 ∷ 3 ∷ []) refl; plan = refl }

-- the listing's one import row is still the first
still-there : MoreImports listing edge10
unfolding MoreImports
still-there c d e = go e.row e.there e.from e.to
  where
    go : (row : ℕ) → row < 1 → get_or (0 ∷ []) row 0 ≡ c → get_or (1 ∷ []) row 0 ≡ d → Edge edge10 c d
    go zero l f t = record { row = 0; there = omega arith; from = f; to = t }
    go (suc row) l f t = absurd (omega arith)

pub more_imports_witness : MoreImportsWitness
unfolding computing
more_imports_witness = record { accepted = refl; accepted' = refl; more = still-there; plan = refl }

pub same_order_witness : SameOrderWitness
unfolding computing AllEligible
same_order_witness = record {
  analysed = refl;
  expected = λ m h. every-mem (eligible listing) (expected_sensitive_of listing 1) refl h;
  actual = λ m h. every-mem (eligible listing) (actual_sensitive_of listing 1) refl h;
  order = refl;
  order' = refl;
  opening = refl;
}

pub call_witness : CallWitness
unfolding computing
call_witness = record { planned = record { answered = refl; written = refl }; analysed = record { answered = refl; written = refl } }
