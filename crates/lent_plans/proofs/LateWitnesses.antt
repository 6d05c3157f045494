-- The witnesses of specs/Late, by computation.
-- Assumes nothing.
use mathlib.Core.Path.{◌≡◌, refl, sym, ◌∙◌}
use mathlib.Core.Logic.{⊎_elim}
use mathlib.Core.Bool.{Bool, true, not, ◌||◌, true≢false, false≢true}
use mathlib.Core.List.{List, [], ◌∷◌}
use Prim.Native.Nat.{ℕ}
use lib.ListN.{length}
use Rattle.lists.specs.Words.{up_to, every, elem, has}
use Rattle.lists.proofs.Laws.{iff-eq, not-true, or_parts, every-mem, elem_mem, has_in, up_to-mem}
use Rattle.walk.specs.Joining.{none, joined}
use Rattle.wrap_rules.specs.Plan.{suffix_rule, component_rule, import_rule, read_rule}
use Rattle.load_promises.specs.Load.{implies}
use Rattle.lent_plans.specs.Late.{MembersAre, MayJoin, ruled, as_seed, by_rule}
use Rattle.lent_plans.specs.LateWitnesses.{two_entries, LateSeedsWitness, FinishedPlanWitness, LateCallsWitness, JoiningWitness, joins_by_its_rule, joinings, EachRuleJoins}
use Rattle.marked_cases.proofs.Computing.{computing}
use Rattle.premises.proofs.Witnesses.{every-elem}

-- the members of a list are those that pass a test, if each of them passes and all that pass are in the list
members-are : (list : List ℕ) (test : ℕ → Bool) → every test list ≡ true → ((m : ℕ) → test m ≡ true → elem m list ≡ true) → MembersAre list test
unfolding MembersAre
members-are list test e h m = iff-eq (elem m list) (test m) (λ i. every-mem test list e (elem_mem m list i)) (h m)

-- the members of a set are in a list
marks-elem : (marks list : List ℕ) → every (λ (m : ℕ). implies (has marks m) (elem m list)) (up_to (length marks)) ≡ true → (m : ℕ) → has marks m ≡ true → elem m list ≡ true
marks-elem marks list e m h =
    ⊎_elim (λ n. absurd (true≢false (sym h ∙ not-true (has marks m) n))) (λ i. i)
    (or_parts (not (has marks m)) (elem m list) (every-mem (λ (x : ℕ). implies (has marks x) (elem x list)) (up_to (length marks)) e (up_to-mem (has_in marks m h))))

abbrev old : List ℕ
old = 0 ∷ 1 ∷ 0 ∷ 1 ∷ 0 ∷ []

grown-members : MembersAre (2 ∷ 3 ∷ 1 ∷ 2 ∷ []) (λ (m : ℕ). has old m || elem m (2 ∷ []))
grown-members =
    members-are (2 ∷ 3 ∷ 1 ∷ 2 ∷ []) (λ (m : ℕ). has old m || elem m (2 ∷ [])) refl
    (λ m e. ⊎_elim (marks-elem old (2 ∷ 3 ∷ 1 ∷ 2 ∷ []) refl m) (every-elem (2 ∷ []) (2 ∷ 3 ∷ 1 ∷ 2 ∷ []) refl m) (or_parts (has old m) (elem m (2 ∷ [])) e))

all-members : MembersAre (2 ∷ 1 ∷ []) (λ (m : ℕ). elem m (1 ∷ []) || elem m (2 ∷ []))
all-members =
    members-are (2 ∷ 1 ∷ []) (λ (m : ℕ). elem m (1 ∷ []) || elem m (2 ∷ [])) refl
    (λ m e. ⊎_elim (every-elem (1 ∷ []) (2 ∷ 1 ∷ []) refl m) (every-elem (2 ∷ []) (2 ∷ 1 ∷ []) refl m) (or_parts (elem m (1 ∷ [])) (elem m (2 ∷ [])) e))

old-members : MembersAre (3 ∷ 1 ∷ 3 ∷ []) (has old)
old-members = members-are (3 ∷ 1 ∷ 3 ∷ []) (has old) refl (marks-elem old (3 ∷ 1 ∷ 3 ∷ []) refl)

pub late_seeds_witness : LateSeedsWitness
unfolding computing
late_seeds_witness = record { old = refl; grown = grown-members; all = all-members; plan = refl }

pub finished_plan_witness : FinishedPlanWitness
unfolding computing
finished_plan_witness = record { members = old-members; plan = refl }

pub late_calls_witness : LateCallsWitness
unfolding computing
late_calls_witness = record {
  old = record { answered = refl; written = refl };
  on = record { answered = refl; written = refl };
  whole = record { answered = refl; written = refl };
  again = record { answered = refl; written = refl };
  grown = grown-members;
  all = all-members;
  members = old-members;
}

-- 3 is no seed, and with 2 alone no rule asks for it
not_yet : MayJoin two_entries (1 ∷ 2 ∷ []) (2 ∷ []) 3 → ⊥
unfolding computing
not_yet (as_seed e s) = false≢true s
not_yet (by_rule (ruled suffix_rule e)) = false≢true e
not_yet (by_rule (ruled component_rule e)) = false≢true e
not_yet (by_rule (ruled import_rule e)) = false≢true e
not_yet (by_rule (ruled read_rule e)) = false≢true e

pub joining_witness : JoiningWitness
unfolding computing
joining_witness = record {
  joins = joined (joined (joined (joined none refl (as_seed refl refl)) refl (by_rule (ruled suffix_rule refl))) refl (as_seed refl refl)) refl (by_rule (ruled suffix_rule refl));
  planned = refl;
  outside = refl;
  not_yet = not_yet;
}

pub each_rule_joins : EachRuleJoins
unfolding EachRuleJoins joins_by_its_rule joinings computing
each_rule_joins = refl
