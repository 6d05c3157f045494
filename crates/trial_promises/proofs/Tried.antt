-- The statements on tried loads.
-- Assumes nothing.
use mathlib.Core.Path.{◌≡◌, refl, sym, ap, ◌∙◌}
use Rattle.std.specs.Prelude.{Option, None, Some, Ok}
use mathlib.Core.List.{List, [], ◌∷◌, ◌++◌, map}
use Prim.Native.Nat.{ℕ, zero, suc, ◌+◌, ◌≤◌, ◌<◌}
use native.Mathlib.Omega.{arith}
use native.Mathlib.Decide.{dec_lt}
use lib.ListN.{length, get_or, take, drop, replicate, length-map, get_or-append}
use borrow.Author.Tests.{eq-eqb, ne_eqb}
use Rattle.lists.specs.Words.{count_from}
use Rattle.tables.specs.Project.{Project, missing}
use Rattle.tables.specs.Readings.{modules}
use Rattle.tables.specs.Answers.{answer, after}
use Rattle.tables.specs.declared.Refusal.{Refusal}
use Rattle.entry_run.specs.Actual.{Executed, run_of, read_as_two, actual_of, hosts_of}
use Rattle.load_promises.specs.Load.{PlannedLoadKeepsTheOrder}
use Rattle.load_promises.proofs.Load.{planned_load_keeps_the_order}
use Rattle.planned_load.specs.Steps.{planned_run, step_at, step_of, step_modules, step_hosts}
use Rattle.wraps_and_hosts.specs.Hosts.{host_by}
use Rattle.planned_load.specs.declared.LoadStep.{LoadStep}
use Rattle.planned_load.proofs.Stepping.{step-done, step-there, planned-length}
use Rattle.wraps_and_hosts.proofs.Fronts.{at_map}
use Rattle.load_trial.specs.Promise.{run_verdict}
use Rattle.load_trial.proofs.Promise.{step-shown}
use Rattle.trial_promises.specs.Tried.{shown, FirstStepsAreFirstPlaces, HostsAreShown, DoneExactlyWhenNoneIsLeft, EmptyPlanRunsTheActualOrder, StepCallAnswersTheStep, WholeRunHoldsTheSteps, PlannedStepsKeepTheOrder}

-- the steps from number i on are those of the list, from number 0 on, where its first i places are left out
steps-from : (f : ℕ → Option LoadStep) (noted listed : List ℕ) (i n : ℕ) → ((k : ℕ) → f (i + k) ≡ step_at noted listed k) → n ≤ length listed
    → map f (count_from i n) ≡ map (λ (m : ℕ). shown m (host_by noted m)) (take n listed)
steps-from f noted listed i zero e h = refl
steps-from f noted [] i (suc n) e h = absurd (omega arith)
steps-from f noted (m ∷ listed) i (suc n) e h =
    ap (λ (s : Option LoadStep). s ∷ map f (count_from (suc i) n)) (ap f (omega arith) ∙ e 0)
    ∙ ap (λ (l : List (Option LoadStep)). shown m (host_by noted m) ∷ l) (steps-from f noted listed (suc i) n (λ k. ap f (omega arith) ∙ e (suc k)) (omega arith))

pub first_steps_are_first_places : FirstStepsAreFirstPlaces
unfolding FirstStepsAreFirstPlaces step_of
first_steps_are_first_places p plan root n h =
    let run = planned_run p plan root in
    steps-from (step_of p plan root) run.hosts run.listed 0 n (λ k. ap (step_of p plan root) (omega arith)) h

pub hosts_are_shown : HostsAreShown
unfolding HostsAreShown
hosts_are_shown noted m =
    record {
      own = λ e. rw (eq-eqb (get_or noted m missing) missing e);
      other = λ e. rw (ne_eqb (get_or noted m missing) missing e);
    }

pub done_exactly_when_none_is_left : DoneExactlyWhenNoneIsLeft
unfolding DoneExactlyWhenNoneIsLeft step_of
done_exactly_when_none_is_left p plan root n =
    let run = planned_run p plan root in
    record {
      only = λ e. go (dec_lt n (length run.listed)) e;
      then = λ h. step-done run.hosts run.listed n h;
      few = planned-length p plan root;
    }
  where
    go : Dec (n < length (planned_run p plan root).listed) → step_at (planned_run p plan root).hosts (planned_run p plan root).listed n ≡ None → length (planned_run p plan root).listed ≤ n
    go (yes l) e =
        let s = sym (step-there (planned_run p plan root).hosts (planned_run p plan root).listed n l) ∙ e in
        let z : ◌≡◌ {A = ℕ} 0 1 = cc in
        absurd (omega arith)
    go (no l) e = omega arith

-- no module planned: the wraps as written
none_read : (n : ℕ) (wraps : List ℕ) → read_as_two (replicate n 0) wraps ≡ wraps
none_read n [] = refl
none_read zero (w ∷ wraps) = refl
none_read (suc n) (w ∷ wraps) = ap (λ (l : List ℕ). w ∷ l) (none_read n wraps)

none-planned : (p : Project) (root n : ℕ) → planned_run p (replicate n 0) root ≡ run_of p p.wrap root
unfolding planned_run
none-planned p root n = ap (λ (wraps : List ℕ). run_of p wraps root) (none_read n p.wrap)

pub empty_plan_runs_the_actual_order : EmptyPlanRunsTheActualOrder
unfolding EmptyPlanRunsTheActualOrder step_modules step_hosts step_of actual_of hosts_of
empty_plan_runs_the_actual_order p root =
    let e : planned_run p (replicate (modules p) 0) root ≡ run_of p p.wrap root = none-planned p root (modules p) in
    record {
      listed = ap (λ (x : Executed). x.listed) e;
      hosts = ap (λ (x : Executed). map (host_by x.hosts) x.listed) e;
      steps = λ n. ap (λ (x : Executed). step_at x.hosts x.listed n) e;
    }

pub step_call_answers_the_step : StepCallAnswersTheStep
unfolding StepCallAnswersTheStep
step_call_answers_the_step t root plan n a b e = sym (step-shown t root plan a b e n refl)

-- a count says that nothing refuses the call
counted-none : (v : Option Refusal) (c n : ℕ) → Ok n ≡ answer v c → (v ≡ None) × (n ≡ c)
counted-none None c n e = (refl, cc)
counted-none (Some x) c n e = (cc, cc)

pub whole_run_holds_the_steps : WholeRunHoldsTheSteps
unfolding WholeRunHoldsTheSteps step_modules step_hosts step_of
whole_run_holds_the_steps t root plan steps hosts count steps' hosts' w =
    let run = planned_run t.project plan root in
    let v : Option Refusal = run_verdict t root plan (length steps) (length hosts) in
    let z = counted-none v (length run.listed) count w.answered in
    let listed : steps' ≡ run.listed ++ drop (length run.listed) steps = w.listed ∙ ap (λ (n : Option Refusal). after n steps run.listed) z.0 in
    let named : List ℕ = map (host_by run.hosts) run.listed in
    let hosted : hosts' ≡ named ++ drop (length named) hosts = w.hosted ∙ ap (λ (n : Option Refusal). after n hosts named) z.0 in
    record {
      there = λ n h.
          let l : n < length run.listed = omega (arith, z.1) in
          let k : n < length named = omega (arith, l, length-map run.listed (host_by run.hosts)) in
          let m : get_or steps' n 0 ≡ get_or run.listed n 0 = ap (λ (xs : List ℕ). get_or xs n 0) listed ∙ get_or-append run.listed (drop (length run.listed) steps) 0 n l in
          let o : get_or hosts' n 0 ≡ host_by run.hosts (get_or run.listed n 0) = ap (λ (xs : List ℕ). get_or xs n 0) hosted ∙ get_or-append named (drop (length named) hosts) 0 n k ∙ sym (at_map (host_by run.hosts) run.listed n l) in
          step-there run.hosts run.listed n l ∙ ap (λ (x : ℕ). shown x (host_by run.hosts (get_or run.listed n 0))) (sym m) ∙ ap (shown (get_or steps' n 0)) (sym o);
      past = λ n h. step-done run.hosts run.listed n (omega (arith, z.1));
    }

pub planned_steps_keep_the_order : PlannedStepsKeepTheOrder
unfolding PlannedStepsKeepTheOrder PlannedLoadKeepsTheOrder step_modules planned_run
planned_steps_keep_the_order p root ok plain analysed = planned_load_keeps_the_order p root ok plain analysed
