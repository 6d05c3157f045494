-- The plan from seeds is the least set of modules that holds the eligible seeds and is closed under each rule; more seeds or rules that ask for
-- more give more; seeds that lie in each other's plan give the same.
-- Assumes nothing.
use mathlib.Core.Path.{◌≡◌, refl, sym, ◌∙◌}
use mathlib.Core.Bool.{true, ◌&&◌}
use mathlib.Core.List.{List}
use Prim.Native.Nat.{ℕ, ◌<◌}
use lib.ListN.{length}
use Rattle.lists.specs.Words.{elem, has, marks_of}
use Rattle.lists.proofs.Laws.{and_parts, and-join, has_in, length-marks_of, has-marks_of}
use Rattle.walk.specs.Close.{Within, Closed, Bits}
use Rattle.walk.proofs.Closes.{close-len, close-bits, close-closed, close_more, close-least, close-same, close-rises, marks_of-bits}
use Rattle.tables.specs.Project.{Project}
use Rattle.tables.specs.Readings.{modules}
use Rattle.sensitivity.specs.Marks.{sensitive}
use Rattle.eligibility.specs.Eligible.{eligible}
use Rattle.eligibility.proofs.Eligible.{eligible-in}
use Rattle.wrap_rules.specs.Rules.{suffix_asks, component_asks, import_asks, read_asks}
use Rattle.wrap_rules.specs.Plan.{Rule, suffix_rule, component_rule, import_rule, read_rule, asks, asked, start, plan_from}
use Rattle.wrap_rules.proofs.Monotone.{asked-monotone, asks-asked, asked-asks}

module _ (orders : List (List ℕ)) (labels : List ℕ) (p : Project) where
  -- a rule asks for eligible modules only
  pub asks-eligible : (rule : Rule) (S : List ℕ) (m : ℕ) → asks orders labels p rule S m ≡ true → eligible p m ≡ true
  unfolding suffix_asks component_asks import_asks read_asks
  asks-eligible suffix_rule S m e = (and_parts (eligible p m) _ e).0
  asks-eligible component_rule S m e = (and_parts (eligible p m) _ (and_parts (sensitive p m) _ e).1).0
  asks-eligible import_rule S m e = (and_parts (eligible p m) _ e).0
  asks-eligible read_rule S m e = (and_parts (eligible p m) _ e).0

  -- a set is closed under each rule exactly if it is closed under the four together
  pub each-closed : (S : List ℕ) → Closed (asked orders labels p) S → (rule : Rule) → Closed (asks orders labels p rule) S
  unfolding Closed
  each-closed S c rule m l e = c m l (asks-asked orders labels p rule S m e)

  pub closed-each : (S : List ℕ) → ((rule : Rule) → Closed (asks orders labels p rule) S) → Closed (asked orders labels p) S
  unfolding Closed
  closed-each S c m l e = let r = asked-asks orders labels p S m e in c r.0 m l r.1

  module _ (seeds : List ℕ) where
    -- the start: a mark a module, 1 for the eligible seeds

    pub start-length : length (start orders labels p seeds) ≡ modules p
    unfolding start
    start-length = length-marks_of (λ (m : ℕ). eligible p m && elem m seeds) (modules p)

    pub start-bits : Bits (start orders labels p seeds)
    unfolding start
    start-bits = marks_of-bits (λ (m : ℕ). eligible p m && elem m seeds) (modules p)

    pub start_has : (m : ℕ) → has (start orders labels p seeds) m ≡ true → (eligible p m ≡ true) × (elem m seeds ≡ true)
    unfolding start
    start_has m e =
        let l : m < modules p = rw start-length at (has_in (start orders labels p seeds) m e) in
        and_parts (eligible p m) (elem m seeds) (sym (has-marks_of (λ (x : ℕ). eligible p x && elem x seeds) (modules p) m l) ∙ e)

    pub has-start : (m : ℕ) → eligible p m ≡ true → elem m seeds ≡ true → has (start orders labels p seeds) m ≡ true
    unfolding start
    has-start m e s =
        has-marks_of (λ (x : ℕ). eligible p x && elem x seeds) (modules p) m (eligible-in p m e) ∙ and-join (eligible p m) (elem m seeds) e s

    -- the plan

    pub plan-length : length (plan_from orders labels p seeds) ≡ modules p
    unfolding plan_from
    plan-length = close-len (asked orders labels p) (start orders labels p seeds) ∙ start-length

    pub plan-bits : Bits (plan_from orders labels p seeds)
    unfolding plan_from
    plan-bits = close-bits (asked orders labels p) (start orders labels p seeds) start-bits

    -- it holds the eligible seeds
    pub plan-seeds : (m : ℕ) → eligible p m ≡ true → elem m seeds ≡ true → has (plan_from orders labels p seeds) m ≡ true
    unfolding plan_from Within
    plan-seeds m e s = close_more (asked orders labels p) (start orders labels p seeds) m (has-start m e s)

    -- it is closed under each rule
    pub plan-closed : (rule : Rule) → Closed (asks orders labels p rule) (plan_from orders labels p seeds)
    unfolding plan_from
    plan-closed = each-closed (plan_from orders labels p seeds) (close-closed (asked orders labels p) (start orders labels p seeds))

    -- it is contained in every set of modules that holds the eligible seeds and is closed under each rule
    pub plan-least : (S : List ℕ) → length S ≡ modules p → ((m : ℕ) → eligible p m ≡ true → elem m seeds ≡ true → has S m ≡ true)
        → ((rule : Rule) → Closed (asks orders labels p rule) S) → Within (plan_from orders labels p seeds) S
    unfolding plan_from Within
    plan-least S n h c =
        close-least (asked orders labels p) (asked-monotone orders labels p) S (closed-each S c) (start orders labels p seeds) (start-length ∙ sym n)
        (λ m e. let r = start_has m e in h m r.0 r.1)

    -- it holds eligible modules only
    pub plan-eligible : (m : ℕ) → has (plan_from orders labels p seeds) m ≡ true → eligible p m ≡ true
    unfolding Within Closed
    plan-eligible m e =
        let l : m < modules p = rw plan-length at (has_in (plan_from orders labels p seeds) m e) in
        sym (all m l) ∙ plan-least (marks_of (eligible p) (modules p)) (length-marks_of (eligible p) (modules p)) (λ i g s. all i (eligible-in p i g) ∙ g)
        (λ rule i b a. let g = asks-eligible rule (marks_of (eligible p) (modules p)) i a in all i (eligible-in p i g) ∙ g) m e
      where
        all : (i : ℕ) → i < modules p → has (marks_of (eligible p) (modules p)) i ≡ eligible p i
        all = has-marks_of (eligible p) (modules p)

-- more seeds, or rules that ask for more, never remove a member
pub plan-rises : (orders orders' : List (List ℕ)) (labels labels' : List ℕ) (p p' : Project) (seeds seeds' : List ℕ) → modules p ≡ modules p'
    → ((m : ℕ) → eligible p m ≡ true → elem m seeds ≡ true → (eligible p' m ≡ true) × (elem m seeds' ≡ true))
    → ((rule : Rule) (S : List ℕ) → length S ≡ modules p → (m : ℕ) → asks orders labels p rule S m ≡ true → asks orders' labels' p' rule S m ≡ true)
    → Within (plan_from orders labels p seeds) (plan_from orders' labels' p' seeds')
unfolding plan_from Within
plan-rises orders orders' labels labels' p p' seeds seeds' n h a =
    close-rises (asked orders labels p) (asked orders' labels' p') (asked-monotone orders labels p) (start orders labels p seeds) (start orders' labels' p' seeds')
    (start-length orders labels p seeds ∙ n ∙ sym (start-length orders' labels' p' seeds'))
    (λ u k i l e. let r = asked-asks orders labels p u i e in asks-asked orders' labels' p' r.0 u i (a r.0 u (k ∙ start-length orders' labels' p' seeds' ∙ sym n) i r.1))
    (λ m e. let r = start_has orders labels p seeds m e in let q = h m r.0 r.1 in has-start orders' labels' p' seeds' m q.0 q.1)

pub plan-more-seeds : (orders : List (List ℕ)) (labels : List ℕ) (p : Project) (seeds seeds' : List ℕ)
    → ((m : ℕ) → elem m seeds ≡ true → elem m seeds' ≡ true) → Within (plan_from orders labels p seeds) (plan_from orders labels p seeds')
plan-more-seeds orders labels p seeds seeds' h = plan-rises orders orders labels labels p p seeds seeds' refl (λ m e s. (e, h m s)) (λ rule S n m e. e)

-- seeds whose eligible ones are in the plan from the others, both ways, give the same plan
pub plan-same : (orders : List (List ℕ)) (labels : List ℕ) (p : Project) (seeds seeds' : List ℕ)
    → ((m : ℕ) → eligible p m ≡ true → elem m seeds ≡ true → has (plan_from orders labels p seeds') m ≡ true)
    → ((m : ℕ) → eligible p m ≡ true → elem m seeds' ≡ true → has (plan_from orders labels p seeds) m ≡ true)
    → plan_from orders labels p seeds ≡ plan_from orders labels p seeds'
unfolding plan_from Within
plan-same orders labels p seeds seeds' h h' =
    close-same (asked orders labels p) (asked-monotone orders labels p) (start orders labels p seeds) (start orders labels p seeds')
    (start-length orders labels p seeds ∙ sym (start-length orders labels p seeds')) (start-bits orders labels p seeds) (start-bits orders labels p seeds')
    (λ m e. let r = start_has orders labels p seeds m e in h m r.0 r.1)
    (λ m e. let r = start_has orders labels p seeds' m e in h' m r.0 r.1)
