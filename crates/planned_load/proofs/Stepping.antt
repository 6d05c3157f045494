-- A step by its number, and the hosts of the steps.
-- Assumes nothing.
use Rattle.std.specs.Prelude.{◌≡◌, ℕ, zero, suc, ◌<◌, ◌≤◌, List, [], ◌∷◌, ◌++◌, map, length, get_or, take, drop, None, Some}
use mathlib.Core.Path.{refl, sym, ap, subst, ◌∙◌}
use native.Mathlib.Omega.{arith}
use lib.ListN.{replicate, length-append, length-map, get_or-append}
use lib.Seq.{take_at, length-take-le}
use Rattle.lists.proofs.Members.{get_d-mem}
use Rattle.tables.specs.Project.{Project}
use Rattle.tables.specs.Readings.{modules}
use Rattle.tables.specs.Refusal.{module_limit}
use Rattle.tables.specs.Accepted.{Below}
use Rattle.entry_run.specs.Actual.{read_as_two}
use Rattle.entry_run.specs.inner.Cores.{Listed}
use Rattle.entry_run.proofs.OfProject.{run-of-length, run-of-member}
use Rattle.wraps_and_hosts.specs.Hosts.{host_by}
use Rattle.planned_load.specs.declared.LoadStep.{LoadStep}
use Rattle.planned_load.specs.Steps.{planned_run, step_at, step_of, step_modules, step_hosts}
use Rattle.planned_load.specs.inner.Stepping.{Stepped}

-- a place a module at the front of an array
pub room-length : {n : ℕ} → n ≤ module_limit → length {A = ℕ} (take n (replicate module_limit 0)) ≡ n
room-length {n = n} few = length-take-le n (replicate module_limit 0) few

-- a step that lists a module with its host
abbrev pub step : ℕ → ℕ → LoadStep
step m host = record { «module» = m; host = host }

-- a step by its number
pub step-done : (noted listed : List ℕ) (n : ℕ) → length listed ≤ n → step_at noted listed n ≡ None
step-done noted [] n h = refl
step-done noted (m ∷ listed) zero h = absurd (omega arith)
step-done noted (m ∷ listed) (suc n) h = step-done noted listed n (omega arith)

pub step-there : (noted listed : List ℕ) (n : ℕ) → n < length listed → step_at noted listed n ≡ Some (step (get_or listed n 0) (host_by noted (get_or listed n 0)))
step-there noted [] n h = absurd (omega arith)
step-there noted (m ∷ listed) zero h = refl
step-there noted (m ∷ listed) (suc n) h = step-there noted listed n (omega arith)

-- the run of a root with a plan
module _ (p : Project) (plan : List ℕ) (root : ℕ) where
  pub planned-length : length (planned_run p plan root).listed ≤ modules p
  unfolding planned_run
  planned-length = run-of-length p (read_as_two plan p.wrap) root

  -- each listed module has a row
  pub planned_below : Below (modules p) (planned_run p plan root).listed
  unfolding planned_run
  planned_below i h = (run-of-member p (read_as_two plan p.wrap) root (get_or (planned_run p plan root).listed i 0) (get_d-mem (planned_run p plan root).listed i h)).0

  abbrev listed : List ℕ
  listed = (planned_run p plan root).listed

  -- as slices hold it
  module _ {old order noted : List ℕ} {r : ℕ} (w : Listed (planned_run p plan root) old order noted r) where
    pub held-room : r ≤ length order
    held-room = omega (arith, w.listed.count, ap length w.listed.places, length-append listed (drop (length listed) old))

    pub held-few : r ≤ modules p
    held-few = omega (arith, w.listed.count, planned-length)

    held-is : take r order ≡ listed
    held-is = ap (take r) w.listed.places ∙ take_at listed (drop (length listed) old) r (sym w.listed.count)

    pub held_below : (n : ℕ) → n ≡ modules p → Below n (take r order)
    held_below n e = subst (λ (i : ℕ). Below i (take r order)) (sym e) (subst (Below (modules p)) (sym held-is) planned_below)

    -- the hosts of the listed modules, by the noted ones
    pub hosts-written : {noted' hosts hosts' : List ℕ} → noted' ≡ noted → hosts' ≡ map (host_by noted') (take r order) ++ drop (length (take r order)) hosts → Stepped p plan root old hosts order hosts' r
    unfolding step_modules step_hosts
    hosts-written {noted' = noted'} {hosts = hosts} n e =
        let same : map (host_by noted') (take r order) ≡ step_hosts p plan root = ap (λ (l : List ℕ). map (host_by noted') l) held-is ∙ ap (λ (l : List ℕ). map (host_by l) listed) (n ∙ w.hosts) in
        let size : length (take r order) ≡ length (step_hosts p plan root) = ap length held-is ∙ sym (length-map listed (host_by (planned_run p plan root).hosts)) in
        record {
          listed = record { count = w.listed.count; places = w.listed.places };
          hosted =
              record {
                count = w.listed.count ∙ sym (length-map listed (host_by (planned_run p plan root).hosts));
                places = e ∙ ap (λ (l : List ℕ). l ++ drop (length (take r order)) hosts) same ∙ ap (λ (i : ℕ). step_hosts p plan root ++ drop i hosts) size;
              };
        }

    pub held-done : (n : ℕ) → r ≤ n → None ≡ step_of p plan root n
    unfolding step_of
    held-done n h = sym (step-done (planned_run p plan root).hosts listed n (omega (arith, w.listed.count)))

    held_at : (n : ℕ) → n < r → get_or order n 0 ≡ get_or listed n 0
    held_at n h = ap (λ (l : List ℕ). get_or l n 0) w.listed.places ∙ get_or-append listed (drop (length listed) old) 0 n (omega (arith, w.listed.count))

    pub held-module : (n : ℕ) → n < r → get_or order n 0 < modules p
    held-module n h = subst (λ (m : ℕ). m < modules p) (sym (held_at n h)) (planned_below n (omega (arith, w.listed.count)))

    pub held-step : (n : ℕ) → n < r → {noted' : List ℕ} {host : ℕ} → noted' ≡ noted → host ≡ host_by noted' (get_or order n 0) → Some (step (get_or order n 0) host) ≡ step_of p plan root n
    unfolding step_of
    held-step n h {host = host} e f =
        let at = held_at n h in
        ap (λ (h : ℕ). Some (step (get_or order n 0) h)) (f ∙ ap (λ (l : List ℕ). host_by l (get_or order n 0)) (e ∙ w.hosts))
        ∙ ap (λ (m : ℕ). Some (step m (host_by (planned_run p plan root).hosts m))) at
        ∙ sym (step-there (planned_run p plan root).hosts listed n (omega (arith, w.listed.count)))
