-- Some modules executed with the counters lent: what is known between the executions.
-- Assumes nothing.
use Rattle.std.specs.Prelude.{◌≡◌, ℕ, ◌+◌, ◌<◌, ◌≤◌, List, [], ◌∷◌, ◌++◌, length, get_or, take}
use mathlib.Core.Path.{refl, sym, ap, subst, ◌∙◌}
use mathlib.Core.List.{foldl, foldl-append, append-nil}
use native.Mathlib.Omega.{arith}
use lib.Seq.{take_all}
use borrow.Author.Tests.{eq-eqb, ne_eqb}
use Rattle.lists.specs.Words.{keep}
use Rattle.lists.proofs.Laws.{keep_append, take_more}
use Rattle.walk.specs.Walk.{St}
use Rattle.tables.specs.Accepted.{Below}
use Rattle.visit_steps.specs.declared.inner.ActualOrderTraversal.{ActualOrderTraversal}
use Rattle.visit_steps.specs.inner.Steps.{leads, Filling, in_way}
use Rattle.module_visits.specs.inner.Visits.{Ready, executing, hosted}
use Rattle.module_visits.proofs.Hosting.{Kept, host-visited, turns-kept}
use Rattle.module_visits.proofs.ModuleVisits as M

-- between two members: those so far that execute in a way have executed in turn
pub record Between (ways starts triggers member : List ℕ) (way : ℕ) (marks order hosts : List ℕ) (h : ActualOrderTraversal) (i : ℕ) (t : ActualOrderTraversal) (ms os hs : List ℕ) : Type 0 where
  pub equal : t.next ≡ t.placed
  pub so_far : foldl (hosted (leads starts triggers)) (executing marks order hosts h.placed) (keep (in_way way ways) (take i member)) ≡ executing ms os hs t.placed

module _ (ways starts triggers member : List ℕ) (way : ℕ) where
  -- what the function asks and says
  abbrev pub Needs : List ℕ → List ℕ → List ℕ → ActualOrderTraversal → Type 0
  Needs marks order hosts h = Ready starts triggers marks order hosts h × (length ways ≡ length marks) × Below (length marks) member

  abbrev pub Says : List ℕ → List ℕ → List ℕ → ActualOrderTraversal → List ℕ → List ℕ → List ℕ → ActualOrderTraversal → Type 0
  Says marks order hosts h marks' order' hosts' r =
      (foldl (hosted (leads starts triggers)) (executing marks order hosts h.placed) (keep (in_way way ways) member) ≡ executing marks' order' hosts' r.placed) × (r.next ≡ r.placed)

module _ {ways starts triggers member : List ℕ} {way : ℕ} {marks order hosts : List ℕ} {h : ActualOrderTraversal} (within : Needs ways starts triggers member way marks order hosts h) where
  pub between_start : Between ways starts triggers member way marks order hosts h 0 h marks order hosts
  between_start = record { equal = within.0.room.equal; so_far = refl }

  module _ {i : ℕ} {t : ActualOrderTraversal} {ms os hs : List ℕ} (b : Between ways starts triggers member way marks order hosts h i t ms os hs) where
    abbrev from : St Filling
    from = executing marks order hosts h.placed

    kept : Kept from (executing ms os hs t.placed)
    kept = subst (Kept from) b.so_far (turns-kept (leads starts triggers) from (keep (in_way way ways) (take i member)))

    pub same-marks : length ms ≡ length marks
    same-marks = kept.marks

    module _ (inside : i < length member) where
      abbrev at-i : ℕ
      at-i = get_or member i 0

      pub member_in : at-i < length marks
      member_in = within.2 i inside

      -- the members so far, and one more
      more : (l : List ℕ) → keep (in_way way ways) (at-i ∷ []) ≡ l → keep (in_way way ways) (take (i + 1) member) ≡ keep (in_way way ways) (take i member) ++ l
      more l e =
          ap (keep (in_way way ways)) (sym (take_more member i inside)) ∙ keep_append (in_way way ways) (take i member) (at-i ∷ [])
          ∙ ap (λ (r : List ℕ). keep (in_way way ways) (take i member) ++ r) e

      -- one that executes in another way
      pub between_other : (get_or ways at-i 0 ≡ way → ⊥) → Between ways starts triggers member way marks order hosts h (i + 1) t ms os hs
      between_other o =
          let none : keep (in_way way ways) (at-i ∷ []) ≡ [] = rw (ne_eqb (get_or ways at-i 0) way o) in
          record {
            equal = b.equal;
            so_far = ap (foldl (hosted (leads starts triggers)) from) (more [] none ∙ append-nil (keep (in_way way ways) (take i member))) ∙ b.so_far;
          }

      -- one that executes in this
      pub call_fits : M.Needs starts triggers ms os hs at-i t
      call_fits = (M.ready-still within.0 ms os hs t kept.marks kept.order kept.hosts b.equal kept.room, omega (arith, member_in, kept.marks))

      pub between_more : get_or ways at-i 0 ≡ way → {u : ActualOrderTraversal} {ms' os' hs' : List ℕ} → M.Says starts triggers ms os hs at-i at-i t ms' os' hs' u
          → Between ways starts triggers member way marks order hosts h (i + 1) u ms' os' hs'
      between_more y {u} {ms'} {os'} {hs'} d =
          let one : keep (in_way way ways) (at-i ∷ []) ≡ at-i ∷ [] = rw (eq-eqb (get_or ways at-i 0) way y) in
          record {
            equal = d.1;
            so_far =
                ap (foldl (hosted (leads starts triggers)) from) (more (at-i ∷ []) one)
                ∙ foldl-append (hosted (leads starts triggers)) from (keep (in_way way ways) (take i member)) (at-i ∷ [])
                ∙ ap (λ (s : St Filling). foldl (hosted (leads starts triggers)) s (at-i ∷ [])) b.so_far
                ∙ host-visited (leads starts triggers) (executing ms os hs t.placed) (executing ms' os' hs' u.placed) at-i d.0;
          }

    pub ended : length member ≤ i → Says ways starts triggers member way marks order hosts h ms os hs t
    ended past = (ap (λ (l : List ℕ). foldl (hosted (leads starts triggers)) from (keep (in_way way ways) l)) (sym (take_all i member past)) ∙ b.so_far, b.equal)
