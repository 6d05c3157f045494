-- What hosts in turn keep: the slices' lengths, and room for all that are not met.
-- Assumes nothing.
use Rattle.std.specs.Prelude.{◌≡◌, ℕ, ◌+◌, ◌≤◌, false, List, [], ◌∷◌, length, get_or}
use mathlib.Core.Path.{refl, sym, ap, ◌∙◌}
use mathlib.Core.List.{foldl, Memᴰ}
use native.Mathlib.Omega.{arith}
use Rattle.lists.specs.Words.{is_zero, zeros}
use Rattle.walk.specs.Walk.{St, walk, Visits, everywhere}
use Rattle.walk.proofs.Visits.{walk-fuel, visit-met}
use Rattle.walk.proofs.Going.{visited-grown, visited-keeps, visited-room, visited-walk}
use Rattle.visit_steps.specs.inner.Steps.{Filling, fills}
use Rattle.visit_steps.proofs.Filling.{fills-count, fills-order, fills-hosts}
use Rattle.module_visits.specs.inner.Visits.{hosted}

pub record Kept (s t : St Filling) : Type 0 where
  pub marks : length t.marks ≡ length s.marks
  pub order : length t.made.order ≡ length s.made.order
  pub hosts : length t.made.hosts ≡ length s.made.hosts
  pub room : t.made.count + zeros t.marks ≤ s.made.count + zeros s.marks

pub kept-all : (s : St Filling) → Kept s s
kept-all s = record { marks = refl; order = refl; hosts = refl; room = omega arith }

pub kept_then : {s t u : St Filling} → Kept s t → Kept t u → Kept s u
kept_then a b = record { marks = b.marks ∙ a.marks; order = b.order ∙ a.order; hosts = b.hosts ∙ a.hosts; room = omega (arith, a.room, b.room) }

module _ (succ : ℕ → List ℕ) where
  abbrev runs : St Filling → ℕ → St Filling
  runs = hosted succ

  -- a visit of a host is its run
  pub host-visited : (s t : St Filling) (host : ℕ) → Visits succ everywhere (fills host) s (host ∷ []) t → runs s host ≡ t
  unfolding hosted
  host-visited s t host v = visited-walk succ everywhere (fills host) v

  host-kept : (s : St Filling) (host : ℕ) → Kept s (runs s host)
  unfolding hosted
  host-kept s host =
      let v : Visits succ everywhere (fills host) s (host ∷ []) (walk succ everywhere (fills host) s (host ∷ [])) = record { same = λ k z. sym (walk-fuel succ everywhere (fills host) k s (host ∷ []) z) } in
      let n : ℕ = length s.made.order in
      let h : ℕ = length s.made.hosts in
      record {
        marks = (visited-grown succ everywhere (fills host) v).len;
        order = visited-keeps succ everywhere (fills host) (λ (f : Filling). length f.order ≡ n) (fills-order host n) v refl;
        hosts = visited-keeps succ everywhere (fills host) (λ (f : Filling). length f.hosts ≡ h) (fills-hosts host h) v refl;
        room = visited-room succ everywhere (fills host) (λ (f : Filling). f.count) (fills-count host) v;
      }

  pub turns-kept : (s : St Filling) (hosts : List ℕ) → Kept s (foldl runs s hosts)
  turns-kept s [] = kept-all s
  turns-kept s (host ∷ hosts) = kept_then (host-kept s host) (turns-kept (runs s host) hosts)

  -- a host that was met runs nothing
  pub met-hosts : (s : St Filling) (xs : List ℕ) → ((x : ℕ) → Memᴰ x xs → is_zero (get_or s.marks x 1) ≡ false) → foldl runs s xs ≡ s
  unfolding hosted walk
  met-hosts s [] f = refl
  met-hosts s (x ∷ xs) f =
      ap (λ (u : St Filling). foldl runs u xs) (visit-met succ everywhere (fills x) (length s.marks) s x (f x (Memᴰ.head refl)))
      ∙ met-hosts s xs (λ y k. f y (Memᴰ.tail k))
