-- The eligible seeds, marked, and those that a plan lacks.
-- Assumes nothing.
use Rattle.std.specs.Prelude.{◌≡◌, ℕ, Bool, true, not, ◌&&◌, List, length, get_or}
use mathlib.Core.Path.{sym, ap, subst, ◌∙◌}
use mathlib.Core.Logic.{⊎_elim}
use mathlib.Core.List.{Memᴰ}
use native.Mathlib.Omega.{arith}
use Rattle.lists.specs.Words.{elem, has}
use Rattle.lists.proofs.Laws.{and_parts, and-join, iff-eq, elem_mem, mem-elem}
use Rattle.lists.proofs.Members.{mem-at, get_d-mem}
use Rattle.tables.specs.Accepted.{Below}
use Rattle.marks.specs.Steps.{looked, Owners}
use Rattle.marks.proofs.Steps.{looked-has}
use Rattle.plan_conditions.specs.Conditions.{lowest}
use Rattle.plan_conditions.proofs.Lowest.{lowest-cong}

pub lacking-seeds : (seeds eligible plan none marks : List ℕ) (n : ℕ) → ((m : ℕ) → has none m ≡ true → ⊥) → length none ≡ n → Below n seeds
    → Owners seeds (looked 0 eligible seeds) (length seeds) none marks
    → lowest (λ (m : ℕ). has marks m && not (has plan m)) n ≡ lowest (λ (m : ℕ). (has eligible m && elem m seeds) && not (has plan m)) n
lacking-seeds seeds eligible plan none marks n empty size inside o =
    lowest-cong (λ (m : ℕ). has marks m && not (has plan m)) (λ (m : ℕ). (has eligible m && elem m seeds) && not (has plan m)) n
    (λ m l.
    ap (λ (b : Bool). b && not (has plan m))
    (iff-eq (has marks m) (has eligible m && elem m seeds)
    (λ e.
    ⊎_elim (λ h. absurd (empty m h))
    (λ q.
    let h : has eligible (get_or seeds q.0 0) ≡ true = sym (looked-has eligible seeds q.0 q.1) ∙ q.2 in
    and-join (has eligible m) (elem m seeds) (subst (λ (x : ℕ). has eligible x ≡ true) q.3 h)
    (mem-elem m seeds (subst (λ (x : ℕ). Memᴰ x seeds) q.3 (get_d-mem seeds q.0 q.1))))
    (o.only m e))
    (λ e.
    let r = and_parts (has eligible m) (elem m seeds) e in
    let q = mem-at seeds (elem_mem m seeds r.1) in
    subst (λ (x : ℕ). has marks x ≡ true) q.2
    (o.new q.0 q.1 (looked-has eligible seeds q.0 q.1 ∙ subst (λ (x : ℕ). has eligible x ≡ true) (sym q.2) r.0) (omega (arith, inside q.0 q.1, size))))))
