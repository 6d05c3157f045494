-- Rows as edges, forward and backward.
-- Assumes nothing.
use Rattle.std.specs.Prelude.{◌≡◌, ℕ, suc, ◌<◌, List, ◌∷◌, length, get_or}
use mathlib.Core.Path.{sym, subst}
use mathlib.Core.List.{Memᴰ}
use native.Mathlib.Omega.{arith}
use Rattle.walk.specs.Reach.{Reach, here, step}
use Rattle.walk.proofs.Orders.{reach-next}
use Rattle.lists.proofs.Members.{get_d-mem}
use Rattle.tables.specs.Readings.{values_of}
use Rattle.tables.specs.Accepted.{Below}
use Rattle.tables.proofs.OwnerRows.{values-row, row-values}
use Rattle.threads.proofs.Turns.{any-turn, any-on}
use Rattle.strong_connection.specs.inner.Graph.{Graph, Linked}

-- edges of columns lead to places below n
pub graph-inside : {from to : List ℕ} {n : ℕ} → Graph from to n → (m y : ℕ) → m < n → Memᴰ y (values_of from to m) → y < n
graph-inside {from} {to} {n} g m y l h = let r = values-row from to m y h in subst (λ (x : ℕ). x < n) r.3 (g.tos r.0 r.1)

-- the same edges, backward
pub graph-back : {from to : List ℕ} {n : ℕ} → Graph from to n → Graph to from n
graph-back g = record {
  lengths = sym g.lengths;
  froms = λ i l. g.tos i (omega (arith, g.lengths));
  tos = λ i l. g.froms i (omega (arith, g.lengths));
}

-- a step backward
step_back : (from to : List ℕ) (m y : ℕ) → length to ≡ length from → Memᴰ y (values_of from to m) → Memᴰ m (values_of to from y)
step_back from to m y e h =
    let r = values-row from to m y h in
    subst (λ (x : ℕ). Memᴰ x (values_of to from y)) r.2 (subst (λ (x : ℕ). Memᴰ (get_or from r.0 0) (values_of to from x)) r.3 (row-values to from r.0 (omega (arith, r.1))))

-- a path backward
pub reach-back : (from to : List ℕ) → length to ≡ length from → {c d : ℕ} → Reach (values_of from to) c d → Reach (values_of to from) d c
reach-back from to e (here q) = here (sym q)
reach-back from to e (step {m} {y} s p) = reach-next (values_of to from) (reach-back from to e p) (step_back from to m y e s)

-- what is left of rows lies below what all of them lie below
pub below-rest : {n x : ℕ} {xs ys : List ℕ} → xs ≡ x ∷ ys → Below n xs → Below n ys
below-rest {n} {x} {xs} {ys} e b i l = subst (λ (zs : List ℕ). get_or zs (suc i) 0 < n) e (b (suc i) (rw e (omega arith)))

-- the targets of a graph's edges are places of it
pub targets-inside : {from to : List ℕ} {n heads : ℕ} → Linked from to n heads → (m : ℕ) → Below n (values_of from to m)
targets-inside {from} {to} {n} g m i l =
    let r = values-row from to m (get_or (values_of from to m) i 0) (get_d-mem (values_of from to m) i l) in
    subst (λ (x : ℕ). x < n) r.3 (g.tos r.0 r.1)

-- the turns of a search over what a place leads to
pub ruleset lead_steps = (any-turn, any-on)
