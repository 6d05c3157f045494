-- Rule (iii) by marks: the modules with a target that leads to the plan, and those with a planned dependency.
-- Assumes nothing.
use Rattle.std.specs.Prelude.{◌≡◌, ℕ, ◌<◌, ◌≤◌, Bool, true, List, length, take, replicate}
use native.Mathlib.Omega.{arith}
use Rattle.lists.specs.Words.{has}
use Rattle.marks.specs.Steps.{looked, Owners, Added, InAll}
use Rattle.marks.proofs.Steps.{owners-row, row-owners, added-cong}
use Rattle.marks.proofs.Parts.{part_none, part_length}
use Rattle.import_rule.specs.inner.Imports.{Importer}

module _ (record_module targets dependency_module dependency candidates S leads importers₀ importers dependents₀ dependents : List ℕ)
    (no_importers : (m : ℕ) → has importers₀ m ≡ true → ⊥) (no_dependents : (m : ℕ) → has dependents₀ m ≡ true → ⊥)
    (target : length targets ≡ length record_module) (depends : length dependency ≡ length dependency_module)
    (i : Owners record_module (looked 0 leads targets) (length record_module) importers₀ importers)
    (d : Owners dependency_module (looked 0 S dependency) (length dependency_module) dependents₀ dependents) where
  pub marked-importer : (m : ℕ) → InAll importers dependents candidates m → Importer record_module targets dependency_module dependency candidates S leads m
  marked-importer m e = record {
    candidate = e.2;
    depends = owners-row dependency_module dependency S dependents₀ dependents no_dependents depends d m e.1;
    leading = owners-row record_module targets leads importers₀ importers no_importers target i m e.0;
  }

  pub importer-marked : (m : ℕ) → m < length importers₀ → m < length dependents₀ → Importer record_module targets dependency_module dependency candidates S leads m → InAll importers dependents candidates m
  importer-marked m l k e = (
    row-owners record_module targets leads importers₀ importers no_importers target i m l e.leading,
    row-owners dependency_module dependency S dependents₀ dependents no_dependents depends d m k e.depends,
    e.candidate,
  )

-- the pass, from marks of nothing in K places
pub importers_added : (K : ℕ) {importers targets dependency_module dependency candidates plan leads leading dependents t : List ℕ} {r : Bool}
    → length plan ≤ K → length targets ≡ length importers → length dependency ≡ length dependency_module
    → Owners importers (looked 0 leads targets) (length importers) (take (length plan) (replicate K 0)) leading
    → Owners dependency_module (looked 0 plan dependency) (length dependency_module) (take (length plan) (replicate K 0)) dependents
    → Added (InAll leading dependents candidates) plan t r
    → Added (Importer importers targets dependency_module dependency candidates plan leads) plan t r
importers_added K {importers} {targets} {dependency_module} {dependency} {candidates} {plan} {leads} {leading} {dependents} {t} {r} fits rows depends i d o =
    let zeroed : List ℕ = take (length plan) (replicate K 0) in
    let n : length zeroed ≡ length plan = part_length K (length plan) fits in
    let none : (m : ℕ) → has zeroed m ≡ true → ⊥ = part_none K (length plan) in
    added-cong (InAll leading dependents candidates) (Importer importers targets dependency_module dependency candidates plan leads)
    (λ m l. importer-marked importers targets dependency_module dependency candidates plan leads zeroed leading zeroed dependents none none rows depends i d m (omega (arith, n)) (omega (arith, n)))
    (marked-importer importers targets dependency_module dependency candidates plan leads zeroed leading zeroed dependents none none rows depends i d)
    o
