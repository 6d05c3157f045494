-- The rows of an owner, and its values by them.
-- Assumes nothing.
use Rattle.std.specs.Prelude.{◌≡◌, ℕ, ◌<◌, eqb, List, [], length, get_or}
use mathlib.Core.Path.{refl}
use mathlib.Core.List.Memᴰ
use mathlib.Core.List.{Memᴰ}
use borrow.Author.Tests.{eqb-true, eq-eqb, ne_eqb}
use Rattle.lists.specs.Words.{up_to}
use Rattle.lists.proofs.Laws.{mem-keep, keep-mem, keep-none, mem-up_to, up_to-mem}
use Rattle.tables.specs.Readings.{rows_of, values_of}

pub mem-rows : {row : ℕ} (owner : List ℕ) (m : ℕ) → Memᴰ row (rows_of owner m) → (row < length owner) × (get_or owner row 0 ≡ m)
unfolding rows_of
mem-rows {row} owner m h =
    let r = mem-keep (λ (i : ℕ). eqb (get_or owner i 0) m) (up_to (length owner)) h in
    (mem-up_to r.0, eqb-true (get_or owner row 0) m r.1)

pub rows-mem : (owner : List ℕ) (row : ℕ) → row < length owner → Memᴰ row (rows_of owner (get_or owner row 0))
unfolding rows_of
rows-mem owner row l = keep-mem (λ (i : ℕ). eqb (get_or owner i 0) (get_or owner row 0)) (up_to (length owner)) (up_to-mem l) (eq-eqb (get_or owner row 0) (get_or owner row 0) refl)

pub rows_none : (owner : List ℕ) (m : ℕ) → ((row : ℕ) → row < length owner → get_or owner row 0 ≡ m → ⊥) → rows_of owner m ≡ []
unfolding rows_of
rows_none owner m n = keep-none (λ (i : ℕ). eqb (get_or owner i 0) m) (up_to (length owner)) (λ row h. ne_eqb (get_or owner row 0) m (n row (mem-up_to h)))

pub values-row : (owner column : List ℕ) (c d : ℕ) → Memᴰ d (values_of owner column c)
    → (row : ℕ) × (row < length owner) × (get_or owner row 0 ≡ c) × (get_or column row 0 ≡ d)
unfolding values_of
values-row owner column c d h =
    let r = Memᴰ.of_map (λ (row : ℕ). get_or column row 0) (rows_of owner c) h in
    let k = mem-rows owner c r.1 in
    (r.0, k.0, k.1, r.2)

pub row-values : (owner column : List ℕ) (row : ℕ) → row < length owner → Memᴰ (get_or column row 0) (values_of owner column (get_or owner row 0))
unfolding values_of
row-values owner column row l = Memᴰ.map (λ (r : ℕ). get_or column r 0) (rows-mem owner row l)
