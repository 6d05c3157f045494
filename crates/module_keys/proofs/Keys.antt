-- The groups case by case, and the keys that slices hold.
-- Assumes nothing.
use Rattle.std.specs.Prelude.{◌≡◌, ℕ, ◌<◌, ◌≤◌, true, false, cond, not, eqb, List, [], ◌∷◌, length, get_or}
use mathlib.Core.Path.{refl, sym, ap, ◌∙◌}
use mathlib.Core.Logic.{⊎_elim}
use mathlib.Core.List.Memᴰ
use mathlib.Core.List.{Memᴰ}
use native.Mathlib.Omega.{arith}
use native.Mathlib.Decide.{dec_lt}
use borrow.Author.Tests.{eqb-false, eq-eqb, ne_eqb}
use Rattle.lists.specs.Words.{is_zero, up_to}
use Rattle.lists.proofs.Laws.{both, keep-mem, up_to-mem}
use Rattle.tables.specs.Lookups.{Rising, FirstRow}
use Rattle.tables.specs.Readings.{rows_of}
use Rattle.tables.proofs.OwnerRows.{rows_none}
use Rattle.names.specs.Names.{turned, name_of}
use Rattle.name_order.specs.Runtime.{is_runtime}
use Rattle.name_order.specs.inner.Lines.{line_at, Starts}
use Rattle.merge_sort.specs.inner.Held.{held_key}
use Rattle.module_keys.specs.Keys.{recordless, group_by, key_by, key_of}
use Rattle.module_keys.specs.inner.Filling.{Filled, place_by}

-- the first row that is at least m tells whether m has a record

module _ (record_module : List ℕ) (m row : ℕ) (first : FirstRow record_module m row) where
  pub record_none : length record_module ≤ row → true ≡ recordless record_module m
  record_none l = sym (ap (λ (rows : List ℕ). is_zero (length rows)) (rows_none record_module m (λ i h e. let b = first.below i (omega arith) in omega arith)))

  pub record_at : Rising record_module → row < length record_module → not (eqb (get_or record_module row 0) m) ≡ recordless record_module m
  unfolding rows_of Rising
  record_at rising l = ⊎_elim (λ e. there e) (λ e. none e) (both (eqb (get_or record_module row 0) m))
    where
      there : eqb (get_or record_module row 0) m ≡ true → not (eqb (get_or record_module row 0) m) ≡ recordless record_module m
      there e = ap not e ∙ sym (some (keep-mem (λ (i : ℕ). eqb (get_or record_module i 0) m) (up_to (length record_module)) (up_to-mem l) e))
        where
          some : {rows : List ℕ} → Memᴰ row rows → is_zero (length rows) ≡ false
          some {rows = []} h = absurd (Memᴰ.not-nil h)
          some {rows = x ∷ xs} h = refl

      none : eqb (get_or record_module row 0) m ≡ false → not (eqb (get_or record_module row 0) m) ≡ recordless record_module m
      none e =
          ap not e
          ∙ sym (ap (λ (rows : List ℕ). is_zero (length rows)) (rows_none record_module m (λ i h q. apart i h q (dec_lt i row))))
        where
          apart : (i : ℕ) → i < length record_module → get_or record_module i 0 ≡ m → Dec (i < row) → ⊥
          apart i h q (yes k) = let b = first.below i k in omega arith
          apart i h q (no k) = eqb-false (get_or record_module row 0) m e (let b = rising row i (omega arith) h in let c = first.above row (omega arith) l in omega arith)

-- the groups of a normal module that isn't rolldown's own

module _ (name normal record_module sensitive : List ℕ) (m : ℕ) (r : is_runtime name ≡ false) (n : get_or normal m 0 ≡ 1) where
  -- a sensitive one is among the others
  pub group-sensitive : (get_or sensitive m 0 ≡ 0 → ⊥) → 2 ≡ group_by name normal record_module sensitive m
  unfolding group_by
  group-sensitive s = rw (r, eq-eqb (get_or normal m 0) 1 n, ne_eqb (get_or sensitive m 0) 0 s)

  -- so is one that has a record
  pub group-record : get_or sensitive m 0 ≡ 0 → recordless record_module m ≡ false → 2 ≡ group_by name normal record_module sensitive m
  unfolding group_by
  group-record s h = rw (r, eq-eqb (get_or normal m 0) 1 n, eq-eqb (get_or sensitive m 0) 0 s, h)

  -- one without both is a leaf
  pub group-leaf : get_or sensitive m 0 ≡ 0 → recordless record_module m ≡ true → 1 ≡ group_by name normal record_module sensitive m
  unfolding group_by
  group-leaf s h = rw (r, eq-eqb (get_or normal m 0) 1 n, eq-eqb (get_or sensitive m 0) 0 s, h)

-- the keys that the slices hold

key-is : (names : List ℕ) (group at place number : ℕ) → place ≡ cond (eqb group 1) at number
    → (group ∷ cond (eqb group 1) (turned (line_at names place)) (place ∷ [])) ≡ key_by group (turned (line_at names at)) number
key-is names group at place number e = rw e (⊎_elim (λ k. rw k) (λ k. rw k) (both (eqb group 1)))

module _ (names normal record_module sensitive numbers starts groups places : List ℕ) where
  pub keys_held : Starts names starts → length starts ≡ length normal → length groups ≡ length normal → length places ≡ length normal
      → Filled (λ (m : ℕ). group_by (turned (line_at names (get_or starts m 0))) normal record_module sensitive m) groups
      → Filled (place_by groups numbers starts) places
      → (m : ℕ) → m < length normal → held_key groups places names m ≡ key_of names normal record_module sensitive numbers m
  unfolding held_key key_of name_of
  keys_held at a b c g p m l =
      key-is names (get_or groups m 0) (get_or starts m 0) (get_or places m 0) (get_or numbers m 0) (p m (omega arith))
      ∙ ap (λ (k : ℕ). key_by k (turned (line_at names (get_or starts m 0))) (get_or numbers m 0)) (g m (omega arith))
      ∙ ap (λ (line : List ℕ). key_by (group_by (turned line) normal record_module sensitive m) (turned line) (get_or numbers m 0)) (at m (omega arith))
