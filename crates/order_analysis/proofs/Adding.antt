-- A root is an analysed entry, and a loop over roots adds what each puts.
-- Assumes nothing.
use Rattle.std.specs.Prelude.{◌≡◌, ℕ, ◌+◌, ◌<◌, ◌≤◌, Bool, true, ◌||◌, List, [], ◌∷◌, length, get_or, take}
use mathlib.Core.Path.{refl, sym, ap, subst, ◌∙◌}
use mathlib.Core.List.Memᴰ
use mathlib.Core.List.{Memᴰ}
use lib.Seq.{take_all}
use Rattle.lists.specs.Words.{up_to, keep, any}
use Rattle.lists.proofs.Laws.{any_append, take_more, mem-keep, mem-up_to, mem-any}
use Rattle.lists.proofs.Members.{get_d-mem}
use Rattle.lists.proofs.Tests.{cond-id}
use Rattle.tables.specs.Project.{Project}
use Rattle.tables.specs.Readings.{rows_of, analysed, analysed_row, is_analysed}
use Rattle.tables.proofs.OwnerRows.{rows-mem}
use Rattle.risk_of_orders.specs.inner.Steps.{join}
use Rattle.risk_of_orders.proofs.Joins.{join-none, join-cong, join-join}
use Rattle.wrap_rules.specs.Plan.{roots}

-- a root is an analysed entry
root-analysed : (p : Project) (r : ℕ) → Memᴰ r (roots p) → is_analysed p r ≡ true
unfolding analysed is_analysed
root-analysed p r h =
    let q = Memᴰ.of_map (λ (row : ℕ). get_or p.entry row 0) (keep (analysed_row p) (up_to (length p.entry))) h in
    let k = mem-keep (analysed_row p) (up_to (length p.entry)) q.1 in
    subst (λ (x : ℕ). any (analysed_row p) (rows_of p.entry x) ≡ true) q.2 (mem-any (analysed_row p) (rows_of p.entry (get_or p.entry q.0 0)) (rows-mem p.entry q.0 (mem-up_to k.0)) k.1)

pub row-analysed : (p : Project) (root_list : List ℕ) (k : ℕ) → root_list ≡ roots p → k < length root_list → is_analysed p (get_or root_list k 0) ≡ true
row-analysed p root_list k e l = root-analysed p (get_or root_list k 0) (subst (Memᴰ (get_or root_list k 0)) e (get_d-mem root_list k l))

-- the first k roots have put what they put

module _ (put : ℕ → ℕ → Bool) (root_list : List ℕ) where
  abbrev pub of_first : ℕ → ℕ → Bool
  of_first k m = any (λ (root : ℕ). put root m) (take k root_list)

  one_more : (k m : ℕ) → k < length root_list → of_first (k + 1) m ≡ (of_first k m || put (get_or root_list k 0) m)
  one_more k m l =
      ap (any (λ (root : ℕ). put root m)) (sym (take_more root_list k l))
      ∙ any_append (λ (root : ℕ). put root m) (take k root_list) (get_or root_list k 0 ∷ [])
      ∙ ap (λ (b : Bool). of_first k m || b) (cond-id (put (get_or root_list k 0) m))

  pub roots-start : (old : List ℕ) → old ≡ join old (of_first 0)
  roots-start old = join-none old (of_first 0) (λ i l. refl)

  pub roots-put : (old : List ℕ) {marks more : List ℕ} (k : ℕ) → marks ≡ join old (of_first k) → k < length root_list → more ≡ join marks (put (get_or root_list k 0)) → more ≡ join old (of_first (k + 1))
  roots-put old k e l q =
      q
      ∙ ap (λ (s : List ℕ). join s (put (get_or root_list k 0))) e
      ∙ join-join old (of_first k) (put (get_or root_list k 0))
      ∙ join-cong old (λ (m : ℕ). of_first k m || put (get_or root_list k 0) m) (of_first (k + 1)) (λ m b. sym (one_more k m l))

  pub roots-end : (old : List ℕ) {marks : List ℕ} (k : ℕ) → marks ≡ join old (of_first k) → length root_list ≤ k → marks ≡ join old (λ (m : ℕ). any (λ (root : ℕ). put root m) root_list)
  roots-end old k e l = e ∙ ap (λ (xs : List ℕ). join old (λ (m : ℕ). any (λ (root : ℕ). put root m) xs)) (take_all k root_list l)
