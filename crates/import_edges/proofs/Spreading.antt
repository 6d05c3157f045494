-- Closing a set along rows by visits: what a visit adds to marks that are closed, and what holds between two of them.
-- Assumes nothing.
use Rattle.std.specs.Prelude.{◌≡◌, ℕ, ◌+◌, ◌<◌, ◌≤◌, true, false, not, List, [], ◌∷◌, length, get_or}
use mathlib.Core.Path.{refl, sym, ap, subst, ◌∙◌}
use mathlib.Core.Logic.{⊎_elim}
use mathlib.Core.Bool.{true≢false}
use mathlib.Core.List.Memᴰ
use native.Mathlib.Omega.{arith}
use native.Mathlib.Decide.{ℕ_discrete}
use borrow.Author.Tests.{ltb-true}
use Rattle.lists.specs.Words.{is_zero, has}
use Rattle.lists.proofs.Laws.{both, mem-keep, has_in}
use Rattle.walk.specs.Walk.{everywhere}
use Rattle.walk.specs.Reach.{Reach, here, step, ReachAny, passing, through}
use Rattle.walk.specs.Close.{Within}
use Rattle.walk.proofs.Visits.{Grown, stays, fresh-zero, fresh-not}
use Rattle.walk.proofs.Orders.{visited-met, visited-followed, visited-reach}
use Rattle.tables.specs.Readings.{values_of}
use Rattle.strong_connection.specs.inner.Marking.{nothing, Marked}
use Rattle.tables.proofs.OwnerRows.{values-row, row-values}
use Rattle.strong_connection.proofs.Visiting.{marked-grown}
use Rattle.import_edges.specs.inner.Spread.{Along, Under, Spreads, Spreadable}

-- a place that is in was met, and one of a set's places that was met is in

has-met : (s : List ℕ) (x : ℕ) → has s x ≡ true → is_zero (get_or s x 1) ≡ false
has-met s x e = fresh-not s x (λ z. true≢false (sym e ∙ ap (λ (i : ℕ). not (is_zero i)) z))

met_has : (s : List ℕ) (x : ℕ) → x < length s → is_zero (get_or s x 1) ≡ false → has s x ≡ true
met_has s x l e = ⊎_elim (λ h. h) (λ h. absurd (true≢false (sym (fresh-zero s x l (out (get_or s x 0) h)) ∙ e))) (both (has s x))
  where
    out : (i : ℕ) → not (is_zero i) ≡ false → i ≡ 0
    out Prim.Native.Nat.zero h = refl
    out (Prim.Native.Nat.suc i) h = absurd (true≢false h)

-- a visit of a member of s, from marks that are closed and within what s leads to
module _ (from to s t u : List ℕ) (m : ℕ) (len : length t ≡ length s) (v : Marked (values_of from to) t m u) where
  abbrev succ : ℕ → List ℕ
  succ = values_of from to

  grown : Grown t u
  grown = marked-grown succ t m u v

  pub visit-len : length u ≡ length s
  visit-len = grown.len ∙ len

  pub visit-holds : Within t u
  unfolding Within
  visit-holds x e = met_has u x (omega (arith, grown.len, has_in t x e)) (stays grown x (has-met t x e))

  pub visit-in : m < length s → has u m ≡ true
  visit-in l = met_has u m (omega (arith, visit-len)) (visited-met succ everywhere nothing v m (Memᴰ.head refl) refl)

  pub visit-along : Along from to t → Along from to u
  unfolding Along Within
  visit-along a row l e k =
      let x = get_or from row 0 in
      let y = get_or to row 0 in
      ⊎_elim
      (λ f. met_has u y k (visited-followed succ everywhere nothing v x f (has-met u x e) y (row-values from to row l) refl))
      (λ f. visit-holds y (a row l (met_has t x (omega (arith, grown.len, has_in u x e)) f) (omega (arith, grown.len))))
      (both (is_zero (get_or t x 1)))

  -- a set that is closed along the rows has what a path leads to
  follow : (M : List ℕ) → length M ≡ length t → Along from to M → {r x : ℕ} → Reach (through succ everywhere (length t)) r x → has M r ≡ true → has M x ≡ true
  unfolding Along
  follow M n a (here q) e = subst (λ (i : ℕ). has M i ≡ true) (sym q) e
  follow M n a (step {m} {y} h p) e =
      let k = mem-keep (passing everywhere (length t)) (succ m) h in
      let q = values-row from to m y k.0 in
      let l = ltb-true y (length t) k.1 in
      follow M n a p
      (subst (λ (i : ℕ). has M i ≡ true) q.3 (a q.0 q.1 (subst (λ (i : ℕ). has M i ≡ true) (sym q.2) e) (subst (λ (i : ℕ). i < length M) (sym q.3) (omega (arith, n)))))

  pub visit-under : has s m ≡ true → Under from to s t → Under from to s u
  unfolding Under Within ReachAny
  visit-under h b M n w a x e =
      ⊎_elim
      (λ f.
      let r = visited-reach succ everywhere nothing v x f (has-met u x e) in
      let q : r.0 ≡ m = Memᴰ.eq_of_singleton (mem-keep (passing everywhere (length t)) (m ∷ []) r.1).0 in
      follow M (n ∙ sym len) a r.2 (subst (λ (i : ℕ). has M i ≡ true) (sym q) (w m h)))
      (λ f. b M n w a x (met_has t x (omega (arith, grown.len, has_in u x e)) f))
      (both (is_zero (get_or t x 1)))

-- between two visits: the members of s below i are in
module _ (from to s : List ℕ) where
  pub record Spreading (i : ℕ) (t : List ℕ) : Type 0 where
    pub len : length t ≡ length s
    pub along : Along from to t
    pub under : Under from to s t
    pub below : (j : ℕ) → j < i → has s j ≡ true → has t j ≡ true

  pub spreading-start : {n : ℕ} {t : List ℕ} → Spreadable (record { from = from; to = to; places = n }) s t → Spreading 0 t
  spreading-start g = record { len = g.len; along = g.along; under = g.under; below = λ j l. absurd (omega arith) }

  module _ (i : ℕ) (t : List ℕ) (g : Spreading i t) where
    pub spreading-pass : (has s i ≡ true → has t i ≡ true) → Spreading (i + 1) t
    spreading-pass h = record { len = g.len; along = g.along; under = g.under; below = λ j l e. go j e (ℕ_discrete j i) l }
      where
        go : (j : ℕ) → has s j ≡ true → Dec (j ≡ i) → j < i + 1 → has t j ≡ true
        go j e (yes q) l = subst (λ (x : ℕ). has t x ≡ true) (sym q) (h (subst (λ (x : ℕ). has s x ≡ true) q e))
        go j e (no q) l = g.below j (omega arith) e

    pub spreading-visit : (u : List ℕ) → has s i ≡ true → Marked (values_of from to) t i u → Spreading (i + 1) u
    unfolding Within
    spreading-visit u h v = record {
      len = visit-len from to s t u i g.len v;
      along = visit-along from to s t u i g.len v g.along;
      under = visit-under from to s t u i g.len v h g.under;
      below = λ j l e. go j e (ℕ_discrete j i) l;
    }
      where
        go : (j : ℕ) → has s j ≡ true → Dec (j ≡ i) → j < i + 1 → has u j ≡ true
        go j e (yes q) l = subst (λ (x : ℕ). has u x ≡ true) (sym q) (visit-in from to s t u i g.len v (has_in s i h))
        go j e (no q) l = visit-holds from to s t u i g.len v j (g.below j (omega arith) e)

    pub spreading-end : length s ≤ i → Spreads from to s t
    unfolding Within
    spreading-end l = record { len = g.len; holds = λ x e. g.below x (omega (arith, has_in s x e)) e; along = g.along; under = g.under }
