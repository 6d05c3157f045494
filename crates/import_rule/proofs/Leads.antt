-- "Is planned or leads to a planned module by kind 0 records", by marks: the least set that holds the planned modules and with a module every
-- one that has a kind 0 record to it.
-- Assumes nothing.
use Rattle.std.specs.Prelude.{◌≡◌, ℕ, ◌<◌, true, List, [], ◌∷◌, length}
use mathlib.Core.Path.{refl, sym, subst, ◌∙◌}
use mathlib.Core.List.Memᴰ
use mathlib.Core.List.{Memᴰ}
use borrow.Author.Tests.{ltb-true, lt-ltb}
use Rattle.lists.specs.Words.{has, marks_of}
use Rattle.lists.proofs.Laws.{mem-keep, keep-mem, any-mem, mem-any, has_in, length-marks_of, has-marks_of}
use Rattle.walk.specs.Walk.{everywhere, post_order}
use Rattle.walk.specs.Reach.{Reach, here, step, ReachAny, passing, through}
use Rattle.walk.specs.Close.{Within}
use Rattle.walk.proofs.Orders.{order-reach, reach-order}
use Rattle.tables.specs.Project.{Project}
use Rattle.tables.specs.Readings.{modules}
use Rattle.wrap_rules.specs.Rules.{imports_of, leads}

-- a module below the count with a kind 0 record to a member is a member
unfoldable pub Backward : Project → List ℕ → Type 0
Backward p L = (m y : ℕ) → m < modules p → Memᴰ y (imports_of p m) → has L y ≡ true → has L m ≡ true

module _ (p : Project) (S : List ℕ) where
  -- a path to a planned module, below the module count
  leads-path : (t : ℕ) → leads p S t ≡ true → (t < modules p) × ((x : ℕ) × Reach (through (imports_of p) everywhere (modules p)) t x × (has S x ≡ true))
  unfolding leads ReachAny
  leads-path t e =
      let a = any-mem (has S) (post_order (imports_of p) everywhere (modules p) (t ∷ [])) e in
      let r = order-reach (imports_of p) everywhere (modules p) (t ∷ []) a.0 a.1 in
      let k = mem-keep (passing everywhere (modules p)) (t ∷ []) r.1 in
      let q : r.0 ≡ t = Memᴰ.eq_of_singleton k.0 in (
        subst (λ (m : ℕ). m < modules p) q (ltb-true r.0 (modules p) k.1),
        (a.0, subst (λ (m : ℕ). Reach (through (imports_of p) everywhere (modules p)) m a.0) q r.2, a.2),
      )

  path-leads : (t x : ℕ) → t < modules p → Reach (through (imports_of p) everywhere (modules p)) t x → has S x ≡ true → leads p S t ≡ true
  unfolding leads ReachAny
  path-leads t x l r e =
      mem-any (has S) (post_order (imports_of p) everywhere (modules p) (t ∷ []))
      (reach-order (imports_of p) everywhere (modules p) (t ∷ []) x (t, keep-mem (passing everywhere (modules p)) (t ∷ []) (Memᴰ.head refl) (lt-ltb t (modules p) l), r)) e

  -- every set that holds the planned modules and is closed backward holds what leads to them
  pub leads-in : (L : List ℕ) → Within S L → Backward p L → (t : ℕ) → leads p S t ≡ true → has L t ≡ true
  unfolding Within Backward
  leads-in L w b t e = let a = leads-path t e in back a.0 a.1.1 (w a.1.0 a.1.2)
    where
      back : {m x : ℕ} → m < modules p → Reach (through (imports_of p) everywhere (modules p)) m x → has L x ≡ true → has L m ≡ true
      back l (here q) h = subst (λ (i : ℕ). has L i ≡ true) q h
      back l (step {m} {y} s r) h =
          let k = mem-keep (passing everywhere (modules p)) (imports_of p m) s in
          b m y l k.0 (back (ltb-true y (modules p) k.1) r h)

  -- and a set within every such set holds nothing else
  pub in-leads : length S ≡ modules p → (L : List ℕ) → ((M : List ℕ) → length M ≡ modules p → Within S M → Backward p M → Within L M) → (t : ℕ) → has L t ≡ true → leads p S t ≡ true
  unfolding Within Backward
  in-leads n L least t e =
      let M : List ℕ = marks_of (leads p S) (modules p) in
      let c : length M ≡ modules p = length-marks_of (leads p S) (modules p) in
      let h : has M t ≡ true = least M c (λ i q. let l : i < modules p = rw n at (has_in S i q) in has-marks_of (leads p S) (modules p) i l ∙ path-leads i i l (here refl) q) (λ m y l s q.
      let k : y < modules p = rw c at (has_in M y q) in
      let a = leads-path y (sym (has-marks_of (leads p S) (modules p) y k) ∙ q) in
      has-marks_of (leads p S) (modules p) m l ∙ path-leads m a.1.0 l (step (keep-mem (passing everywhere (modules p)) (imports_of p m) s (lt-ltb y (modules p) k)) a.1.1) a.1.2) t e
      in
      let l : t < modules p = rw c at (has_in M t h) in
      sym (has-marks_of (leads p S) (modules p) t l) ∙ h
