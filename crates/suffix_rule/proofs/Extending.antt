-- Rule (i) by orders: the suffix of one order, of several in turn, and orders that need no second look.
-- Assumes nothing.
use Rattle.std.specs.Prelude.{◌≡◌, ℕ, zero, suc, ◌+◌, ◌-◌, ◌<◌, ◌≤◌, Bool, true, false, not, ◌&&◌, ◌||◌, List, [], ◌∷◌, ◌++◌, map, length, get_or, take, drop}
use mathlib.Core.Path.{refl, sym, ap, subst, ◌∙◌, fun_ext}
use mathlib.Core.Logic.{inl, inr, ⊎_elim}
use mathlib.Core.Bool.{false≢true}
use mathlib.Core.List.{map-append, Memᴰ}
use native.Mathlib.Numerals.{add-one}
use native.Mathlib.Omega.{arith}
use native.Mathlib.Decide.{dec_lt}
use lib.ListN.{length-drop, length-set}
use lib.Seq.{get_or-drop, drop-cons}
use Rattle.lists.specs.Words.{is_zero, keep, any, elem, has, ones}
use Rattle.lists.proofs.Laws.{both, and_parts, and-join, any_append, mem-keep, keep-mem, elem_mem, mem-elem, any-mem, mem-any, take_more, ones-zeros, get_d-in}
use Rattle.lists.proofs.Members.{mem-at, get_d-mem}
use Rattle.lists.proofs.Tests.{or-false}
use Rattle.walk.specs.Close.{Within, Closed, Monotone, Bits}
use Rattle.walk.proofs.Visits.{none-fresh}
use Rattle.tables.specs.Accepted.{Below}
use Rattle.tables.specs.Project.{Project}
use Rattle.expected_visit.specs.OfProject.{expected_of}
use Rattle.wrap_rules.specs.Rules.{from_first, suffix_asks}
use Rattle.wrap_rules.specs.inner.Passes.{Passed}
use Rattle.marks.specs.Steps.{looked, Owners, Added}
use Rattle.marks.proofs.Steps.{set-has, looked-has}
use Rattle.suffix_rule.specs.inner.Suffix.{FirstIn, InSuffix, Joined, WholeSuffix, AllPlanned, Extended, sensitive_orders, Settled, Candidates}
use Rattle.wrap_rules.proofs.Monotone.{suffix-more}
use Rattle.wrap_rules.proofs.Passes.{passed-added, passed-closed, join, pass-then}
use Rattle.wrap_rules.proofs.Rows.{from_first-places, places-from_first}

-- the first planned member stands no later than the first eligible one
pub whole-suffix : (order sensitive eligible S : List ℕ) (first from : ℕ) → FirstIn sensitive eligible order first → FirstIn sensitive S order from → from ≤ first → WholeSuffix order sensitive eligible S
unfolding WholeSuffix
whole-suffix order sensitive eligible S first from f g e k l h q = go (dec_lt k first)
  where
    go : Dec (k < first) → InSuffix order sensitive S (get_or order k 0)
    go (yes p) = absurd (f.none k p h q)
    go (no p) =
        let b = g.found (omega arith) in
        record { sensitives = h; from = from; at = k; after = omega arith; there = l; first = b.0; planned = b.1; named = refl }

-- marking what stands from the first planned member on
pub suffix-marked : (order sensitive S marks₀ marks : List ℕ) (from : ℕ) → FirstIn sensitive S order from
    → Owners (drop from order) (looked 0 sensitive (drop from order)) (length (drop from order)) marks₀ marks → Joined (InSuffix order sensitive S) marks₀ marks
suffix-marked order sensitive S marks₀ marks from f o = record { len = o.len; old = o.old; all = there; only = λ m e. ⊎_elim inl (λ q. inr (back m q.0 q.1 q.2 q.3)) (o.only m e) }
  where
    back : (m row : ℕ) → row < length (drop from order) → has (looked 0 sensitive (drop from order)) row ≡ true → get_or (drop from order) row 0 ≡ m → InSuffix order sensitive S m
    back m row h e q =
        let l : row + from < length order = omega (arith, h, length-drop from order) in
        let b = f.found (omega arith) in
        record {
          sensitives = subst (λ (x : ℕ). has sensitive x ≡ true) q (sym (looked-has sensitive (drop from order) row h) ∙ e);
          from = from;
          at = from + row;
          after = omega arith;
          there = omega arith;
          first = b.0;
          planned = b.1;
          named = sym (get_or-drop from order row 0) ∙ q;
        }

    there : (m : ℕ) → m < length marks₀ → InSuffix order sensitive S m → has marks m ≡ true
    there m l i = go (dec_lt i.from from)
      where
        go : Dec (i.from < from) → has marks m ≡ true
        go (yes q) = absurd (f.none i.from q i.first i.planned)
        go (no q) =
            let row = i.at - from in
            let back' : from + row ≡ i.at = omega (arith, i.after) in
            let named : get_or (drop from order) row 0 ≡ m = get_or-drop from order row 0 ∙ ap (λ (x : ℕ). get_or order x 0) back' ∙ i.named in
            let h : row < length (drop from order) = omega (arith, length-drop from order, i.there, i.after) in
            subst (λ (x : ℕ). has marks x ≡ true) named
            (o.new row h (looked-has sensitive (drop from order) row h ∙ subst (λ (x : ℕ). has sensitive x ≡ true) (sym named) i.sensitives) (subst (λ (x : ℕ). x < length marks₀) (sym named) l))

-- the first that passes of those kept
from_first-keep : (f g : ℕ → Bool) (xs : List ℕ) → from_first f (keep g xs) ≡ keep g (from_first (λ (x : ℕ). g x && f x) xs)
from_first-keep f g [] = refl
from_first-keep f g (x ∷ xs) =
    ⊎_elim
    (λ e. ⊎_elim (λ q. rw e (rw q (rw e refl))) (λ q. rw e (rw q (from_first-keep f g xs))) (both (f x)))
    (λ e. rw e (from_first-keep f g xs))
    (both (g x))

module _ (sensitive eligible order S : List ℕ) where
  abbrev pub one : List (List ℕ)
  one = keep (has sensitive) order ∷ []

  -- rule (i) over one order, by its places
  pub suffix-in : (m : ℕ) → suffix_asks (has eligible) one S m ≡ true → InSuffix order sensitive S m × (has eligible m ≡ true)
  unfolding suffix_asks
  suffix-in m e =
      let a = and_parts (has eligible m) _ e in
      let r = any-mem (λ (xs : List ℕ). elem m (from_first (has S) xs)) one a.1 in
      let q : r.0 ≡ keep (has sensitive) order = mathlib.Core.List.Memᴰ.eq_of_singleton r.1 in
      let h : Memᴰ m (keep (has sensitive) (from_first (λ (x : ℕ). has sensitive x && has S x) order)) =
      subst (Memᴰ m) (ap (from_first (has S)) q ∙ from_first-keep (has S) (has sensitive) order) (elem_mem m (from_first (has S) r.0) r.2)
      in
      let k = mem-keep (has sensitive) (from_first (λ (x : ℕ). has sensitive x && has S x) order) h in
      let p = from_first-places (λ (x : ℕ). has sensitive x && has S x) order k.0 in
      let b = and_parts (has sensitive (get_or order p.0 0)) _ p.4 in
      (record { sensitives = k.1; from = p.0; at = p.1; after = p.2; there = p.3; first = b.0; planned = b.1; named = p.5 }, a.0)

  pub in-suffix : (m : ℕ) → InSuffix order sensitive S m × (has eligible m ≡ true) → suffix_asks (has eligible) one S m ≡ true
  unfolding suffix_asks
  in-suffix m (i, g) =
      let f : ℕ → Bool = λ (x : ℕ). has sensitive x && has S x in
      let h : Memᴰ m (from_first f order) =
      subst (λ (x : ℕ). Memᴰ x (from_first f order)) i.named
      (places-from_first f order i.from i.at i.after i.there (and-join (has sensitive (get_or order i.from 0)) _ i.first i.planned))
      in
      and-join (has eligible m) _ g
      (mem-any (λ (xs : List ℕ). elem m (from_first (has S) xs)) one (mathlib.Core.List.Memᴰ.head refl)
      (mem-elem m (from_first (has S) (keep (has sensitive) order)) (subst (Memᴰ m) (sym (from_first-keep (has S) (has sensitive) order)) (keep-mem (has sensitive) (from_first f order) h i.sensitives))))

-- rule (i) asks for no less where more is in
pub suffix-monotone : (eligible : ℕ → Bool) (orders : List (List ℕ)) → Monotone (suffix_asks eligible orders)
unfolding Monotone Within
suffix-monotone eligible orders s t n w m = suffix-more s t w eligible orders m

module _ (sensitive eligible order : List ℕ) {s : List ℕ} (b : Bits s) where
  -- the suffix of an order is planned
  pub suffix-passed : {t : List ℕ} {changed : Bool} → Added (λ (m : ℕ). InSuffix order sensitive s m × (has eligible m ≡ true)) s t changed
      → Passed (suffix_asks (has eligible) (keep (has sensitive) order ∷ [])) s t changed
  suffix-passed a =
      passed-added (suffix_asks (has eligible) (keep (has sensitive) order ∷ [])) _ (suffix-monotone (has eligible) (keep (has sensitive) order ∷ [])) b
      (in-suffix sensitive eligible order s) (λ m l. suffix-in sensitive eligible order s m) a

  -- all is planned already
  pub planned-passed : AllPlanned order sensitive eligible s → Passed (suffix_asks (has eligible) (keep (has sensitive) order ∷ [])) s s false
  unfolding AllPlanned Closed
  planned-passed h =
      passed-closed (suffix_asks (has eligible) (keep (has sensitive) order ∷ [])) s b
      (λ m l e.
      let i = suffix-in sensitive eligible order s m e in
      h m (subst (λ (x : ℕ). Memᴰ x order) i.0.named (get_d-mem order i.0.at i.0.there)) i.0.sensitives i.1)

-- where no eligible member stands before the suffix, all is planned then
pub whole-planned : (order sensitive eligible : List ℕ) {s t : List ℕ} {changed : Bool} → Below (length s) order → WholeSuffix order sensitive eligible s
    → Added (λ (m : ℕ). InSuffix order sensitive s m × (has eligible m ≡ true)) s t changed → AllPlanned order sensitive eligible t
unfolding WholeSuffix AllPlanned
whole-planned order sensitive eligible {s} inside w a m h q g =
    let r = mem-at order h in
    let e : get_or order r.0 0 ≡ m = r.2 in
    a.all m (subst (λ (x : ℕ). x < length s) e (inside r.0 r.1))
    (subst (InSuffix order sensitive s) e (w r.0 r.1 (subst (λ (x : ℕ). has sensitive x ≡ true) (sym e) q) (subst (λ (x : ℕ). has eligible x ≡ true) (sym e) g)), g)

-- what is planned stays so
pub planned-more : (order sensitive eligible s t : List ℕ) → Within s t → AllPlanned order sensitive eligible s → AllPlanned order sensitive eligible t
unfolding Within AllPlanned
planned-more order sensitive eligible s t w h m l q g = w m (h m l q g)

-- several orders, and then one more
module _ (eligible : ℕ → Bool) (orders : List (List ℕ)) (order : List ℕ) where
  both-orders : join (suffix_asks eligible orders) (suffix_asks eligible (order ∷ [])) ≡ suffix_asks eligible (orders ++ (order ∷ []))
  unfolding suffix_asks
  both-orders =
      fun_ext (λ S. fun_ext (λ m.
      let f : List ℕ → Bool = λ (xs : List ℕ). elem m (from_first (has S) xs) in
      spread (eligible m) (any f orders) (any f (order ∷ [])) ∙ ap (λ (b : Bool). eligible m && b) (sym (any_append f orders (order ∷ [])))))
    where
      spread : (a b c : Bool) → ((a && b) || (a && c)) ≡ (a && (b || c))
      spread true b c = refl
      spread false b c = refl

  pub orders-then : {s t u : List ℕ} {x y : Bool} → Passed (suffix_asks eligible orders) s t x → Passed (suffix_asks eligible (order ∷ [])) t u y
      → Passed (suffix_asks eligible (orders ++ (order ∷ []))) s u (x || y)
  orders-then {s} {t} {u} {x} {y} p q =
      subst (λ (rule : List ℕ → ℕ → Bool). Passed rule s u (x || y)) both-orders (pass-then (suffix_asks eligible orders) (suffix_asks eligible (order ∷ [])) p q)

-- of no order nothing is asked
pub no-orders : (eligible : ℕ → Bool) (s : List ℕ) → Bits s → Passed (suffix_asks eligible []) s s false
unfolding Closed suffix_asks
no-orders eligible s b = passed-closed (suffix_asks eligible []) s b (λ m l e. absurd (false≢true (and_parts (eligible m) false e).1))

-- nothing is asked of any order
module _ (p : Project) (roots sensitive eligible S : List ℕ) where
  abbrev NoneAsked : Type 0
  NoneAsked = Closed (suffix_asks (has eligible) (sensitive_orders p sensitive roots)) S

  -- where what is sensitive and eligible in the orders is planned
  orders-closed : ((root m : ℕ) → m < length S → Memᴰ root roots → Memᴰ m (expected_of p root) → has sensitive m ≡ true → has eligible m ≡ true → has S m ≡ true) → NoneAsked
  unfolding Closed suffix_asks sensitive_orders
  orders-closed planned m l e =
      let order : ℕ → List ℕ = λ (root : ℕ). keep (has sensitive) (expected_of p root) in
      let a = and_parts (has eligible m) _ e in
      let r = any-mem (λ (xs : List ℕ). elem m (from_first (has S) xs)) (map order roots) a.1 in
      let q = mathlib.Core.List.Memᴰ.of_map order roots r.1 in
      let i = from_first-places (has S) r.0 (elem_mem m (from_first (has S) r.0) r.2) in
      let h : Memᴰ m (order q.0) = subst (Memᴰ m) (sym q.2) (subst (λ (x : ℕ). Memᴰ x r.0) i.5 (get_d-mem r.0 i.1 i.3)) in
      let k = mem-keep (has sensitive) (expected_of p q.0) h in
      planned q.0 m l q.1 k.0 k.1 a.0

  -- every sensitive candidate is planned
  pub none_open : (candidates : List ℕ) → Candidates p roots eligible candidates
      → ((m : ℕ) → m < length S → has sensitive m ≡ true → has candidates m ≡ true → has S m ≡ true) → NoneAsked
  unfolding Candidates
  none_open candidates inside shut = orders-closed (λ root m l h i q g. shut m l q (inside root m h i g))

  -- every root is settled
  pub all_settled : (settled : List ℕ) → length settled ≡ length roots → Settled p roots sensitive eligible settled S → ones settled ≡ length settled → NoneAsked
  unfolding Settled AllPlanned
  all_settled settled n s full =
      orders-closed
      (λ root m l h i q g.
      let r = mem-at roots h in
      let k : r.0 < length settled = omega (arith, r.1) in
      let marked : has settled r.0 ≡ true = ap not (ap is_zero (get_d-in settled r.0 0 1 k) ∙ none-fresh settled r.0 (omega (arith, ones-zeros settled))) in
      s r.0 r.1 marked m (subst (λ (x : ℕ). Memᴰ m (expected_of p x)) (sym r.2) i) q g)

-- the values of what is left of a list are below what the list's are
pub below-drop : (n k : ℕ) (xs : List ℕ) → Below n xs → Below n (drop k xs)
below-drop n k xs b i l = rw (get_or-drop k xs i 0) (b (k + i) (omega (arith, length-drop k xs)))

-- the marks that are left, from place i on
pub ones_in : (s : List ℕ) (i : ℕ) → i < length s → (get_or s i 0 ≡ 0 → ⊥) → ones (drop i s) ≡ suc (ones (drop (i + 1) s))
ones_in s i l n = ap ones (drop-cons s i 0 l) ∙ one (get_or s i 0) n ∙ ap (λ (j : ℕ). suc (ones (drop j s))) (sym (add-one i))
  where
    one : (x : ℕ) → (x ≡ 0 → ⊥) → ones (x ∷ drop (suc i) s) ≡ suc (ones (drop (suc i) s))
    one zero e = absurd (e refl)
    one (suc x) e = refl

pub ones-out : (s : List ℕ) (i : ℕ) → i < length s → get_or s i 0 ≡ 0 → ones (drop i s) ≡ ones (drop (i + 1) s)
ones-out s i l e =
    ap ones (drop-cons s i 0 l) ∙ ap (λ (x : ℕ). ones (x ∷ drop (suc i) s)) e ∙ ap (λ (j : ℕ). ones (drop j s)) (sym (add-one i))

-- a pass over the roots: those before k are done
module _ (p : Project) (roots sensitive eligible plan₀ : List ℕ) where
  abbrev order : ℕ → List ℕ
  order root = expected_of p root

  orders-more : (k : ℕ) → k < length roots
      → sensitive_orders p sensitive (take k roots) ++ (keep (has sensitive) (order (get_or roots k 0)) ∷ [])
      ≡ sensitive_orders p sensitive (take (k + 1) roots)
  unfolding sensitive_orders
  orders-more k l =
      let f : ℕ → List ℕ = λ (root : ℕ). keep (has sensitive) (order root) in
      sym (map-append f (take k roots) (get_or roots k 0 ∷ [])) ∙ ap (map f) (take_more roots k l)

  pub record Walked (k : ℕ) (settled plan : List ℕ) (changed : Bool) : Type 0 where
    pub len : length settled ≡ length roots
    pub settles : Settled p roots sensitive eligible settled plan
    pub passed : Passed (suffix_asks (has eligible) (sensitive_orders p sensitive (take k roots))) plan₀ plan changed

  pub walked_start : (settled : List ℕ) → length settled ≡ length roots → Settled p roots sensitive eligible settled plan₀ → Bits plan₀
      → Walked 0 settled plan₀ false
  unfolding sensitive_orders
  walked_start settled n s b = record { len = n; settles = s; passed = no-orders (has eligible) plan₀ b }

  module _ (k : ℕ) (settled plan : List ℕ) (changed : Bool) (w : Walked k settled plan changed) (l : k < length roots) where
    -- one more pass, of the order of root k
    more : {plan' : List ℕ} {r : Bool} → Passed (suffix_asks (has eligible) (keep (has sensitive) (order (get_or roots k 0)) ∷ [])) plan plan' r
        → Passed (suffix_asks (has eligible) (sensitive_orders p sensitive (take (k + 1) roots))) plan₀ plan' (changed || r)
    more {plan'} {r} h =
        subst (λ (orders : List (List ℕ)). Passed (suffix_asks (has eligible) orders) plan₀ plan' (changed || r)) (orders-more k l)
        (orders-then (has eligible) (sensitive_orders p sensitive (take k roots)) (keep (has sensitive) (order (get_or roots k 0))) w.passed h)

    pub walked_skip : has settled k ≡ true → Walked (k + 1) settled plan changed
    unfolding Settled
    walked_skip h = record {
      len = w.len;
      settles = w.settles;
      passed = subst (Passed (suffix_asks (has eligible) (sensitive_orders p sensitive (take (k + 1) roots))) plan₀ plan) (or-false changed)
          (more (planned-passed sensitive eligible (order (get_or roots k 0)) w.passed.bits (w.settles k l h)));
    }

    pub walked_step : {settled' plan' : List ℕ} {r : Bool} → Extended (order (get_or roots k 0)) sensitive eligible k settled settled' plan plan' r → Walked (k + 1) settled' plan' (changed || r)
    unfolding Settled
    walked_step {settled'} {plan'} x = record {
      len = ⊎_elim (λ e. ap length e ∙ w.len) (λ e. ap length e.0 ∙ length-set settled k 1 ∙ w.len) x.settles;
      settles = λ j i h. ⊎_elim (λ e. stays j i (subst (λ (s : List ℕ). has s j ≡ true) e h)) (λ e. ⊎_elim (λ q. subst (λ (m : ℕ). AllPlanned (order (get_or roots m 0)) sensitive eligible plan') (sym q) e.1) (stays j i) (set-has settled k j (subst (λ (s : List ℕ). has s j ≡ true) e.0 h))) x.settles;
      passed = more (suffix-passed sensitive eligible (order (get_or roots k 0)) w.passed.bits x.added);
    }
      where
        stays : (j : ℕ) → j < length roots → has settled j ≡ true → AllPlanned (order (get_or roots j 0)) sensitive eligible plan'
        stays j i h = planned-more (order (get_or roots j 0)) sensitive eligible plan plan' x.added.old (w.settles j i h)
