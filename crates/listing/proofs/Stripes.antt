-- Columns copied one after the other.
-- Assumes nothing.
use Rattle.std.specs.Prelude.{◌≡◌, ℕ, zero, suc, ◌+◌, ◌-◌, ◌*◌, ◌<◌, ◌≤◌, List, [], ◌∷◌, ◌++◌, length, get_or, set}
use native.Mathlib.Omega.{arith}
use native.Mathlib.Nat.{suc-mul, zero-mul, add-zero, mul-le-mul_right, mul_comm}
use native.Mathlib.Numerals.{add-one}
use mathlib.Core.Path.{refl, sym, ap, ap₂, ◌∙◌}
use mathlib.Core.List.{flatten}
use lib.Seq.{sets}
use Rattle.lists.specs.Words.{count_from, up_to}
use Rattle.lists.proofs.Laws.{count-step, count-end}
use Rattle.form.proofs.Runs.{sets-append, store-more, sets-size}
use Rattle.listing.specs.inner.Columns.{stripe, stripes}
use Rattle.listing.specs.Reading.{tails}

pub stripe-length : (w p n : ℕ) (vs : List ℕ) → length (stripe w p n vs) ≡ n
unfolding stripe
stripe-length w p zero vs = refl
stripe-length w p (suc n) vs = ap suc (stripe-length w (p + w) n vs)

stripe-snoc : (w p n : ℕ) (vs : List ℕ) → stripe w p (suc n) vs ≡ stripe w p n vs ++ (get_or vs (p + n * w) 0 ∷ [])
unfolding stripe
stripe-snoc w p zero vs = ap (λ (k : ℕ). get_or vs k 0 ∷ []) (sym (add-zero p) ∙ ap (λ (k : ℕ). p + k) (sym (zero-mul w)))
stripe-snoc w p (suc n) vs =
    ap (λ (x : List ℕ). get_or vs p 0 ∷ x)
    (stripe-snoc w (p + w) n vs
    ∙ ap (λ (k : ℕ). stripe w (p + w) n vs ++ (get_or vs k 0 ∷ [])) {x = p + w + n * w} {y = p + suc n * w} (omega (arith, suc-mul n w)))

-- a column, one value more
pub stripe-more : (d : List ℕ) (to w p n : ℕ) (vs d' : List ℕ) (i : ℕ) → i ≡ p + n * w → d' ≡ sets d to (stripe w p n vs)
    → set d' (to + n) (get_or vs i 0) ≡ sets d to (stripe w p (n + 1) vs)
stripe-more d to w p n vs d' i q e =
    ap (λ (k : ℕ). set d' (to + n) (get_or vs k 0)) q
    ∙ store-more d to (stripe w p n vs) d' n (get_or vs (p + n * w) 0) e (sym (stripe-length w p n vs))
    ∙ ap (sets d to) (sym (stripe-snoc w p n vs) ∙ ap (λ (k : ℕ). stripe w p k vs) (sym (add-one n)))

pub stripe-none : (d : List ℕ) (to w p : ℕ) (vs : List ℕ) → d ≡ sets d to (stripe w p 0 vs)
unfolding stripe
stripe-none d to w p vs = refl

-- a value of one of the w columns of n rows stands before their end
pub stripe-inside : (first w n k r limit : ℕ) → k < w → r < n → first + n * w ≤ limit → first + k + r * w < limit
stripe-inside first w n k r limit hk hr h =
    let m : suc r * w ≤ n * w = mul-le-mul_right w hr in
    omega (arith, suc-mul r w)

-- k of the w columns of a list of n rows have been copied: what is left to do gives the whole
pub record Spreading (rows values₀ bounds₀ : List ℕ) (first w n to j : ℕ) (values bounds : List ℕ) (k at : ℕ) : Type 0 where
  pub below : k ≤ w
  pub place : at ≡ to + k * n
  pub put : sets values at (flatten (stripes w first n rows (count_from k (w - k)))) ≡ sets values₀ to (flatten (stripes w first n rows (up_to w)))
  pub noted : sets bounds (j + k + 1) (tails at (stripes w first n rows (count_from k (w - k)))) ≡ sets bounds₀ (j + 1) (tails to (stripes w first n rows (up_to w)))

module _ (rows values₀ bounds₀ : List ℕ) (first w n to j : ℕ) where
  pub spreading : Spreading rows values₀ bounds₀ first w n to j values₀ bounds₀ 0 to
  spreading =
      let e : count_from 0 (w - 0) ≡ up_to w = ap (count_from 0) {x = w - 0} {y = w} (omega arith) in
      record {
        below = omega arith;
        place = omega (arith, zero-mul n);
        put = ap (λ (ks : List ℕ). sets values₀ to (flatten (stripes w first n rows ks))) e;
        noted = ap₂ (λ (i : ℕ) (ks : List ℕ). sets bounds₀ i (tails to (stripes w first n rows ks))) {x = j + 0 + 1} {y = j + 1} (omega arith) e;
      }

module _ {rows values₀ bounds₀ : List ℕ} {first w n to j : ℕ} {values bounds : List ℕ} {k at : ℕ} (g : Spreading rows values₀ bounds₀ first w n to j values bounds k at) where
  pub spread-sizes : (length values ≡ length values₀) × (length bounds ≡ length bounds₀)
  spread-sizes =
      let all : List (List ℕ) = stripes w first n rows (up_to w) in
      let left : List (List ℕ) = stripes w first n rows (count_from k (w - k)) in (
        sets-size values values₀ at to (flatten left) (flatten all) g.put,
        sets-size bounds bounds₀ (j + k + 1) (j + 1) (tails at left) (tails to all) g.noted,
      )

  -- the next column has room
  pub spread-room : k < w → to + n * w ≤ 32768 → at + n ≤ 32768
  spread-room h r =
      let m : suc k * n ≤ w * n = mul-le-mul_right n h in
      omega (arith, suc-mul k n, mul_comm n w, g.place)

  pub spread-more : (values' : List ℕ) → k < w → values' ≡ sets values at (stripe w (first + k) n rows)
      → Spreading rows values₀ bounds₀ first w n to j values' (set bounds (j + k + 1) (at + n)) (k + 1) (at + n)
  unfolding stripes flatten tails
  spread-more values' h e =
      let s : List ℕ = stripe w (first + k) n rows in
      let ls : List (List ℕ) = stripes w first n rows (count_from (k + 1) (w - (k + 1))) in
      let l : length s ≡ n = stripe-length w (first + k) n rows in
      let q : stripes w first n rows (count_from k (w - k)) ≡ s ∷ ls = ap (stripes w first n rows) (count-step k w h) in
      record {
        below = omega arith;
        place = omega (arith, g.place, ap (λ (i : ℕ). i * n) (add-one k) ∙ suc-mul k n);
        put =
            ap₂ (λ (x : List ℕ) (i : ℕ). sets x i (flatten ls)) e (ap (λ (i : ℕ). at + i) (sym l))
            ∙ sets-append values at s (flatten ls)
            ∙ ap (λ (cs : List (List ℕ)). sets values at (flatten cs)) (sym q)
            ∙ g.put;
        noted =
            ap (λ (m : ℕ). sets (set bounds (j + k + 1) (at + n)) m (tails (at + n) ls)) {x = j + (k + 1) + 1} {y = suc (j + k + 1)} (omega arith)
            ∙ ap (λ (i : ℕ). sets (set bounds (j + k + 1) (at + i)) (suc (j + k + 1)) (tails (at + i) ls)) (sym l)
            ∙ ap (λ (cs : List (List ℕ)). sets bounds (j + k + 1) (tails at cs)) (sym q)
            ∙ g.noted;
      }

  pub spread_end : w ≤ k
      → (at ≡ to + n * w)
      × (values ≡ sets values₀ to (flatten (stripes w first n rows (up_to w))))
      × (bounds ≡ sets bounds₀ (j + 1) (tails to (stripes w first n rows (up_to w))))
  unfolding stripes flatten tails
  spread_end h =
      let e : count_from k (w - k) ≡ [] = count-end k w h in
      let q : k ≡ w = omega (arith, g.below) in (
        g.place ∙ ap (λ (i : ℕ). to + i) (ap (λ (i : ℕ). i * n) q ∙ mul_comm w n),
        ap (λ (ks : List ℕ). sets values at (flatten (stripes w first n rows ks))) (sym e) ∙ g.put,
        ap (λ (ks : List ℕ). sets bounds (j + k + 1) (tails at (stripes w first n rows ks))) (sym e) ∙ g.noted,
      )
