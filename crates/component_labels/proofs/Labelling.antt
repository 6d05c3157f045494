-- The loop that labels: what is known between two turns, and at the end.
-- Assumes nothing.
use Rattle.std.specs.Prelude.{◌≡◌, ℕ, ◌+◌, ◌<◌, ◌≤◌, Bool, true, false, cond, List, length, get_or, set}
use mathlib.Core.Path.{refl, sym, ap, ◌∙◌}
use native.Mathlib.Decide.{ℕ_discrete}
use native.Mathlib.Omega.{arith}
use lib.ListN.{length-set, length-map}
use lib.Seq.{get_or-set_same, get_or-set_other, ext_get_or}
use Rattle.lists.specs.Words.{up_to}
use Rattle.lists.proofs.Laws.{length-count_from, get_d-map-up_to}
use Rattle.component_labels.specs.inner.Labelling.{relabelled}

-- labelling: the places below d are labelled anew

pub record Labelling (test : ℕ → Bool) (c : ℕ) (labels₀ labels : List ℕ) (d : ℕ) : Type 0 where
  pub len : length labels ≡ length labels₀
  pub new : (i : ℕ) → i < d → i < length labels₀ → get_or labels i 0 ≡ cond (test i) c (get_or labels₀ i 0)
  pub old : (i : ℕ) → d ≤ i → get_or labels i 0 ≡ get_or labels₀ i 0

module _ (test : ℕ → Bool) (c : ℕ) (labels₀ : List ℕ) where
  pub labelling-start : Labelling test c labels₀ labels₀ 0
  labelling-start = record { len = refl; new = λ i a b. absurd (omega arith); old = λ i a. refl }

  module _ (labels : List ℕ) (d : ℕ) (g : Labelling test c labels₀ labels d) where
    pub labelling-pass : test d ≡ false → Labelling test c labels₀ labels (d + 1)
    labelling-pass k = record {
      len = g.len;
      new = λ i a b. pick i b (ℕ_discrete i d) a;
      old = λ i a. g.old i (omega arith);
    }
      where
        pick : (i : ℕ) → i < length labels₀ → Dec (i ≡ d) → i < d + 1 → get_or labels i 0 ≡ cond (test i) c (get_or labels₀ i 0)
        pick i b (yes q) a = g.old i (omega arith) ∙ sym (ap (λ (t : Bool). cond t c (get_or labels₀ i 0)) (ap test q ∙ k))
        pick i b (no q) a = g.new i (omega arith) b

    pub labelling-set : test d ≡ true → d < length labels₀ → Labelling test c labels₀ (set labels d c) (d + 1)
    labelling-set k l = record {
      len = length-set labels d c ∙ g.len;
      new = λ i a b. pick i b (ℕ_discrete i d) a;
      old = λ i a. get_or-set_other labels d i c 0 (λ q. omega arith) ∙ g.old i (omega arith);
    }
      where
        pick : (i : ℕ) → i < length labels₀ → Dec (i ≡ d) → i < d + 1 → get_or (set labels d c) i 0 ≡ cond (test i) c (get_or labels₀ i 0)
        pick i b (yes q) a =
            ap (λ (x : ℕ). get_or (set labels d c) x 0) q ∙ get_or-set_same labels d c 0 (omega (arith, g.len)) ∙ sym (ap (λ (t : Bool). cond t c (get_or labels₀ i 0)) (ap test q ∙ k))
        pick i b (no q) a = get_or-set_other labels d i c 0 q ∙ g.new i (omega arith) b

    pub labelling-end : length labels₀ ≤ d → labels ≡ relabelled test c labels₀
    labelling-end l =
        let n = length-map (up_to (length labels₀)) (λ (i : ℕ). cond (test i) c (get_or labels₀ i 0)) ∙ length-count_from 0 (length labels₀) in
        ext_get_or 0 labels (relabelled test c labels₀) (g.len ∙ sym n)
        (λ i a.
        let b : i < length labels₀ = omega (arith, g.len) in
        g.new i (omega arith) b ∙ sym (get_d-map-up_to (λ (j : ℕ). cond (test j) c (get_or labels₀ j 0)) (length labels₀) i 0 b))
