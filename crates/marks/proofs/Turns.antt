-- Adding what is in three sets: one turn, by what is at its place.
-- Assumes nothing.
use Rattle.std.specs.Prelude.{◌≡◌, ℕ, ◌+◌, ◌<◌, Bool, true, false, not, List, length, get_or, set}
use mathlib.Core.Path.{sym, subst, ◌∙◌}
use mathlib.Core.Bool.{true≢false}
use Rattle.lists.specs.Words.{is_zero}
use Rattle.lists.proofs.Laws.{has-yes, has-not, mark-in, mark-out}
use Rattle.marks.specs.Steps.{Adding, InAll}
use Rattle.marks.proofs.Steps.{adding-start, adding-pass, adding-put}

-- what is out of a set is not wanted
out : (x : ℕ) {A : Type 0} → x ≡ 0 → not (is_zero x) ≡ true → A
out x e h = absurd (true≢false (sym h ∙ mark-out x e))

module _ (a b c s : List ℕ) where
  pub none_added : Adding (InAll a b c) 0 s s false
  none_added = adding-start (InAll a b c) s

  module _ (i : ℕ) (t : List ℕ) (changed : Bool) (g : Adding (InAll a b c) i s t changed) where
    pub out_of_first : get_or a i 0 ≡ 0 → Adding (InAll a b c) (i + 1) s t changed
    out_of_first e = adding-pass (InAll a b c) s i t changed g (λ w. out (get_or a i 0) e w.0)

    pub out_of_second : get_or b i 0 ≡ 0 → Adding (InAll a b c) (i + 1) s t changed
    out_of_second e = adding-pass (InAll a b c) s i t changed g (λ w. out (get_or b i 0) e w.1)

    pub out_of_third : get_or c i 0 ≡ 0 → Adding (InAll a b c) (i + 1) s t changed
    out_of_third e = adding-pass (InAll a b c) s i t changed g (λ w. out (get_or c i 0) e w.2)

    pub in_already : (get_or t i 0 ≡ 0 → ⊥) → Adding (InAll a b c) (i + 1) s t changed
    in_already e = adding-pass (InAll a b c) s i t changed g (λ w. mark-in (get_or t i 0) e)

    pub comes_in : i < length t → (get_or a i 0 ≡ 0 → ⊥) → (get_or b i 0 ≡ 0 → ⊥) → (get_or c i 0 ≡ 0 → ⊥) → get_or t i 0 ≡ 0 → Adding (InAll a b c) (i + 1) s (set t i 1) true
    comes_in l one two three e = adding-put (InAll a b c) s i t changed g (mark-in (get_or a i 0) one, mark-in (get_or b i 0) two, mark-in (get_or c i 0) three) l e

    -- with all places, that is all
    pub all_added : length s ≡ i → Adding (InAll a b c) (length s) s t changed
    all_added e = subst (λ (n : ℕ). Adding (InAll a b c) n s t changed) (sym e) g

-- all of these
pub ruleset turns = (none_added, out_of_first, out_of_second, out_of_third, in_already, comes_in, all_added)

pub ruleset shut = (has-yes, has-not)
