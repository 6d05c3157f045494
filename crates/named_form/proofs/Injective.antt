-- A text tells its table, whether it has a list of names, and the list.
-- Assumes nothing.
use mathlib.Core.Path.{◌≡◌, refl, sym, ap, ◌∙◌}
use mathlib.Core.List.{List, [], ◌∷◌, ◌++◌, append-nil}
use Prim.Native.Nat.{ℕ}
use native.Mathlib.Omega.{arith}
use lib.ListN.{length, take, drop, length-append}
use lib.Seq.{take_at}
use Rattle.tables.specs.Project.{Project}
use Rattle.form.specs.Form.{render, Renders}
use Rattle.form.proofs.Injective.{render-once}
use Rattle.named_form.specs.NamedForm.{NameList, without, list, name_section, RendersNamed}

-- what stands before a last byte
cut-last : (s t : List ℕ) (b : ℕ) → s ++ (b ∷ []) ≡ t ++ (b ∷ []) → s ≡ t
cut-last s t b e =
    let n : length s ≡ length t = omega (arith, ap length e, length-append s (b ∷ []), length-append t (b ∷ [])) in
    sym (take_at s (b ∷ []) (length t) n) ∙ ap (take (length t)) e ∙ take_at t (b ∷ []) (length t) refl

section-once : (l k : NameList) → name_section l ≡ name_section k → l ≡ k
section-once without without e = refl
section-once without (list t) e = absurd (omega (arith, ap length e))
section-once (list s) without e = absurd (omega (arith, ap length e))
section-once (list s) (list t) e = ap list (cut-last s t 10 (ap (drop 5) e))

pub named-injective : (s : List ℕ) (p q : Project) (l k : NameList) → RendersNamed s p l → RendersNamed s q k → (p ≡ q) × (l ≡ k)
unfolding RendersNamed
named-injective s p q l k a b =
    let r = render-once p q (name_section l) (name_section k) a.0 b.0 (a.2 ∙ sym b.2) in
    (r.0, section-once l k r.1)

-- a text without the list is one of the form without names
pub without-names : (s : List ℕ) (p : Project) → Renders s p → RendersNamed s p without
unfolding RendersNamed
without-names s p h = (h.0, refl, append-nil (render p) ∙ h.1)
