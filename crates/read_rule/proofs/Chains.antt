-- The marks of the chains' symbols, over columns.
-- Assumes nothing.
use Rattle.std.specs.Prelude.{◌≡◌, ℕ, ◌<◌, true, List, length, get_or}
use mathlib.Core.Path.{sym, ap, subst, ◌∙◌}
use mathlib.Core.Logic.{inl, inr, ⊎_elim}
use native.Mathlib.Omega.{arith}
use Rattle.lists.specs.Words.{has}
use Rattle.lists.proofs.Laws.{has_in, get_d-in}
use Rattle.walk.specs.Close.{Within}
use Rattle.tables.specs.Project.{missing}
use Rattle.marks.specs.Steps.{looked, Owners, Marks}
use Rattle.marks.proofs.Steps.{length-looked, looked-has}
use Rattle.read_rule.specs.inner.Reads.{ChainTouch, Linking}

-- the symbols of planned owners, and those with a link to one, are marked
pub chains-marked : (owner chain_symbol chain_link S owners chains : List ℕ) → Linking chain_symbol chain_link (length owner)
    → owners ≡ looked 0 S owner → Owners chain_symbol (looked 0 owners chain_link) (length chain_symbol) owners chains
    → Marks (ChainTouch owner chain_symbol chain_link S) chains
unfolding Within
chains-marked owner chain_symbol chain_link S owners chains k start o = record { only = back; all = there }
  where
    count : length owners ≡ length owner
    count = ap length start ∙ length-looked 0 S owner

    -- a symbol is in where its owner is planned
    owned : (y : ℕ) → y < length owner → has owners y ≡ has S (get_or owner y missing)
    owned y l = ap (λ (s : List ℕ). has s y) start ∙ looked-has S owner y l ∙ ap (has S) (get_d-in owner y 0 missing l)

    linked : (row : ℕ) → row < length chain_symbol → has (looked 0 owners chain_link) row ≡ has S (get_or owner (get_or chain_link row 0) missing)
    linked row l = let i : row < length chain_link = omega (arith, k.links) in looked-has owners chain_link row i ∙ owned (get_or chain_link row 0) (k.linked row i)

    back : (y : ℕ) → has chains y ≡ true → ChainTouch owner chain_symbol chain_link S y
    back y e =
        ⊎_elim (λ h. inl (sym (owned y (omega (arith, count, has_in owners y h))) ∙ h))
        (λ r. inr (r.0, r.1, r.3, sym (linked r.0 r.1) ∙ r.2))
        (o.only y e)

    there : (y : ℕ) → y < length chains → ChainTouch owner chain_symbol chain_link S y → has chains y ≡ true
    there y l t =
        ⊎_elim (λ h. o.old y (owned y (omega (arith, o.len, count)) ∙ h))
        (λ r. subst (λ (x : ℕ). has chains x ≡ true) r.2 (o.new r.0 r.1 (linked r.0 r.1 ∙ r.3) (subst (λ (x : ℕ). x < length owners) (sym r.2) (omega (arith, o.len)))))
        t
