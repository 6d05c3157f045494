-- The members of a set of marks, listed one by one.
-- Assumes nothing.
use Rattle.std.specs.Prelude.{None}
use Prim.Native.Nat.{ℕ, ◌+◌, ◌-◌, ◌≤◌, ◌<◌}
use native.Mathlib.Omega.{arith}
use native.Mathlib.Numerals.{add-one}
use mathlib.Core.Path.{◌≡◌, sym, ap, ◌∙◌}
use mathlib.Core.Bool.{Bool, true, false, cond}
use mathlib.Core.List.{List, [], ◌∷◌}
use lib.ListN.{length, get_or, set}
use lib.Seq.{sets}
use borrow.Author.Tests.{le-leb}
use Rattle.lists.specs.Words.{count_from, up_to, keep, has}
use Rattle.lists.proofs.Laws.{count-step, count-end, has-not, has-yes}
use Rattle.lines.specs.Lines.{members, members_refusal}

-- n members below i have been listed: what is left to do gives the whole
pub record Listing (marks out₀ out : List ℕ) (n i : ℕ) : Type 0 where
  pub below : i ≤ length marks
  pub few : n ≤ i
  pub put : sets out n (keep (has marks) (count_from i (length marks - i))) ≡ sets out₀ 0 (members marks)
  pub count : n + length (keep (has marks) (count_from i (length marks - i))) ≡ length (members marks)

-- what is left to do at a place, by whether it is a member
left : (marks : List ℕ) (i : ℕ) → i < length marks → (b : Bool) → has marks i ≡ b
    → keep (has marks) (count_from i (length marks - i)) ≡ cond b (i ∷ keep (has marks) (count_from (i + 1) (length marks - (i + 1)))) (keep (has marks) (count_from (i + 1) (length marks - (i + 1))))
left marks i h b e =
    ap (keep (has marks)) (count-step i (length marks) h)
    ∙ ap (λ (c : Bool). cond c (i ∷ keep (has marks) (count_from (i + 1) (length marks - (i + 1)))) (keep (has marks) (count_from (i + 1) (length marks - (i + 1))))) e

-- as much as before behind one that isn't
pub no_member : (marks : List ℕ) (i : ℕ) → i < length marks → get_or marks i 0 ≡ 0
    → keep (has marks) (count_from (i + 1) (length marks - (i + 1))) ≡ keep (has marks) (count_from i (length marks - i))
no_member marks i h e = sym (left marks i h false (has-not marks i e))

module _ (marks out₀ : List ℕ) where
  pub listing : Listing marks out₀ out₀ 0 0
  listing =
      let e : count_from 0 (length marks - 0) ≡ up_to (length marks) = ap (count_from 0) {x = length marks - 0} {y = length marks} (omega arith) in
      record {
        below = omega arith;
        few = omega arith;
        put = ap (λ (ks : List ℕ). sets out₀ 0 (keep (has marks) ks)) e;
        count = omega (arith, ap (λ (ks : List ℕ). length (keep (has marks) ks)) e);
      }

  module _ (out : List ℕ) (n i : ℕ) (g : Listing marks out₀ out n i) where
    pub listing-more : i < length marks → (get_or marks i 0 ≡ 0 → ⊥) → Listing marks out₀ (set out n i) (n + 1) (i + 1)
    listing-more h e =
        let q = left marks i h true (has-yes marks i e) in
        record {
          below = omega arith;
          few = omega (arith, g.few);
          put = ap (λ (k : ℕ). sets (set out n i) k (keep (has marks) (count_from (i + 1) (length marks - (i + 1))))) (add-one n) ∙ ap (sets out n) (sym q) ∙ g.put;
          count = omega (arith, ap length q, g.count);
        }

    pub listing-end : length marks ≤ i → (n ≡ length (members marks)) × (out ≡ sets out₀ 0 (members marks))
    listing-end h =
        let q : keep (has marks) (count_from i (length marks - i)) ≡ [] = ap (keep (has marks)) (count-end i (length marks) h) in
        (omega (arith, ap length q, g.count), ap (sets out n) (sym q) ∙ g.put)

-- where the call is accepted
pub fits : (marks out : List ℕ) → length marks ≤ 4096 → length marks ≤ length out → members_refusal marks out ≡ None
fits marks out h l = rw (le-leb (length marks) 4096 h, le-leb (length marks) (length out) l)
