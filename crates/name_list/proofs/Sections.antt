-- What stands behind the other lists is the list `name`, nothing, or neither.
-- Assumes nothing.
use Rattle.std.specs.Prelude.{◌≡◌, ℕ, zero, suc, ◌+◌, ◌-◌, ◌<◌, ◌≤◌, true, false, eqb, List, [], ◌∷◌, ◌++◌, length, get_or, take, drop, Some, None}
use mathlib.Core.Path.{refl, sym, ap, ◌∙◌}
use mathlib.Core.Bool.{true≢false}
use mathlib.Core.List.{foldl}
use native.Mathlib.Omega.{arith}
use lib.ListN.{length-append, length-drop, drop_of_length-le}
use lib.Seq.{take-suc, take_all, take_at, get_or_at, get_or-drop}
use borrow.Author.Tests.{eqb-true, ne_eqb}
use Rattle.form.specs.Form.{bytes}
use Rattle.names.specs.Names.{lines_of, ended, names_fit, names_in, line_ends}
use Rattle.names.specs.inner.Lines.{width_after}
use Rattle.names.proofs.Lines.{in-broken, in-counted, in-fit}
use Rattle.named_form.specs.NamedForm.{NameList, without, list, name_section, list_fits}
use Rattle.text_rows.specs.inner.Steps.{LineIs}
use Rattle.name_list.specs.Lying.{NamesLie}

-- the form of no names
pub none-fit : (n : ℕ) (s : List ℕ) → length s ≡ 0 → eqb n 0 ≡ names_fit n s
unfolding names_fit ended lines_of
none-fit zero [] e = refl
none-fit (suc n) [] e = rw (ne_eqb (suc n) 0 (λ q. omega arith), ne_eqb 0 (suc n) (λ q. omega arith))
none-fit n (b ∷ s) e = absurd (omega arith)

-- names of the form are as many lines
pub fit-lines : (n : ℕ) (s : List ℕ) → names_fit n s ≡ true → line_ends s ≡ n
unfolding line_ends
fit-lines n [] f = sym (eqb-true n 0 (none-fit n [] refl ∙ f))
fit-lines n (b ∷ s) f = go (foldl width_after 0 (b ∷ s)) refl
  where
    all : names_in n (b ∷ s) ≡ true
    all = in-fit n (b ∷ s) (λ e. omega arith) ∙ f

    go : (w : ℕ) → foldl width_after 0 (b ∷ s) ≡ w → line_ends (b ∷ s) ≡ n
    go zero e = eqb-true (line_ends (b ∷ s)) n (in-counted n (b ∷ s) (λ q. omega arith) e ∙ all)
    go (suc w) e = absurd (true≢false (sym all ∙ sym (in-broken n (b ∷ s) (λ q. omega arith) (λ z. omega arith))))

module _ (s : List ℕ) (at n : ℕ) where
  pub no-list : length s ≤ at → NamesLie s at n (Some (length s, length s))
  no-list h = (without, refl, drop_of_length-le s h, (omega arith, omega arith, ap (λ (k : ℕ). take k (drop (length s) s)) {x = length s - length s} {y = 0} (omega arith)))

  module _ (some : at < length s) where
    -- then a section is a list, with its line
    section-line : (l : NameList) → drop at s ≡ name_section l → (t : List ℕ) × (l ≡ list t) × (drop at s ≡ bytes "name" ++ 10 ∷ (t ++ 10 ∷ []))
    section-line without e = absurd (omega (arith, ap length e, length-drop at s))
    section-line (list t) e = (t, refl, e)

    pub no_line : LineIs s at (bytes "name") None → NamesLie s at n None
    no_line d l f e = let t = section-line l e in d (t.0 ++ 10 ∷ []) t.2

    module _ (from : ℕ) (m : LineIs s at (bytes "name") (Some from)) where
      -- the lines stand behind it, and an empty line
      section-rest : (l : NameList) → list_fits n l ≡ true → drop at s ≡ name_section l → (t : List ℕ) × (names_fit n t ≡ true) × (drop from s ≡ t ++ 10 ∷ [])
      section-rest without f e = absurd (omega (arith, ap length e, length-drop at s))
      section-rest (list t) f e = (t, f, ap (drop 5) (sym m.0 ∙ e))

      rest-size : (t : List ℕ) → drop from s ≡ t ++ 10 ∷ [] → length s ≡ from + length t + 1
      rest-size t e = omega (arith, ap length e, length-drop from s, length-append t (10 ∷ []), m.1)

      pub no_end : length s ≤ from → NamesLie s at n None
      no_end h l f e = let t = section-rest l f e in omega (arith, rest-size t.0 t.2)

      pub no-empty-line : (get_or s (length s - 1) 0 ≡ 10 → ⊥) → NamesLie s at n None
      no-empty-line d l f e =
          let t = section-rest l f e in
          let z = rest-size t.0 t.2 in
          d
          (ap (λ (k : ℕ). get_or s k 0) {x = length s - 1} {y = from + length t.0} (omega arith)
          ∙ sym (get_or-drop from s (length t.0) 0)
          ∙ ap (λ (x : List ℕ). get_or x (length t.0) 0) t.2
          ∙ get_or_at t.0 10 [] 0 (length t.0) refl)

      abbrev lines : List ℕ
      lines = take (length s - 1 - from) (drop from s)

      pub no-fit : names_fit n lines ≡ false → NamesLie s at n None
      no-fit g l f e =
          let t = section-rest l f e in
          let q : lines ≡ t.0 = ap (take (length s - 1 - from)) t.2 ∙ take_at t.0 (10 ∷ []) (length s - 1 - from) (omega (arith, rest-size t.0 t.2)) in
          true≢false (sym t.1 ∙ ap (names_fit n) (sym q) ∙ g)

      pub a-list : from < length s → get_or s (length s - 1) 0 ≡ 10 → names_fit n lines ≡ true → NamesLie s at n (Some (from, length s - 1))
      a-list h d g =
          let k : ℕ = length s - 1 - from in
          let z : length (drop from s) ≡ suc k = omega (arith, length-drop from s) in
          let b : get_or (drop from s) k 0 ≡ 10 = get_or-drop from s k 0 ∙ ap (λ (i : ℕ). get_or s i 0) {x = from + k} {y = length s - 1} (omega arith) ∙ d in
          let w : drop from s ≡ lines ++ 10 ∷ [] =
          sym (take_all (suc k) (drop from s) (omega arith)) ∙ take-suc (drop from s) k 0 (omega arith) ∙ ap (λ (x : ℕ). lines ++ x ∷ []) b in
          (list lines, g, m.0 ∙ ap (λ (x : List ℕ). bytes "name" ++ 10 ∷ x) w, (omega arith, omega arith, refl))

-- whether lines are names
pub ruleset fits = (none-fit, in-fit)

-- the answers
pub ruleset sections = (no-list, no_line, no_end, no-empty-line, no-fit, a-list)
