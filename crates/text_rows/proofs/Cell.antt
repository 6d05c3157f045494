-- A field with the byte behind it, from what `front` says of the text. Assumes nothing.
use Prim.Native.Nat.{ℕ, ◌+◌, ◌-◌, ◌≤◌, ◌<◌}
use native.Mathlib.Omega.{arith}
use mathlib.Core.Path.{◌≡◌, refl, sym, ap, ◌∙◌}
use mathlib.Core.List.{List, [], ◌∷◌, ◌++◌}
use lib.ListN.{length, drop, get_or, drop_of_length-le, length-append, length-drop}
use Rattle.tables.specs.Project.{missing}
use Rattle.form.specs.Form.{field}
use Rattle.form.specs.Parse.{Parsed, ok, bad, front}
use Rattle.form.proofs.Fields.{front-field, front-sound, field-pos}
use Rattle.text_rows.specs.inner.Steps.{CellIs}
use Rattle.std.specs.Prelude.{Some, None}
use Rattle.text_rows.proofs.Positions.{here}

-- what a rendering at `at` would make `front` say
rendered : (s : List ℕ) (at e : ℕ) (p : Parsed) → front (drop at s) ≡ p → e < 48
    → (u : ℕ) (rest : List ℕ) → u ≤ missing → drop at s ≡ field u ++ e ∷ rest → p ≡ ok u (e ∷ rest)
rendered s at e p q he u rest hu d = sym q ∙ ap front d ∙ front-field u e rest hu he

pub cell-none : (s : List ℕ) (at e : ℕ) → front (drop at s) ≡ bad → e < 48 → CellIs s at e None
cell-none s at e q he u rest hu d =
    let r : bad ≡ ok u (e ∷ rest) = rendered s at e bad q he u rest hu d in
    let z : ◌≡◌ {A = ℕ} 0 1 = cc in omega arith

module _ (s : List ℕ) (at e v i : ℕ) (q : front (drop at s) ≡ ok v (drop i s)) (he : e < 48) where
  pub cell-end : length s ≤ i → CellIs s at e None
  cell-end h u rest hu d =
      let r : ok v (drop i s) ≡ ok u (e ∷ rest) = rendered s at e (ok v (drop i s)) q he u rest hu d in
      let n : drop i s ≡ [] = drop_of_length-le s h in
      let m : drop i s ≡ e ∷ rest = cc in
      let l : length (e ∷ rest) ≡ 0 = ap length (sym m ∙ n) in omega arith

  pub cell_other : i < length s → (get_or s i 0 ≡ e → ⊥) → CellIs s at e None
  cell_other h b u rest hu d =
      let r : ok v (drop i s) ≡ ok u (e ∷ rest) = rendered s at e (ok v (drop i s)) q he u rest hu d in
      let n : drop i s ≡ get_or s i 0 ∷ drop (i + 1) s = here s i (get_or s i 0) h refl in
      let m : get_or s i 0 ≡ e = cc in b m

  pub cell-some : i < length s → get_or s i 0 ≡ e → CellIs s at e (Some (v, i + 1))
  cell-some h b =
      let f = front-sound (drop at s) v (drop i s) q in
      let g : drop at s ≡ field v ++ e ∷ drop (i + 1) s = f.0 ∙ ap (λ (x : List ℕ). field v ++ x) (here s i e h (sym b)) in
      let l : length s - at ≡ length (field v) + length (e ∷ drop (i + 1) s) =
      sym (length-drop at s) ∙ ap length g ∙ length-append (field v) (e ∷ drop (i + 1) s) in
      (f.1, omega (arith, l, length-drop (i + 1) s, field-pos v f.1), omega arith, g)
