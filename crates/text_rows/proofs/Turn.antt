-- The loop over the fields of a list: what has been read, one field more, the end, and why nothing else would do. Assumes nothing.
use Prim.Native.Nat.{ℕ, ◌+◌, ◌*◌, ◌≤◌, ◌<◌}
use native.Mathlib.Omega.{arith}
use mathlib.Core.Path.{◌≡◌, refl, sym, ap, ◌∙◌}
use mathlib.Core.List.{List, [], ◌∷◌, ◌++◌, append_assoc}
use lib.ListN.{length, drop, get_or, set, length-append, drop_of_length-le}
use lib.Seq.{sets}
use borrow.Author.Tests.{eq-eqb, ne_eqb}
use mathlib.Core.Logic.{⊎_elim}
use Rattle.tables.specs.Project.{missing}
use Rattle.form.specs.Form.{field}
use Rattle.text_rows.specs.inner.Cells.{ender, following, cells, ends, body}
use Rattle.form.specs.Parse.{Fit, none, more}
use Rattle.form.proofs.Fields.{split}
use Rattle.text_rows.specs.inner.Steps.{CellIs, RowsRead, RowsIs}
use Rattle.std.specs.Prelude.{Some, None}
use Rattle.text_rows.proofs.Positions.{here}
use Rattle.form.proofs.Rows.{field-not-end, field-once}
use Rattle.form.proofs.Runs.{sets-append}

-- both bytes behind a field are below the digits
pub ender-low : (left : ℕ) → ender left < 48
unfolding ender
ender-low left =
    ⊎_elim (λ h. simp (eq-eqb left 0 (omega arith)) (omega arith)) (λ h. simp (ne_eqb left 0 (omega arith)) (omega arith)) (split left 1)

-- one value more
fit-snoc : (vs : List ℕ) (v : ℕ) → Fit vs → v ≤ missing → Fit (vs ++ v ∷ [])
fit-snoc [] v none h = more h none
fit-snoc (u ∷ us) v (more g f) h = more g (fit-snoc us v f h)

cells-snoc : (last left : ℕ) (vs : List ℕ) (v : ℕ) (x : List ℕ)
    → cells last left (vs ++ v ∷ []) ++ x ≡ cells last left vs ++ (field v ++ ender (ends last left vs) ∷ x)
unfolding cells ends
cells-snoc last left [] v x = append_assoc (field v) (ender left ∷ []) x
cells-snoc last left (u ∷ us) v x =
    append_assoc (field u) (ender left ∷ cells last (following last left) (us ++ v ∷ [])) x
    ∙ ap (λ (y : List ℕ). field u ++ ender left ∷ y) (cells-snoc last (following last left) us v x)
    ∙ sym (append_assoc (field u) (ender left ∷ cells last (following last left) us) (field v ++ ender (ends last (following last left) us) ∷ x))

ends_snoc : (last left : ℕ) (vs : List ℕ) (v : ℕ) → ends last left (vs ++ v ∷ []) ≡ following last (ends last left vs)
unfolding ends
ends_snoc last left [] v = refl
ends_snoc last left (u ∷ us) v = ends_snoc last (following last left) us v

-- what the loop has read when it stands at i
pub record Going (s : List ℕ) (at last : ℕ) (d : List ℕ) (from : ℕ) (d' : List ℕ) (i k left : ℕ) : Type 0 where
  pub vs : List ℕ
  pub fit : Fit vs
  pub text : drop at s ≡ cells last last vs ++ drop i s
  pub inside : i ≤ length s
  pub room : at + 2 * length vs ≤ i
  pub count : k ≡ from + length vs
  pub now-left : left ≡ ends last last vs
  pub put : d' ≡ sets d from vs

module _ (s : List ℕ) (at last : ℕ) (d : List ℕ) (from : ℕ) where
  pub begin : at ≤ length s → Going s at last d from d at from last
  unfolding cells ends
  begin h =
      record {
        vs = [];
        fit = none;
        text = refl;
        inside = h;
        room = omega arith;
        count = omega arith;
        now-left = refl;
        put = refl;
      }

  pub step : (d' : List ℕ) (i k left v next : ℕ) → Going s at last d from d' i k left → CellIs s i (ender left) (Some (v, next))
      → Going s at last d from (set d' k v) next (k + 1) (following last left)
  step d' i k left v next g c =
      let n : length (g.vs ++ v ∷ []) ≡ length g.vs + 1 = length-append g.vs (v ∷ []) in
      record {
        vs = g.vs ++ v ∷ [];
        fit = fit-snoc g.vs v g.fit c.0;
        text =
            g.text
            ∙ ap (λ (x : List ℕ). cells last last g.vs ++ x) c.3
            ∙ ap (λ (l : ℕ). cells last last g.vs ++ (field v ++ ender l ∷ drop next s)) g.now-left
            ∙ sym (cells-snoc last last g.vs v (drop next s));
        inside = c.2;
        room = omega (arith, n, g.room, c.1);
        count = omega (arith, n, g.count);
        now-left = ap (following last) g.now-left ∙ sym (ends_snoc last last g.vs v);
        put =
            ap (λ (x : List ℕ). set x k v) g.put
            ∙ ap (λ (j : ℕ). set (sets d from g.vs) j v) g.count
            ∙ sets-append d from g.vs (v ∷ []);
      }

  pub finish : (d' : List ℕ) (i k left : ℕ) → Going s at last d from d' i k left → left ≡ last → i < length s → get_or s i 0 ≡ 10
      → RowsRead s at last d from d' k (i + 1)
  unfolding body
  finish d' i k left g l h b =
      record {
        vs = g.vs;
        whole = record { fit = g.fit; whole = sym g.now-left ∙ l };
        text =
            g.text
            ∙ ap (λ (x : List ℕ). cells last last g.vs ++ x) (here s i 10 h (sym b))
            ∙ sym (append_assoc (cells last last g.vs) (10 ∷ []) (drop (i + 1) s));
        inside = omega arith;
        count = g.count;
        put = g.put;
      }

-- where the values vs have been read, and neither a field nor the empty line follows, no list stands there
stuck : (last left : ℕ) (vs us x y : List ℕ) → Fit vs → Fit us → ends last left us ≡ last
    → cells last left vs ++ x ≡ cells last left us ++ 10 ∷ y
    → ((v : ℕ) (rest : List ℕ) → v ≤ missing → x ≡ field v ++ ender (ends last left vs) ∷ rest → ⊥)
    → (ends last left vs ≡ last → (rest : List ℕ) → x ≡ 10 ∷ rest → ⊥)
    → ⊥
unfolding cells ends
stuck last left [] [] x y fv fu w q nf ne = ne w y q
stuck last left [] (u ∷ us) x y fv (more hu fu) w q nf ne =
    nf u (cells last (following last left) us ++ 10 ∷ y) hu (q ∙ append_assoc (field u) (ender left ∷ cells last (following last left) us) (10 ∷ y))
stuck last left (v ∷ vs) [] x y (more hv fv) fu w q nf ne =
    field-not-end v (ender left) (cells last (following last left) vs ++ x) y hv (ender-low left)
    (sym (append_assoc (field v) (ender left ∷ cells last (following last left) vs) x) ∙ q)
stuck last left (v ∷ vs) (u ∷ us) x y (more hv fv) (more hu fu) w q nf ne =
    stuck last (following last left) vs us x y fv fu w
    (field-once v u (ender left) (ender left) (cells last (following last left) vs ++ x) (cells last (following last left) us ++ 10 ∷ y) hv hu (ender-low left) (ender-low left)
    (sym (append_assoc (field v) (ender left ∷ cells last (following last left) vs) x)
    ∙ q
    ∙ append_assoc (field u) (ender left ∷ cells last (following last left) us) (10 ∷ y))).1
    nf ne

module _ (s : List ℕ) (at last : ℕ) (d : List ℕ) (from : ℕ) (d' : List ℕ) (i k left : ℕ) (g : Going s at last d from d' i k left) where
  pub refuse : CellIs s i (ender left) None → (left ≡ last → (rest : List ℕ) → drop i s ≡ 10 ∷ rest → ⊥) → RowsIs s at last d from d' None
  unfolding body
  refuse nf ne us rest t q =
      stuck last last g.vs us (drop i s) rest g.fit t.fit t.whole
      (sym g.text ∙ q ∙ append_assoc (cells last last us) (10 ∷ []) rest)
      (λ v r h p. nf v r h (p ∙ ap (λ (l : ℕ). field v ++ ender l ∷ r) (sym g.now-left)))
      (λ l r p. ne (g.now-left ∙ l) r p)

  -- in the middle of a row
  pub refuse-row : CellIs s i (ender left) None → (left ≡ last → ⊥) → RowsIs s at last d from d' None
  refuse-row nf n = refuse nf (λ l r p. n l)

  -- another byte than the empty line's
  pub refuse-byte : CellIs s i (ender left) None → i < length s → (get_or s i 0 ≡ 10 → ⊥) → RowsIs s at last d from d' None
  refuse-byte nf h n =
      refuse nf
      (λ l r p.
      let q : drop i s ≡ get_or s i 0 ∷ drop (i + 1) s = here s i (get_or s i 0) h refl in
      let b : get_or s i 0 ≡ 10 = cc in n b)

  -- at the end of the text
  pub refuse-end : length s ≤ i → RowsIs s at last d from d' None
  refuse-end h =
      let q : drop i s ≡ [] = drop_of_length-le s h in
      refuse
      (λ v r hv p. let l : 0 ≡ length (field v) + length (ender left ∷ r) = ap length (sym q ∙ p) ∙ length-append (field v) (ender left ∷ r) in omega arith)
      (λ l r p. let n : 0 ≡ length (10 ∷ r) = ap length (sym q ∙ p) in omega arith)
