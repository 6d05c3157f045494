-- A list of its line and its rows, and several lists one after the other.
-- Assumes nothing.
use Prim.Native.Nat.{ℕ, suc, ◌+◌, ◌-◌, ◌*◌, ◌≤◌, ◌<◌}
use native.Mathlib.Omega.{arith}
use mathlib.Core.Path.{◌≡◌, refl, sym, ap, ap₂, ◌∙◌}
use mathlib.Core.List.{List, [], ◌∷◌, ◌++◌, append_assoc, append_cancel_left, flatten}
use lib.ListN.{length, drop, set, length-append, length-drop}
use lib.Seq.{sets}
use Rattle.form.specs.Form.{field}
use Rattle.form.specs.Parse.{Fit, none, more}
use Rattle.form.proofs.Fields.{field-pos}
use Rattle.form.proofs.Rows.{field-not-end, field-once}
use Rattle.form.proofs.Runs.{sets-append}
use Rattle.text_rows.specs.inner.Cells.{ender, following, cells, Whole, body, Head, listed, texts, Wholes, stops}
use Rattle.text_rows.specs.inner.Cells as rows
use Rattle.std.specs.Prelude.{Option, Some, None}
use Rattle.text_rows.specs.inner.Steps.{LineIs, RowsIs, ListIs, Room, RoomAfter, AllIs, Steps}
use Rattle.text_rows.specs.declared.inner.Cursor.{Cursor}
use Rattle.text_rows.proofs.Line.{line_on}
use Rattle.text_rows.proofs.Turn.{ender-low}

-- a value has two bytes at least
cells-long : (last left : ℕ) (vs : List ℕ) → Fit vs → 2 * length vs ≤ length (cells last left vs)
unfolding cells
cells-long last left [] none = omega arith
cells-long last left (v ∷ vs) (more h f) =
    omega (arith, cells-long last (following last left) vs f, field-pos v h, length-append (field v) (ender left ∷ cells last (following last left) vs))

body-long : (last : ℕ) (vs : List ℕ) → Fit vs → 2 * length vs < length (body last vs)
unfolding body
body-long last vs f = omega (arith, cells-long last last vs f, length-append (cells last last vs) (10 ∷ []))

module _ (s : List ℕ) (h : Head) (d d' : List ℕ) (c : Cursor) where
  apart : (vs rest : List ℕ) → listed h vs ++ rest ≡ h.name ++ 10 ∷ (body h.last vs ++ rest)
  unfolding listed
  apart vs rest = append_assoc h.name (10 ∷ body h.last vs) rest

  pub list-no-line : LineIs s c.at h.name None → ListIs s h d d' c None
  list-no-line l vs rest t e = l (body h.last vs ++ rest) (e ∙ apart vs rest)

  pub list_rows : (next : ℕ) → Room s c → LineIs s c.at h.name (Some next) → (r : Option Cursor) → RowsIs s next h.last d c.count d' r
      → ListIs s h d d' c r × RoomAfter s r
  list_rows next room l None r = (
    λ vs rest t e.
        let x : 10 ∷ drop next s ≡ 10 ∷ (body h.last vs ++ rest) =
        append_cancel_left h.name (10 ∷ drop next s) (10 ∷ (body h.last vs ++ rest)) (sym l.0 ∙ e ∙ apart vs rest) in
        r vs rest t (cc),
    tt,
  )
  list_rows next room l (Some n) r =
      let len : length s - next ≡ length (body h.last r.vs) + length (drop n.at s) = sym (length-drop next s) ∙ ap length r.text ∙ length-append (body h.last r.vs) (drop n.at s) in (
        record {
          vs = r.vs;
          whole = r.whole;
          text = l.0 ∙ ap (λ (x : List ℕ). h.name ++ 10 ∷ x) r.text ∙ sym (apart r.vs (drop n.at s));
          inside = r.inside;
          count = r.count;
          put = r.put;
        },
        (
          r.inside,
          omega (arith, len, line_on s c.at h.name next l, length-drop n.at s, body-long h.last r.vs r.whole.fit, room.1, r.inside, r.count),
        ),
      )

-- the rows of a list are read in one way only
cells-once : (last left : ℕ) (vs us x y : List ℕ) → Fit vs → Fit us → cells last left vs ++ 10 ∷ x ≡ cells last left us ++ 10 ∷ y → x ≡ y
unfolding cells
cells-once last left [] [] x y fv fu q = cc
cells-once last left [] (u ∷ us) x y fv (more hu fu) q =
    absurd (field-not-end u (ender left) (cells last (following last left) us ++ 10 ∷ y) x hu (ender-low left)
    (sym (append_assoc (field u) (ender left ∷ cells last (following last left) us) (10 ∷ y)) ∙ sym q))
cells-once last left (v ∷ vs) [] x y (more hv fv) fu q =
    absurd (field-not-end v (ender left) (cells last (following last left) vs ++ 10 ∷ x) y hv (ender-low left)
    (sym (append_assoc (field v) (ender left ∷ cells last (following last left) vs) (10 ∷ x)) ∙ q))
cells-once last left (v ∷ vs) (u ∷ us) x y (more hv fv) (more hu fu) q =
    cells-once last (following last left) vs us x y fv fu
    (field-once v u (ender left) (ender left) (cells last (following last left) vs ++ 10 ∷ x) (cells last (following last left) us ++ 10 ∷ y) hv hu (ender-low left) (ender-low left)
    (sym (append_assoc (field v) (ender left ∷ cells last (following last left) vs) (10 ∷ x))
    ∙ q
    ∙ append_assoc (field u) (ender left ∷ cells last (following last left) us) (10 ∷ y))).1

-- so is a list
listed-once : (h : Head) (vs us x y : List ℕ) → Whole h.last vs → Whole h.last us → listed h vs ++ x ≡ listed h us ++ y → x ≡ y
unfolding listed body
listed-once h vs us x y tv tu q =
    cells-once h.last h.last vs us x y tv.fit tu.fit
    (sym (append_assoc (cells h.last h.last vs) (10 ∷ []) x)
    ∙ tails (append_cancel_left h.name (10 ∷ (body h.last vs ++ x)) (10 ∷ (body h.last us ++ y))
    (sym (append_assoc h.name (10 ∷ body h.last vs) x) ∙ q ∙ append_assoc h.name (10 ∷ body h.last us) y))
    ∙ append_assoc (cells h.last h.last us) (10 ∷ []) y)
  where
    tails : {a b : List ℕ} → 10 ∷ a ≡ 10 ∷ b → a ≡ b
    tails e = cc

module _ (s : List ℕ) (h : Head) (hs : List Head) (d d₁ d' e e₁ e' : List ℕ) (j : ℕ) (c : Cursor) where
  pub all_off : ListIs s h d d₁ c None → AllIs s (h ∷ hs) d d' e e' j c None
  unfolding texts
  all_off l vss rest (rows.Wholes.more {vs = vs} {vss = us} t ts) q =
      l vs (texts hs us ++ rest) t (q ∙ append_assoc (listed h vs) (texts hs us) rest)

  all-late : (c₁ : Cursor) → ListIs s h d d₁ c (Some c₁) → AllIs s hs d₁ d' e₁ e' (suc j) c₁ None → AllIs s (h ∷ hs) d d' e e' j c None
  unfolding texts
  all-late c₁ l a vss rest (rows.Wholes.more {vs = vs} {vss = us} t ts) q =
      a us rest ts
      (listed-once h l.vs vs (drop c₁.at s) (texts hs us ++ rest) l.whole t (sym l.text ∙ q ∙ append_assoc (listed h vs) (texts hs us) rest))

  all_more : (c₁ : Cursor) (r : Option Cursor) → ListIs s h d d₁ c (Some c₁) → e₁ ≡ set e j c₁.count → AllIs s hs d₁ d' e₁ e' (suc j) c₁ r
      → AllIs s (h ∷ hs) d d' e e' j c r
  unfolding texts flatten stops
  all_more c₁ None l n a = all-late c₁ l a
  all_more c₁ (Some r) l n a =
      record {
        vss = l.vs ∷ a.vss;
        wholes = rows.Wholes.more l.whole a.wholes;
        text = l.text ∙ ap (λ (x : List ℕ). listed h l.vs ++ x) a.text ∙ sym (append_assoc (listed h l.vs) (texts hs a.vss) (drop r.at s));
        inside = a.inside;
        count = omega (arith, l.count, a.count, length-append l.vs (flatten a.vss));
        put =
            a.put
            ∙ ap₂ (λ (x : List ℕ) (i : ℕ). sets x i (flatten a.vss)) l.put l.count
            ∙ sets-append d c.count l.vs (flatten a.vss);
        noted =
            a.noted
            ∙ ap (λ (x : List ℕ). sets x (suc j) (stops c₁.count a.vss)) n
            ∙ ap (λ (m : ℕ). sets (set e j m) (suc j) (stops m a.vss)) l.count;
      }

  -- a list and those behind it
  pub steps-more : (c₁ : Cursor) (r : Option Cursor) → ListIs s h d d₁ c (Some c₁) → e₁ ≡ set e j c₁.count → Steps s hs d₁ d' e₁ e' (suc j) c₁ r
      → Steps s (h ∷ hs) d d' e e' j c r
  steps-more c₁ r l n b = record { all = all_more c₁ r l n b.all; room = b.room }

-- no list more
pub steps-none : (s d e : List ℕ) (j : ℕ) (c : Cursor) → Room s c → Steps s [] d d e e j c (Some c)
unfolding texts flatten stops
steps-none s d e j c r =
    record {
      all = record { vss = []; wholes = rows.Wholes.none; text = refl; inside = r.0; count = omega arith; put = refl; noted = refl };
      room = r;
    }
