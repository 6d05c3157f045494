-- The lines of names of a project's lists, and the loop over them.
-- Assumes nothing.
use Prim.Native.Nat.{ℕ, zero, suc, ◌+◌, ◌-◌, ◌≤◌, ◌<◌}
use Prim.Native.String.{String}
use native.Mathlib.Omega.{arith}
use native.Mathlib.Numerals.{add-one}
use mathlib.Core.Path.{◌≡◌, refl, sym, ap, ap₂, ◌∙◌}
use mathlib.Core.Bool.{◌&&◌}
use mathlib.Core.List.{List, [], ◌∷◌, ◌++◌, append_assoc}
use lib.ListN.{length, get_or, set, take, drop, length-append}
use lib.Seq.{drop-cons, take_at, drop_at}
use lib.Dec.{ltb}
use borrow.Author.Tests.{ltb-true}
use Rattle.lists.proofs.Laws.{and_parts}
use Rattle.lists.proofs.Tests.{every-at}
use Rattle.form.specs.Form.{names}
use Rattle.text_rows.specs.inner.Cells.{Head, head, heads_of, widths, heads, name_lines, starts_of}
use Rattle.std.specs.Prelude.{Option, Some, None}
use Rattle.text_rows.specs.inner.Steps.{Room, ListIs, start_of_text, Steps}
use Rattle.text_rows.specs.declared.inner.Cursor.{Cursor}
use Rattle.text_rows.proofs.Listed.{all_off, steps-none, steps-more}

-- every list has a column, and eight at most
pub narrow : (l : ℕ) → l < 15 → (0 < get_or widths l 0) × (get_or widths l 0 < 9)
narrow l h =
    let t = and_parts _ _ (every-at (λ (w : ℕ). ltb 0 w && ltb w 9) widths 0 refl l h) in
    (ltb-true 0 (get_or widths l 0) t.0, ltb-true (get_or widths l 0) 9 t.1)

-- the l-th of some heads
abbrev pub nth : List Head → ℕ → Head
nth hs l = get_or hs l (head [] 0)

-- a name is the part of a text from `from` on whose line end stands before `to`
pub record NameAt (text name : List ℕ) (from to : ℕ) : Type 0 where
  pub order : from < to
  pub inside : to ≤ length text
  pub same : take (to - 1 - from) (drop from text) ≡ name

starts_first : (at : ℕ) (hs : List Head) → get_or (starts_of at hs) 0 0 ≡ at
unfolding starts_of
starts_first at [] = refl
starts_first at (h ∷ hs) = refl

-- each line of names stands between its start and the next
lines_at : (hs : List Head) (pre text : List ℕ) (at l : ℕ) → text ≡ pre ++ name_lines hs → length pre ≡ at → l < length hs
    → NameAt text (nth hs l).name (get_or (starts_of at hs) l 0) (get_or (starts_of at hs) (suc l) 0)
unfolding name_lines starts_of
lines_at [] pre text at l q e h = absurd (omega arith)
lines_at (h ∷ hs) pre text at zero q e l =
    let rest : List ℕ = 10 ∷ name_lines hs in
    let to : ℕ = get_or (starts_of (at + length h.name + 1) hs) 0 0 in
    let s : to ≡ at + length h.name + 1 = starts_first (at + length h.name + 1) hs in
    record {
      order = omega (arith, s);
      inside = omega (arith, s, e, ap length q, length-append pre (h.name ++ rest), length-append h.name rest);
      same =
          ap (λ (x : List ℕ). take (to - 1 - at) (drop at x)) q
          ∙ ap (take (to - 1 - at)) (drop_at pre (h.name ++ rest) at e)
          ∙ take_at h.name rest (to - 1 - at) (omega (arith, s));
    }
lines_at (h ∷ hs) pre text at (suc l) q e t =
    let line : List ℕ = h.name ++ 10 ∷ [] in
    lines_at hs (pre ++ line) text (at + length h.name + 1) l
    (q ∙ ap (λ (x : List ℕ). pre ++ x) (sym (append_assoc h.name (10 ∷ []) (name_lines hs))) ∙ sym (append_assoc pre line (name_lines hs)))
    (omega (arith, e, length-append pre line, length-append h.name (10 ∷ []))) (omega arith)

pub name-here : (text : List ℕ) (l from to : ℕ) → text ≡ name_lines heads → l < 15 → from ≡ get_or (starts_of 0 heads) l 0
    → to ≡ get_or (starts_of 0 heads) (l + 1) 0 → NameAt text (nth heads l).name from to
name-here text l from to q h f t = rw (f, t, add-one l) (lines_at heads [] text 0 l q refl h)

last-at : (ns : List String) (ws : List ℕ) (l : ℕ) → l < length (heads_of ns ws) → (nth (heads_of ns ws) l).last ≡ get_or ws l 0 - 1
last-at [] ws l h = absurd (omega arith)
last-at (n ∷ ns) [] l h = absurd (omega arith)
last-at (n ∷ ns) (w ∷ ws) zero h = refl
last-at (n ∷ ns) (w ∷ ws) (suc l) h = last-at ns ws l (omega arith)

-- l lists have been read: where the rest is read, all is
pub record Begun (s d₀ e₀ d e : List ℕ) (c : Cursor) (l : ℕ) : Type 0 where
  pub below : l ≤ 15
  pub room : Room s c
  pub rest : (d' e' : List ℕ) (r : Option Cursor) → Steps s (drop l heads) d d' e e' l c r → Steps s heads d₀ d' e₀ e' 0 start_of_text r

module _ (s d₀ e₀ : List ℕ) where
  pub begun : length s ≤ 65536 → Begun s d₀ e₀ d₀ e₀ start_of_text 0
  begun h = record { below = omega arith; room = (omega arith, omega arith); rest = λ d' e' r x. x }

  module _ (d e : List ℕ) (c : Cursor) (l : ℕ) (g : Begun s d₀ e₀ d e c l) where
    module _ (name : List ℕ) (w : ℕ) (d₁ : List ℕ) (h : l < 15) (n : name ≡ (nth heads l).name) (v : w ≡ get_or widths l 0) where
      same : head name (w - 1) ≡ nth heads l
      same = ap₂ head n (ap (λ (k : ℕ). k - 1) v ∙ sym (last-at names widths l h))

      pub begun_more : (c₁ : Cursor) → ListIs s (head name (w - 1)) d d₁ c (Some c₁) → Room s c₁ → Begun s d₀ e₀ d₁ (set e l c₁.count) c₁ (l + 1)
      begun_more c₁ i room =
          record {
            below = omega arith;
            room = room;
            rest = λ d' e' r x.
                g.rest d' e' r
                (rw (drop-cons heads l (head [] 0) h, ← same)
                (steps-more s (head name (w - 1)) (drop (suc l) heads) d d₁ d' e (set e l c₁.count) e' l c c₁ r i refl (rw add-one at x)));
          }

      pub begun_off : ListIs s (head name (w - 1)) d d₁ c None
          → Steps s heads d₀ d₁ e₀ (set e l (get_or e l 0)) 0 start_of_text None
      begun_off i =
          g.rest d₁ (set e l (get_or e l 0)) None
          (rw (drop-cons heads l (head [] 0) h, ← same)
          (record { all = all_off s (head name (w - 1)) (drop (suc l) heads) d d₁ d₁ e e (set e l (get_or e l 0)) l c i; room = tt }))

    pub begun_all : 15 ≤ l → Steps s heads d₀ d e₀ e 0 start_of_text (Some c)
    begun_all h =
        let q : l ≡ 15 = omega (arith, g.below) in
        g.rest d e (Some c) (rw q (steps-none s d e 15 c g.room))
