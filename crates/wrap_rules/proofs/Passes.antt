-- Passes: what is added to a set is a pass, passes of several rules in turn are one pass of the rules together, and passes until nothing changes
-- end at the least closed set.
-- Assumes nothing.
use mathlib.Core.Path.{◌≡◌, refl, sym, ap, subst, ◌∙◌}
use mathlib.Core.Logic.{⊎_elim}
use mathlib.Core.Bool.{Bool, true, false, ◌||◌, true≢false, false≢true}
use mathlib.Core.List.{List}
use Prim.Native.Nat.{ℕ, ◌+◌, ◌<◌}
use native.Mathlib.Omega.{arith}
use lib.ListN.{length}
use Rattle.lists.specs.Words.{has, zeros, bit}
use Rattle.lists.proofs.Laws.{or_parts, or_left, or_right, has_in}
use Rattle.walk.specs.Close.{close, Within, Closed, Monotone, Bits}
use Rattle.walk.proofs.Closes.{close-unique}
use Rattle.tables.specs.Project.{Project}
use Rattle.marks.specs.Steps.{Added}
use Rattle.wrap_rules.specs.Plan.{suffix_rule, component_rule, import_rule, read_rule, asks, asked}
use Rattle.wrap_rules.specs.inner.Passes.{Passed}

-- what is added to a set is a pass of a rule that asks for just that
pub passed-added : (rule : List ℕ → ℕ → Bool) (f : ℕ → Type 0) → Monotone rule → {s t : List ℕ} {changed : Bool} → Bits s
    → ((m : ℕ) → f m → rule s m ≡ true) → ((m : ℕ) → m < length s → rule s m ≡ true → f m) → Added f s t changed → Passed rule s t changed
unfolding Within Closed Monotone
passed-added rule f mono {s} {t} b there back a = record {
  len = a.len;
  bits = a.bits b;
  grows = a.old;
  sound = λ u n c w m e. ⊎_elim (w m) (λ h. c m (omega (arith, has_in t m e, a.len, n)) (mono s u (sym n) w m (there m h))) (a.only m e);
  fewer = a.fewer;
  still = λ e. (a.same e, λ m l h. subst (λ (x : List ℕ). has x m ≡ true) (a.same e) (a.all m l (back m l h)));
  falls = a.falls;
}

-- nothing is added to a closed set
pub passed-closed : (rule : List ℕ → ℕ → Bool) (s : List ℕ) → Bits s → Closed rule s → Passed rule s s false
unfolding Within
passed-closed rule s b c = record {
  len = refl;
  bits = b;
  grows = λ m e. e;
  sound = λ u n d w. w;
  fewer = omega arith;
  still = λ e. (refl, c);
  falls = λ e. absurd (false≢true e);
}

-- two rules together
abbrev pub join : (List ℕ → ℕ → Bool) → (List ℕ → ℕ → Bool) → List ℕ → ℕ → Bool
join a b s m = a s m || b s m

-- a pass of one rule, then a pass of another: a pass of the two together
pub pass-then : (a b : List ℕ → ℕ → Bool) {s t u : List ℕ} {x y : Bool} → Passed a s t x → Passed b t u y → Passed (join a b) s u (x || y)
unfolding Within Closed
pass-then a b {s} {t} {u} {x} {y} f g = record {
  len = g.len ∙ f.len;
  bits = g.bits;
  grows = λ i e. g.grows i (f.grows i e);
  sound = λ v n c w.
      g.sound v (n ∙ sym f.len) (λ i l e. c i l (or_right (a v i) (b v i) e))
      (f.sound v n (λ i l e. c i l (or_left (a v i) (b v i) e)) w);
  fewer = omega (arith, f.fewer, g.fewer);
  still = λ e.
      let h = neither x y e in
      let p = f.still h.0 in
      let q = g.still h.1 in
      (q.0 ∙ p.0, λ i l r. ⊎_elim (p.1 i l) (subst (Closed b) p.0 q.1 i l) (or_parts (a s i) (b s i) r));
  falls = λ e. ⊎_elim (λ h. omega (arith, f.falls h, g.fewer)) (λ h. omega (arith, g.falls h, f.fewer)) (or_parts x y e);
}
  where
    neither : (x y : Bool) → (x || y) ≡ false → (x ≡ false) × (y ≡ false)
    neither true y e = absurd (true≢false e)
    neither false y e = (refl, e)

-- passes until one changes nothing: from s to t, `more` as the last pass said
module _ (rule : List ℕ → ℕ → Bool) where
  pub record Spread (s t : List ℕ) (more : Bool) : Type 0 where
    pub len : length t ≡ length s
    pub bits : Bits t
    pub grows : Within s t
    pub sound : (u : List ℕ) → length u ≡ length s → Closed rule u → Within s u → Within t u
    pub ended : more ≡ false → Closed rule t

  pub spread-start : (s : List ℕ) → Bits s → Spread s s true
  unfolding Within
  spread-start s b = record { len = refl; bits = b; grows = λ i e. e; sound = λ u n c w. w; ended = λ e. absurd (true≢false e) }

  pub spread-step : {s t v : List ℕ} {more changed : Bool} → Spread s t more → Passed rule t v changed → Spread s v changed
  unfolding Within
  spread-step g p = record {
    len = p.len ∙ g.len;
    bits = p.bits;
    grows = λ i e. p.grows i (g.grows i e);
    sound = λ u m c w. p.sound u (m ∙ sym g.len) c (g.sound u m c w);
    ended = λ e. subst (Closed rule) (sym (p.still e).0) (p.still e).1;
  }

  -- the measure of the loop: the marks that are 0, and one more while a pass is due
  pub spread-falls : {t v : List ℕ} {changed : Bool} → Passed rule t v changed → zeros v + bit changed < zeros t + 1
  spread-falls {t} {v} {changed} p = go changed refl
    where
      go : (b : Bool) → changed ≡ b → zeros v + bit b < zeros t + 1
      go true e = omega (arith, p.falls e)
      go false e = omega (arith, ap zeros (p.still e).0)

  pub spread_end : Monotone rule → {s t : List ℕ} → Bits s → Spread s t false → t ≡ close rule s
  spread_end mono {s} {t} b g = close-unique rule mono s t g.len b g.bits g.grows (g.ended refl) g.sound

-- the four rules
module _ (orders : List (List ℕ)) (labels : List ℕ) (p : Project) where
  -- a pass of each rule in turn is a pass of the four
  pub pass-rules : {s t u v w : List ℕ} {a b c d : Bool}
      → Passed (asks orders labels p suffix_rule) s t a → Passed (asks orders labels p component_rule) t u b
      → Passed (asks orders labels p import_rule) u v c → Passed (asks orders labels p read_rule) v w d
      → Passed (asked orders labels p) s w (a || (b || (c || d)))
  unfolding asked
  pass-rules f g h k =
      pass-then (asks orders labels p suffix_rule) (join (asks orders labels p component_rule) (join (asks orders labels p import_rule) (asks orders labels p read_rule))) f
      (pass-then (asks orders labels p component_rule) (join (asks orders labels p import_rule) (asks orders labels p read_rule)) g
      (pass-then (asks orders labels p import_rule) (asks orders labels p read_rule) h k))
