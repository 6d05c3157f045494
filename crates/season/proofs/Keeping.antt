-- A byte of the input keeps the totals sound, and so does its end.
-- Assumes nothing.
use Rattle.tables.specs.declared.Refusal.TheVariants.{PastSeason}
use Rattle.std.specs.Prelude.{◌≡◌, ℕ, suc, ◌+◌, ◌-◌, Bool, true, false, cond, ◌||◌, eqb, ltb, Option, None, Some, Result, Err}
use mathlib.Core.Path.{refl, sym, subst}
use mathlib.Core.Logic.{⊎_elim}
use native.Mathlib.Omega.{arith}
use borrow.Author.Tests.{eqb-false}
use Rattle.lists.proofs.Laws.{both}
use Rattle.file_names.specs.declared.Names.{Names}
use Rattle.file_names.specs.Steps.{begun, turn_of_line, turn_at, names_after, finished}
use Rattle.tables.specs.declared.Refusal.{Refusal}
use Rattle.share_totals.specs.declared.Share.{Share}
use Rattle.share_totals.specs.Sums.{Totals, none, added}
use Rattle.share_totals.specs.Within.{Fits, Within}
use Rattle.share_totals.proofs.Sums.{within_more, within_none, within-as}
use Rattle.season.specs.Sound.{Sound, Room, Acted}

pub sound_none : Sound begun none
sound_none = record { left = omega arith; totals = within_none }

room-any : (turn : Option (Result ℕ Refusal)) (t : Totals) → Within 10000 t → Room turn t
room-any None t w = tt
room-any (Some turn) t w = w

-- an outcome is added
abbrev Adding : Totals → Totals → Type 0
Adding t r = (o : Result Share Refusal) × Fits o × (r ≡ added t o)

module _ (n : Names) (t : Totals) (s : Sound n t) where
  open-totals : n.over ≡ false → Within (10000 - n.left) t
  open-totals e = subst (λ (x : Bool). Within (cond x 10001 (10000 - n.left)) t) e s.totals

  open-room : n.over ≡ false → Within 10000 t
  open-room e = within-as (10000 - n.left) 10000 t (omega arith) (open-totals e)

  open_more : n.over ≡ false → (r : Totals) → Adding t r → Within (suc (10000 - n.left)) r
  open_more e r a = subst (Within (suc (10000 - n.left))) (sym a.2) (within_more (10000 - n.left) t a.0 (open-totals e) a.1)

  pub byte-room : (b : ℕ) → Room (turn_at n b) t
  unfolding turn_at
  byte-room b = ⊎_elim (λ e. rw e tt) (λ e. room-any (turn_at n b) t (open-room e)) (both n.over)

  pub byte-sound : (b : ℕ) (r : Totals) → Acted (turn_at n b) t r → Sound (names_after n b) r
  unfolding turn_at names_after
  byte-sound b r a = by n.over (eqb n.left 0) (eqb b 10) refl refl a
    where
      by : (o z l : Bool) → n.over ≡ o → eqb n.left 0 ≡ z → Acted (cond o None (cond z (Some (Err PastSeason)) (cond l (Some (turn_of_line n)) None))) t r
          → Sound (cond o n (cond z (record { left = 0; length = 0; zero = false; over = true }) (cond l (record { left = n.left - 1; length = 0; zero = false; over = false }) (record { left = n.left; length = cond (ltb 255 n.length) n.length (n.length + 1); zero = n.zero || eqb b 0; over = false })))) r
      by true z l e f h = subst (Sound n) (sym h) s
      by false true l e f h = record { left = omega arith; totals = subst (Within 10001) (sym h.2) (within_more 10000 t h.0 (open-room e) h.1) }
      by false false true e f h =
          let some = eqb-false n.left 0 f in
          record { left = omega (arith, s.left); totals = subst (λ (k : ℕ). Within k r) (omega (arith, s.left, some)) (open_more e r h) }
      by false false false e f h = record { left = s.left; totals = subst (Within (10000 - n.left)) (sym h) (open-totals e) }

  pub end-room : n.over ≡ false → Room (finished n) t
  end-room e = room-any (finished n) t (open-room e)
