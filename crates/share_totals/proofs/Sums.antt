-- Totals by one step a project are the sums over the projects, and no sum overflows.
-- Assumes nothing.
use Rattle.std.specs.Prelude.{◌≡◌, ℕ, suc, ◌+◌, ◌≤◌, List, [], ◌∷◌, length, Result, Ok, Err}
use mathlib.Core.Path.{refl, ◌∙◌}
use mathlib.Core.List.{foldl, Memᴰ}
use native.Mathlib.Omega.{arith}
use Rattle.tables.specs.declared.Refusal.{Refusal}
use Rattle.share_totals.specs.declared.Share.{Share}
use Rattle.share_totals.specs.Sums.{Totals, eligible_in, planned_in, refused_in, sum, none, added, totals_of}
use Rattle.share_totals.specs.Within.{Fits, Within, StepsGiveTheSums, SumsFit}

-- a project more
pub within_more : (n : ℕ) (t : Totals) (o : Result Share Refusal) → Within n t → Fits o → Within (suc n) (added t o)
unfolding added
within_more n t (Ok s) w f = record { eligible = omega (arith, w.eligible, f.1); planned = omega (arith, w.planned, f.0); refused = omega (arith, w.refused) }
within_more n t (Err r) w f = record { eligible = omega (arith, w.eligible); planned = w.planned; refused = omega (arith, w.refused) }

pub within_none : Within 0 none
within_none = record { eligible = omega arith; planned = omega arith; refused = omega arith }

-- of fewer projects, of more
pub within-as : (m n : ℕ) (t : Totals) → m ≤ n → Within m t → Within n t
within-as m n t l w = record { eligible = omega (arith, w.eligible); planned = w.planned; refused = omega (arith, w.refused) }

-- the sums from some totals on
made : {a b c x y z : ℕ} → a ≡ x → b ≡ y → c ≡ z → ◌≡◌ {A = Totals} (record { eligible = a; planned = b; refused = c }) (record { eligible = x; planned = y; refused = z })
made e f g = cc

steps-from : (t : Totals) (os : List (Result Share Refusal)) → foldl added t os ≡ record { eligible = t.eligible + sum eligible_in os; planned = t.planned + sum planned_in os; refused = t.refused + sum refused_in os }
unfolding added
steps-from t [] = made (omega arith) (omega arith) (omega arith)
steps-from t (Ok s ∷ os) = steps-from (added t (Ok s)) os ∙ made (omega arith) (omega arith) (omega arith)
steps-from t (Err r ∷ os) = steps-from (added t (Err r)) os ∙ made (omega arith) (omega arith) (omega arith)

pub steps-give-the-sums : StepsGiveTheSums
unfolding StepsGiveTheSums totals_of
steps-give-the-sums os = steps-from none os ∙ made (omega arith) (omega arith) (omega arith)

-- the sums of so many projects
sums-within : (os : List (Result Share Refusal)) → ((o : Result Share Refusal) → Memᴰ o os → Fits o) → Within (length os) (totals_of os)
unfolding totals_of
sums-within [] f = within_none
sums-within (Ok s ∷ os) f =
    let w = sums-within os (λ o h. f o (Memᴰ.tail h)) in
    let g = f (Ok s) (Memᴰ.head refl) in
    record { eligible = omega (arith, w.eligible, g.1); planned = omega (arith, w.planned, g.0); refused = omega (arith, w.refused) }
sums-within (Err r ∷ os) f =
    let w = sums-within os (λ o h. f o (Memᴰ.tail h)) in
    record { eligible = omega (arith, w.eligible); planned = omega (arith, w.planned); refused = omega (arith, w.refused) }

pub sums-fit : SumsFit
unfolding SumsFit
sums-fit os l f =
    let w = sums-within os f in
    record { eligible = omega (arith, w.eligible); planned = w.planned; refused = omega (arith, w.refused); product = omega (arith, w.eligible, w.planned) }
