-- `risk_of_orders::inner::add_order_risk` meets its contract: what the three passes put at risk is the order risk.
-- Assumes nothing.
use Rattle.std.proofs.Common.{◌≡◌, ℕ, zero, suc, List, ◌∷◌, length, take, replicate, refl, ap, subst, ◌∙◌}
use lib.Seq.{length-take-le}
use Rattle.lists.specs.Words.{keep, has}
use Rattle.tables.specs.Refusal.{module_limit}
use Rattle.risk_of_orders.specs.inner.Steps.{join, listed, Ranked, ModuleColumns}
use Rattle.risk_of_orders.proofs.OrderRisk.{passed-risk}
use Rattle.risk_of_orders.proofs.inner.add_order_risk.Goals as goal

-- the front of an array of one value
take-replicate : (n k x : ℕ) → take n (replicate k x) ≡ replicate (length (take n (replicate k x))) x
take-replicate zero k x = refl
take-replicate (suc n) zero x = refl
take-replicate (suc n) (suc k) x = ap (λ (l : List ℕ). x ∷ l) (take-replicate n k x)

pub place_sensitive-requires-clause-zeroed : goal.place_sensitive-requires-clause-zeroed
place_sensitive-requires-clause-zeroed c = take-replicate (length c.args.out.now) module_limit 0

pub returns : goal.returns
returns c =
    let a = c.args in
    let n = length a.out.now in
    let room : List ℕ = replicate module_limit 0 in
    let places = c.place_sensitive.new.places in
    let wanted = c.mark_listed.new.marks in
    let part : length (take n room) ≡ n = length-take-le n room c.requires.few in
    let ranked = subst (λ (s : ModuleColumns). Ranked (keep (has s.sensitive) a.actual.now) places) c.columns.view_is c.place_sensitive.ensures in
    let marked = subst (λ (s : ModuleColumns). wanted ≡ join (take n room) (listed a.expected.now s.sensitive)) c.columns.view_is c.mark_listed.ensures in
    passed-risk a.columns.now.sensitive a.columns.now.eligible a.expected.now a.actual.now a.columns.now.hosts n places wanted c.requires.orders.0.members c.requires.orders.1.members (c.place_sensitive.auto.places ∙ part) ranked
    (marked ∙ ap (λ (z : List ℕ). join z (listed a.expected.now a.columns.now.sensitive)) (take-replicate n module_limit 0 ∙ ap (λ (j : ℕ). replicate j 0) part))
    a.out.now c.flag_unmet.new.out c.flag_unmet-2.new.out c.flag_overtaken.new.out c.flag_unmet.ensures c.flag_unmet-2.ensures c.flag_overtaken.ensures
