-- The statements of specs/CheckToldApart, inhabited.
-- Assumes nothing.
use mathlib.Core.Path.{◌≡◌, refl, sym, ap, ◌∙◌}
use Rattle.std.specs.Prelude.{Option, None, Some, Ok, Err}
use mathlib.Core.Logic.{◌⊎◌, inl, inr, ⊎_elim}
use mathlib.Core.Bool.{Bool, true, false, cond}
use mathlib.Core.List.{List, [], ◌∷◌, map}
use Prim.Native.Nat.{ℕ, suc, ◌≤◌, ◌<◌}
use native.Mathlib.Omega.{arith}
use lib.ListN.{length, length-append}
use lib.Dec.{eqb}
use Rattle.tables.specs.Project.{Project, missing}
use Rattle.tables.specs.Readings.{modules}
use Rattle.tables.specs.Accepted.{Accepted}
use Rattle.tables.specs.Answers.{number, answer}
use Rattle.tables.specs.declared.Refusal.{Refusal}
use Rattle.tables.specs.declared.Refusal.TheVariants.{ListSize, ColumnValue, RowOrder, RowConflict, Argument, ShortSlice, Text, ShortForCircles, PlanForm, NewerRow, PastSeason}
use Rattle.table.specs.Table.{Lent, lent, table}
use Rattle.table.proofs.Laws.{lent-current}
use Rattle.seeds.specs.Seeds.{seeds_fit}
use Rattle.plan_conditions.specs.declared.Judgement.{Judgement}
use Rattle.plan_conditions.specs.declared.Judgement.TheVariants as judgements
use Rattle.plan_conditions.specs.Form.{plan_fits}
use Rattle.plan_conditions.specs.Conditions.{Condition, conditions, broken, lowest, first_broken, judged}
use Rattle.plan_conditions.proofs.Lowest.{lowest-found}
use Rattle.plan_conditions.proofs.Judging.{Named, broken-named}
use Rattle.plan_check.specs.Promise.{form_verdict, judgement}
use Rattle.answer_codes.specs.Exported.{coded_judgement}
use Rattle.answer_codes.specs.CheckToldApart.{BrokenCode, ToldBy, JudgementsAreToldApart, OneCodeOneJudgement}
use Rattle.answer_codes.proofs.ToldApart.{Known, least, number-known}

-- the first broken condition is named, or there is none

record Names (j : Judgement) : Type 0 where
  condition : ℕ
  named : ℕ
  is : j ≡ judgements.Broken condition named

names-or-not : (i : ℕ) (ms : List (Option ℕ)) → (first_broken i ms ≡ judgements.Accepted) ⊎ Names (first_broken i ms)
names-or-not i [] = inl refl
names-or-not i (None ∷ ms) = names-or-not (suc i) ms
names-or-not i (Some m ∷ ms) = inr (record { condition = i; named = m; is = refl })

-- its number is 1 to 6, and its module is one of the project's
module _ (p : Project) (seeds plan : List ℕ) where
  abbrev first : Condition → Option ℕ
  first c = lowest (broken p seeds plan c) (modules p)

  placed : (i m : ℕ) → Named first 1 conditions i m → (1 ≤ i) × ((i ≤ 6) × (m < modules p))
  placed i m n =
      (omega (arith, n.numbered), (omega (arith, n.numbered, ap length n.place, length-append n.before (n.condition ∷ n.rest)), (lowest-found (broken p seeds plan n.condition) (modules p) m n.module').inside))

  told-judged : (r : ℕ) → Accepted p → r ≡ coded_judgement (Ok (judged p seeds plan)) → ToldBy (Ok (judged p seeds plan)) r
  unfolding judged
  told-judged r ok e = ⊎_elim (λ a. inl (record { accepted = ap Ok a; code = e ∙ ap (λ (j : Judgement). coded_judgement (Ok j)) a })) (λ n. inr (inl (named n))) (names-or-not 1 (map first conditions))
    where
      named : Names (first_broken 1 (map first conditions)) → BrokenCode (Ok (judged p seeds plan)) r
      named n =
          let w = placed n.condition n.named (broken-named first 1 conditions n.condition n.named n.is) in
          record { condition = n.condition; named = n.named; broken = ap Ok n.is; code = e ∙ ap (λ (j : Judgement). coded_judgement (Ok j)) n.is; least = w.0; most = w.1.0; inside = omega (arith, w.1.1, ok.sizes.normal) }

-- by what refuses the project, the fit of the seeds and the form of the plan
told-by : (v : Option Refusal) (fits formed : Bool) (j : Judgement) (r : ℕ) → Known v → (v ≡ None → r ≡ coded_judgement (Ok j) → ToldBy (Ok j) r)
    → r ≡ coded_judgement (answer (form_verdict v fits formed) j) → ToldBy (answer (form_verdict v fits formed) j) r
told-by None true true j r known h e = h refl e
told-by None true false j r known h e = inr (inr (record { why = PlanForm; refused = refl; code = e; least = omega arith; known = inr (inl refl) }))
told-by None false formed j r known h e = inr (inr (record { why = Argument; refused = refl; code = e; least = omega arith; known = inl (omega arith) }))
told-by (Some x) fits formed j r known h e = inr (inr (record { why = x; refused = refl; code = e; least = least x; known = ⊎_elim (λ l. inl (omega arith)) (λ q. inr (inr q)) known }))

pub judgements-are-told-apart : JudgementsAreToldApart
unfolding JudgementsAreToldApart judgement
judgements-are-told-apart runtime dynamic bounds columns names seeds plan r e =
    let t : Lent = lent runtime dynamic bounds columns names in
    told-by t.refused (seeds_fit (modules t.project) seeds) (plan_fits (modules t.project) plan) (judged t.project seeds plan) r (number-known runtime dynamic bounds columns names)
    (λ z. told-judged t.project seeds plan r (lent-current bounds columns names (table runtime dynamic bounds columns) z)) e

-- one number is of one refusal

refusal_of : ℕ → Refusal
refusal_of n =
    cond (eqb n 1) ListSize (cond (eqb n 2) ColumnValue (cond (eqb n 3) RowOrder (cond (eqb n 4) RowConflict (cond (eqb n 5) Argument (cond (eqb n 6) ShortSlice (cond (eqb n 7) Text (cond (eqb n 8) ShortForCircles (cond (eqb n 9) PlanForm (cond (eqb n 10) NewerRow PastSeason)))))))))

back : (x : Refusal) → refusal_of (number x) ≡ x
unfolding refusal_of
back ListSize = refl
back ColumnValue = refl
back RowOrder = refl
back RowConflict = refl
back Argument = refl
back ShortSlice = refl
back Text = refl
back ShortForCircles = refl
back PlanForm = refl
back NewerRow = refl
back PastSeason = refl

one-number : {x y : Refusal} → number x ≡ number y → x ≡ y
one-number {x} {y} e = sym (back x) ∙ ap refusal_of e ∙ back y

-- one code is of one judgement
pub one-code-one-judgement : OneCodeOneJudgement
unfolding OneCodeOneJudgement
one-code-one-judgement j k r (inl a) (inl b) = a.accepted ∙ sym b.accepted
one-code-one-judgement j k r (inl a) (inr (inl b)) = absurd (omega (arith, a.code, b.code, b.least))
one-code-one-judgement j k r (inl a) (inr (inr b)) = absurd (omega (arith, a.code, b.code))
one-code-one-judgement j k r (inr (inl a)) (inl b) = absurd (omega (arith, a.code, b.code, a.least))
one-code-one-judgement j k r (inr (inl a)) (inr (inl b)) =
    let c : a.condition ≡ b.condition = omega (arith, a.code, b.code, a.inside, b.inside) in
    let m : a.named ≡ b.named = omega (arith, a.code, b.code, a.inside, b.inside) in
    a.broken ∙ (ap (λ (i : ℕ). Ok (judgements.Broken i a.named)) c ∙ (ap (λ (i : ℕ). Ok (judgements.Broken b.condition i)) m ∙ sym b.broken))
one-code-one-judgement j k r (inr (inl a)) (inr (inr b)) = absurd (omega (arith, a.code, b.code, a.most, a.inside))
one-code-one-judgement j k r (inr (inr a)) (inl b) = absurd (omega (arith, a.code, b.code))
one-code-one-judgement j k r (inr (inr a)) (inr (inl b)) = absurd (omega (arith, a.code, b.code, b.most, b.inside))
one-code-one-judgement j k r (inr (inr a)) (inr (inr b)) = let n : number a.why ≡ number b.why = omega (arith, a.code, b.code) in a.refused ∙ (ap Err (one-number n) ∙ sym b.refused)
