-- `name_order::inner::long_before`: past what both begin with, the lines go as they do whole.
-- Assumes nothing.
use Rattle.std.proofs.Common.{◌≡◌, ℕ, ◌-◌, List, length, take, drop, ap, ◌∙◌, arith}
use lib.ListN.{length-drop}
use lib.Seq.{take_all}
use Rattle.name_order.specs.Sooner.{sooner}
use Rattle.name_order.specs.inner.Lines.{first_line}
use Rattle.name_order.proofs.inner.long_before.Goals as goal

pub returns : goal.returns
returns c =
    let s = c.args.text.now in
    let t = c.args.other.now in
    let n = c.same_length-same.result in
    let whole : (u : List ℕ) → first_line (take (length u - n) (drop n u)) ≡ first_line (drop n u) = λ u. ap first_line (take_all (length u - n) (drop n u) (omega (arith, length-drop n u))) in
    c.line_before.ensures
    ∙ ap (λ (l : List ℕ). sooner l (first_line (take (length t - n) (drop n t)))) (whole s)
    ∙ ap (sooner (first_line (drop n s))) (whole t)
    ∙ c.same_length-same.ensures.left
