use Rattle.std.proofs.Common.{◌≡◌, drop, ◌++◌, Some, sym, ◌∙◌}
use Rattle.std.proofs.lemmas.List.{take_rest}
use Rattle.std.proofs.lemmas.Bool.Decides.{Decides-eqb}
use Rattle.std.proofs.lemmas.Slice.Eq.{strip_prefix_is}
use Rattle.text_rows.proofs.Line.{line-differs, line-short, line-unended, line-met}
use Rattle.text_rows.proofs.inner.match_line.Goals as goal

pub returns-in_err-rest : goal.returns-in_err-rest
returns-in_err-rest c = rw c.from_residual.ensures (line-differs c.args.s.now c.args.at c.args.name.now c.in_err-rest.ensures.cases)

pub returns-in_err-first : goal.returns-in_err-first
returns-in_err-first c =
    let a = c.args in
    let x = c.in_ok-rest.rest in
    let m : drop a.at a.s.now ≡ a.name.now ++ x.now = sym (take_rest a.s.now a.at) ∙ strip_prefix_is Decides-eqb _ a.name.now (Some x) c.in_ok-rest.ensures.cases in
    rw c.from_residual-in_err-first.ensures (line-short a.s.now a.at a.name.now x.now m c.in_err-first.ensures.item.3)

pub returns-then-branch-ne10 : goal.returns-then-branch-ne10
returns-then-branch-ne10 c =
    let a = c.args in
    let x = c.in_ok-rest.rest in
    let m : drop a.at a.s.now ≡ a.name.now ++ x.now = sym (take_rest a.s.now a.at) ∙ strip_prefix_is Decides-eqb _ a.name.now (Some x) c.in_ok-rest.ensures.cases in
    line-unended a.s.now a.at a.name.now x.now m (λ q. c.if-branch-ne10.true (c.in_ok-first.ensures.item.3.1 0 ∙ q))

pub returns : goal.returns
returns c =
    let a = c.args in
    let x = c.in_ok-rest.rest in
    let m : drop a.at a.s.now ≡ a.name.now ++ x.now = sym (take_rest a.s.now a.at) ∙ strip_prefix_is Decides-eqb _ a.name.now (Some x) c.in_ok-rest.ensures.cases in
    let f = c.in_ok-first.ensures.item.3 in
    line-met a.s.now a.at a.name.now x.now m f.0 (sym (f.1 0) ∙ c.if-branch-ne10.false)
