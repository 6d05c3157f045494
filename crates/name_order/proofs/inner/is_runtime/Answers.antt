-- `name_order::inner::is_runtime`: by the first byte of the name.
-- Assumes nothing.
use Rattle.std.proofs.Common.{sym, ap, ◌∙◌}
use Rattle.names.specs.Names.{start_byte}
use Rattle.name_order.proofs.LinesAt.{runtime-stop, runtime-folder, runtime-prefix}
use Rattle.name_order.proofs.inner.is_runtime.Goals as goal

pub returns-then-b-eq10 : goal.returns-then-b-eq10
returns-then-b-eq10 c = runtime-stop c.args.names.now c.args.at (sym c.byte_at-b.ensures ∙ c.if-b-eq10.true)

pub returns-then-turn-eq0 : goal.returns-then-turn-eq0
returns-then-turn-eq0 c =
    c.line_begins.ensures
    ∙ runtime-folder c.args.names.now c.args.at (λ e. c.if-b-eq10.false (c.byte_at-b.ensures ∙ e)) (ap start_byte (sym c.byte_at-b.ensures) ∙ sym c.turn.ensures ∙ c.if-turn-eq0.true)

pub returns : goal.returns
returns c =
    c.line_begins-2.ensures
    ∙ runtime-prefix c.args.names.now c.args.at (λ e. c.if-b-eq10.false (c.byte_at-b.ensures ∙ e)) (λ e. c.if-turn-eq0.false (c.turn.ensures ∙ ap start_byte c.byte_at-b.ensures ∙ e))
