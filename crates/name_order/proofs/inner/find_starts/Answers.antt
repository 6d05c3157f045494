-- `name_order::inner::find_starts`: name by name, the lines from the place at hand on are those that are left.
-- Assumes nothing.
use Rattle.std.proofs.Common.{◌≡◌, ℕ, ◌+◌, ◌-◌, ◌<◌, length, slice_set, arith, subst, ◌∙◌}
use Rattle.name_order.specs.inner.Lines.{line_at}
use Rattle.name_order.proofs.LinesAt.{Finding, line-length, finding-within, finding-next}
use Rattle.name_order.proofs.inner.find_starts.Goals as goal

module _ (c : goal.After-line_length) where
  is_length : c.line_length.result ≡ length (line_at c.args.names.now c.loop-start.at)
  is_length = c.line_length.ensures ∙ line-length c.args.names.now c.loop-start.at (length c.args.names.now - c.loop-start.at) (omega arith)

  within : c.loop-start.at + c.line_length.result < length c.args.names.now
  within = omega (arith, is_length, finding-within c.args.names.now _ c.requires _ _ _ c.loop-start.invariant.found c.loop-start-test.true)

pub overflow_add-at : goal.overflow_add-at
overflow_add-at c = omega (arith, within c)

pub overflow_add-at-in-loop-start : goal.overflow_add-at-in-loop-start
overflow_add-at-in-loop-start c = omega (arith, within c)

pub loop-start-preserved : goal.loop-start-preserved
loop-start-preserved c =
    let s = c.args.names.now in
    let l = c.loop-start in
    let next : l.at + length (line_at s l.at) + 1 ≡ l.at + (c.line_length.result + 1) = omega (arith, is_length c) in
    record {
      found = subst (λ (k : ℕ). Finding s (slice_set l.start-items l.start-index l.at) (l.start-index + 1) k) next
          (finding-next s _ c.requires _ _ _ l.invariant.found c.loop-start-test.true l.auto.start-items);
      within = omega (arith, within c);
    }
