-- `name_order::inner::same_length`: the next runs are the same, so both lines go on behind them.
-- Assumes nothing.
use Rattle.std.proofs.Common.{◌≡◌, ℕ, ◌*◌, ◌<◌, ◌/◌, true, List, [], ◌∷◌, length, get_or, take, drop, refl, sym, ap, ◌∙◌, arith, rules}
use Rattle.std.specs.Prelude.{Some}
use lib.ListN.{length-append}
use Rattle.std.proofs.lemmas.Slice.Zip.{zip_turn}
use Rattle.name_order.proofs.Runs.{run-at, past-run}
use Rattle.name_order.proofs.inner.same_length.Goals as goal

pub loop-x-preserved : goal.loop-x-preserved
loop-x-preserved c =
    let s = c.args.text.now in
    let t = c.args.other.now in
    let l = c.loop-x in
    let k = length l.yielded in
    let turn =
    zip_turn c.as_chunks.result.0.now c.as_chunks-2.result.0.now l.yielded c.into_iter-x-iterator.result l.x-iterator c.next.new.self (Some (c.in-Some.x, c.in-Some.y)) (cc) (cc) l.yielded_by (c.in-Some.x, c.in-Some.y) refl
    c.in-Some.ensures.steps
    in
    let more = length-append l.yielded ((c.in-Some.x, c.in-Some.y) ∷ []) in
    let in_text : k < length s / 8 = omega (arith, turn.0, c.as_chunks.ensures.front_len) in
    let in_other : k < length t / 8 = omega (arith, turn.1, c.as_chunks-2.ensures.front_len) in
    let at : k * 8 ≡ l.same = sym l.invariant.runs in
    let x : c.in-Some.x.now ≡ take 8 (drop l.same s) =
    turn.2 [] ∙ ap (λ (runs : List (List ℕ)). get_or runs k []) c.as_chunks.ensures.front ∙ run-at 8 (length s / 8) k s in_text ∙ ap (λ (i : ℕ). take 8 (drop i s)) at
    in
    let y : c.in-Some.y.now ≡ take 8 (drop l.same t) =
    turn.3 [] ∙ ap (λ (runs : List (List ℕ)). get_or runs k []) c.as_chunks-2.ensures.front ∙ run-at 8 (length t / 8) k t in_other ∙ ap (λ (i : ℕ). take 8 (drop i t)) at
    in
    let yes : c.same_run.result ≡ true = search rules in
    record {
      runs = omega (arith, l.invariant.runs, more);
      within = (omega (arith, l.invariant.runs, in_text), omega (arith, l.invariant.runs, in_other));
      left = past-run 8 l.same s t c.in-Some.x.now c.in-Some.y.now c.same_run.result c.same_run.ensures yes x y ∙ l.invariant.left;
    }
