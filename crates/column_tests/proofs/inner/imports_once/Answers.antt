-- A turn by the stamps at hand.
use Rattle.std.proofs.Common.{◌≡◌, refl}
use Rattle.std.proofs.lemmas.Slice.Zip.{either_empty_from_Zip}
use borrow.Author.Tests.{eq-eqb, ne_eqb}
use Rattle.column_tests.proofs.Once.{stamped, stamp, run-turn, run-stop, run_end, imports-start, zip-cons, zip_end}
use Rattle.column_tests.proofs.inner.imports_once.Goals as goal

pub loop-chunk-init : goal.loop-chunk-init
loop-chunk-init c =
    let i = c.into_iter-chunk-iterator.result in
    let chunks : i.a.rest.now ≡ c.args.import_chunk.now = cc in
    let imports : i.b.rest.now ≡ c.args.imports.now = cc c.zip-chunk-items.ensures.second.0 in
    rw (chunks, imports) (imports-start 1024 c.args.import_chunk.now c.args.imports.now c.requires.rising c.requires.to)

pub returns-then-stamps-to : goal.returns-then-stamps-to
returns-then-stamps-to c =
    let s = c.in-Some.ensures.steps in
    run-stop stamped stamp _ _ _ _ (rw (zip-cons s.0 s.1) at c.loop-chunk.invariant) (eq-eqb _ _ c.if-stamps-to.true)

pub loop-chunk-preserved : goal.loop-chunk-preserved
loop-chunk-preserved c =
    let s = c.in-Some.ensures.steps in
    run-turn stamped stamp _ _ _ _ (rw (zip-cons s.0 s.1) at c.loop-chunk.invariant) (ne_eqb _ _ c.if-stamps-to.false)

pub returns : goal.returns
returns c =
    let e = either_empty_from_Zip c.loop-chunk.chunk-iterator c.next.new.self _ refl c.in-None.ensures.steps in
    run_end stamped stamp _ _ (rw (zip_end e) at c.loop-chunk.invariant)
