use Rattle.std.proofs.Common.{ℕ, arith, refl}
use lib.ListN.{length-replicate}
use Rattle.listing.proofs.Projects.{refuse-off, refuse-unsettled, settled-end, refuse-broken, accept-climbs, accept-count, accept}
use Rattle.listing.proofs.read.Goals as goal

pub returns-in_default : goal.returns-in_default
returns-in_default c = refuse-off c.read_lists.ensures c.in_default.is c.args.settings.now c.args.bounds.now c.args.columns.now

pub returns-in_default-ends : goal.returns-in_default-ends
returns-in_default-ends c = refuse-unsettled c.read_lists.ensures c.in-Some.end c.in-Some.is refl (omega arith) c.args.settings.now c.args.bounds.now c.args.columns.now

pub overflow_sub-ends : goal.overflow_sub-ends
overflow_sub-ends c = settled-end c.read_lists.ensures c.in-Some.end c.in-Some.is refl (omega arith)

pub returns-in_default-find_names : goal.returns-in_default-find_names
returns-in_default-find_names c =
    refuse-broken c.read_lists.ensures c.in-Some.end c.in-Some.is refl (omega arith) c.find_names.ensures c.in_default-find_names.is c.args.settings.now c.args.bounds.now c.args.columns.now

pub spread-requires : goal.spread-requires
spread-requires c =
    (accept-climbs c.read_lists.ensures c.in-Some.end c.in-Some.is refl (omega arith) (length-replicate {A = ℕ} 32768 0) (omega arith)).0

pub overflow_sub-result : goal.overflow_sub-result
overflow_sub-result c = accept-count c.read_lists.ensures c.in-Some.end c.in-Some.is refl (omega arith) (length-replicate {A = ℕ} 32768 0) (omega arith)

pub returns : goal.returns
returns c =
    let a = c.args in
    let f = c.in-Some-find_names in
    accept c.read_lists.ensures c.in-Some.end c.in-Some.is refl (omega arith) (length-replicate {A = ℕ} 32768 0) (omega arith) f.from f.to c.find_names.ensures f.is
    a.settings.now c.settle.new.settings a.bounds.now c.spread.new.bounds a.columns.now c.spread.new.columns c.told-settings c.told-bounds c.told-columns
    c.settle.ensures c.spread.ensures.bounds_after c.spread.ensures.columns_after
