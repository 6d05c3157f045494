-- `as_read`: the entry stays one.
use Rattle.analysed_entries.proofs.AsRead.{entry_kept}
use Rattle.analysed_entries.proofs.inner.AnalysedEntry.as_read.Goals as goal

pub invariant_of-result : goal.invariant_of-result
invariant_of-result c = record { entry = entry_kept c.args.self.now.current.now c.args.current.now c.requires c.args.self.now.root c.args.self.now.entry }
