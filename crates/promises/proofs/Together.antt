-- Many entries walked together, proved.
-- Assumes nothing.
use Rattle.entries_order.proofs.Parts.{one_more, passed_over, one_entry, listed-once}
use Rattle.promises.specs.Together.{EntriesStandInParts}

pub entries_stand_in_parts : EntriesStandInParts
entries_stand_in_parts = record { one_more = one_more; passed_over = passed_over; one_entry = one_entry; once = listed-once }
