-- The rows below x are those before the partition point.
use Rattle.std.proofs.Common.{◌≡◌, ℕ, ◌≤◌, true, false, ltb, List, length, arith, rules, ltb-true, ltb-false}
use Rattle.std.specs.List.Sorted.{IsPartitionPoint}
use Rattle.std.proofs.lemmas.List.Sorted.{IsPartitionPoint-from_clause}
use Rattle.tables.specs.Lookups.{FirstRow}
use Rattle.tables.proofs.Rise.{rising-parted}
use Rattle.tables.proofs.inner.first_row.Goals as goal

first-is : (xs : List ℕ) (x r : ℕ) → r ≤ length xs → IsPartitionPoint (λ y. ltb y x ≡ true) (λ y. ltb y x ≡ false) xs r → FirstRow xs x r
first-is xs x r l p = record { within = l; below = λ i h. ltb-true _ x (p.0 i 0 (omega arith) h); above = λ i a b. ltb-false _ x (p.1 i 0 a b) }

pub returns : goal.returns
returns c =
    first-is _ _ _ c.partition_point.ensures.bound
    (IsPartitionPoint-from_clause (λ y. ltb y c.args.x) _ _ c.partition_point.ensures.partitioned (rising-parted _ _ c.requires) (λ a r q k. search rules))
