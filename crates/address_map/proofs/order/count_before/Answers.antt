use Rattle.std.proofs.Common.{ℕ, List, ltb, rules}
use Rattle.std.specs.List.Sorted.{IsPartitionedBy}
use Rattle.std.proofs.lemmas.List.Sorted.{IsPartitionedBy-ltb, IsPartitionPoint-from_clause}
use Rattle.address_map.proofs.SlotOrder.{rises-order, with_place-insert}
use Rattle.address_map.proofs.order.count_before.Goals as goal

pub returns-clause-place : goal.returns-clause-place
returns-clause-place c rise =
    let places : List ℕ = c.args.places.now in
    let parted : IsPartitionedBy (λ y. ltb y c.args.place) places = IsPartitionedBy-ltb (λ y. y) places c.args.place (rises-order 0 places rise) in
    let point = IsPartitionPoint-from_clause (λ y. ltb y c.args.place) places _ c.partition_point.ensures.partitioned parted (λ a r f h. search rules) in
    with_place-insert c.args.place places _ c.partition_point.ensures.bound point
