use Rattle.std.proofs.Common.{sym, rules}
use Rattle.std.proofs.lemmas.List.Sorted.{IsPartitionPoint-from_clause}
use Rattle.field_model.specs.Gathered.{is_up_to}
use Rattle.field_walk.proofs.OrderLemmas.{up_to_parts}
use Rattle.field_walk.proofs.PartLemmas.{front_passes}
use Rattle.field_walk.proofs.spots.count_up_to.Goals as goal

pub returns : goal.returns
returns c = λ r.
    let point = IsPartitionPoint-from_clause (λ spot. is_up_to spot c.args.here) c.args.spots.now c.partition_point.result c.partition_point.ensures.partitioned (up_to_parts c.args.spots.now c.args.here r) (λ a r f k. search rules) in
    sym (front_passes (λ spot. is_up_to spot c.args.here) c.args.spots.now c.partition_point.result c.partition_point.ensures.bound point.0 point.1).0
