use Rattle.std.proofs.Common.{rules, refl}
use Rattle.std.proofs.lemmas.List.Sorted.{IsPartitionPoint-from_clause}
use Rattle.field_model.specs.Gathered.{is_before}
use Rattle.field_walk.proofs.OrderLemmas.{before_parts}
use Rattle.field_walk.proofs.PartLemmas.{front_passes, last_front}
use Rattle.field_walk.proofs.spots.last_before.Goals as goal

pub returns-then-count-eq0 : goal.returns-then-count-eq0
returns-then-count-eq0 c = λ r.
    let point = IsPartitionPoint-from_clause (λ set. is_before set.spot c.args.here) c.args.settings.now c.partition_point-count.result c.partition_point-count.ensures.partitioned (before_parts c.args.settings.now c.args.here r) (λ a r f k. search rules) in
    let front = (front_passes (λ set. is_before set.spot c.args.here) c.args.settings.now c.partition_point-count.result c.partition_point-count.ensures.bound point.0 point.1).1 in
    rw (front, c.if-count-eq0.true) refl

pub returns : goal.returns
returns c = λ r.
    let point = IsPartitionPoint-from_clause (λ set. is_before set.spot c.args.here) c.args.settings.now c.partition_point-count.result c.partition_point-count.ensures.partitioned (before_parts c.args.settings.now c.args.here r) (λ a r f k. search rules) in
    let front = (front_passes (λ set. is_before set.spot c.args.here) c.args.settings.now c.partition_point-count.result c.partition_point-count.ensures.bound point.0 point.1).1 in
    rw (front, last_front c.args.settings.now c.partition_point-count.result c.if-count-eq0.false c.partition_point-count.ensures.bound) (search rules)
