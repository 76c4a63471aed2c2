use Rattle.std.proofs.Common.{nat_eq}
use Rattle.indexmap.specs.IndexMap.{get}
use Rattle.section_faults.proofs.RoomLemmas.{next_follows, all_follow, deep_are}
use Rattle.section_faults.proofs.depth.deep_sections.Goals as goal

pub met-preserved : goal.met-preserved
met-preserved c =
    next_follows c.args.kept.now.sections (get nat_eq c.met.rooms) (get nat_eq c.add_met.new.rooms) c.met.places.items c.add_met.new.places.items c.args.met.now c.met.one-index _
    c.met-test.true c.in_ok-add_met.ensures c.met.invariant

pub returns : goal.returns
returns c = λ all alike same nested.
    deep_are c.args.kept.now.sections (get nat_eq c.met.rooms) c.met.places.items all same.sections nested
    (all_follow c.args.kept.now.sections (get nat_eq c.met.rooms) c.met.places.items c.args.met.now c.met.one-index c.met-test.false c.met.invariant all alike)
