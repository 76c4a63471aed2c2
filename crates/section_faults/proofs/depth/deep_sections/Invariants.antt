use Rattle.std.proofs.Common.{◌≡◌, List, map, take, nat_eq}
use Rattle.indexmap.specs.IndexMap.{get}
use Rattle.load_model.specs.Met.{Met, sections_met}
use Rattle.met_read.specs.Read.{met_of, outlined}
use Rattle.section_faults.specs.Rooms.{Follows}
use Rattle.section_faults.proofs.depth.deep_sections.Given as goal

abbrev pub invariant-met : goal.invariant-met
invariant-met l = (all : List Met) → map met_of l.met ≡ map outlined all → Follows l.kept.sections (get nat_eq l.rooms) l.places.items (sections_met (take l.one-index all))
