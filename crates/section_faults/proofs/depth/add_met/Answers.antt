use Rattle.std.proofs.Common.{◌∙◌, ◌++◌, List, ap, sym, nat_eq, subst, append-nil}
use Rattle.std.proofs.lemmas.Result.{on_ok_weaker}
use Rattle.indexmap.specs.IndexMap.{get}
use Rattle.load_model.specs.Met.{MetSection}
use Rattle.met_read.specs.Read.{section_of}
use Rattle.section_faults.specs.Rooms.{Follows}
use Rattle.section_faults.specs.Sections.{section_in}
use Rattle.section_faults.proofs.RoomLemmas.{some_section, no_section}
use Rattle.section_faults.proofs.depth.add_met.Goals as goal

pub returns-in-Some : goal.returns-in-Some
returns-in-Some c =
    on_ok_weaker c.add_section.result (λ told before this alike follows.
    let found = some_section this (section_of c.in-Some.section) (c.in-Some.ensures ∙ ap section_in alike) in
    subst (λ (more : List MetSection). Follows c.args.kept.now.sections (get nat_eq c.add_section.new.rooms) c.add_section.new.places.items (before ++ more)) (sym found.2) (told before found.0 found.1 follows))
    c.add_section.ensures

pub returns-in-None : goal.returns-in-None
returns-in-None c = λ before this alike follows.
    subst (Follows c.args.kept.now.sections (get nat_eq c.args.rooms.now) c.args.places.now.items)
    (sym (append-nil before) ∙ ap (λ (more : List MetSection). before ++ more) (sym (no_section this (c.in-None.ensures ∙ ap section_in alike)))) follows
