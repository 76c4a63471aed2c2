use Rattle.std.proofs.Common.{◌∙◌, ◌++◌, ℕ, cond, ap, nat_eq, Some}
use Rattle.std.proofs.lemmas.Result.{on_ok_weaker}
use Rattle.indexmap.specs.IndexMap.{get}
use Rattle.load_model.specs.Met.{MetSection, is_at}
use Rattle.load_model.specs.Offences.{place_if}
use Rattle.section_faults.proofs.RoomLemmas.{follows_more}
use Rattle.section_faults.proofs.depth.add_section.Goals as goal

pub returns : goal.returns
returns c =
    let kept = c.args.kept.now.sections in
    let old = get nat_eq c.args.rooms.now in
    let places = c.args.places.now.items in
    on_ok_weaker c.set_room.result (λ put before this alike follows.
    let place = ap (λ (section : MetSection). section.place) alike in
    follows_more kept old (get nat_eq c.set_room.new.rooms) before this places c.push_if.new.places.items c.args.section.within c.keeps_section-is_kept.result c.is_deep.result c.room_around-room.result c.room_inside.result
    (ap (λ (section : MetSection). section.around) alike)
    (c.keeps_section-is_kept.ensures ∙ ap (is_at kept) place)
    c.room_around-room.ensures
    c.is_deep.ensures
    c.room_inside.ensures
    (c.in_ok-push_if.ensures ∙ ap (λ (at : ℕ). places ++ place_if c.is_deep.result at) place)
    (λ other. put other ∙ ap (λ (at : ℕ). cond (nat_eq at other) (Some c.room_inside.result) (old other)) place)
    follows)
    c.set_room.ensures
