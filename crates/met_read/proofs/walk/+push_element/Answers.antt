use Rattle.std.proofs.Common.{◌++◌, ◌∷◌, [], true, List, Some, None, sym, ap, ◌∙◌, subst, inl, inr, take}
use Rattle.std.specs.Prelude.{chars, map, option_to_list}
use Rattle.std.specs.List.{flat_map}
use Rattle.std.proofs.lemmas.List.{take_all}
use Rattle.load_model.specs.declared.names.Key.TheVariants as key
use Rattle.load_model.specs.declared.names.Tag.TheVariants as tag
use Rattle.markup_nodes.specs.declared.nodes.Turn.{Turn}
use Rattle.load_model.specs.declared.element.Element.{Element, out-Element}
use Rattle.load_model.specs.Met as model
use Rattle.load_model.specs.Met.{Where, Met}
use Rattle.met_read.specs.declared.walk.Part.TheVariants as part
use Rattle.met_read.specs.Walk.{given_in, held, inside, name_in}
use Rattle.met_read.specs.Read.{met_of}
use Rattle.met_read.proofs.WalkLemmas.{NoneOf, alike, moved, more_none, more_is, same_more, inside_turns, first_is, first_isnt, note_here, section_here, blocks_out, entry_out, content_out, content_passed, name_is}
use Rattle.met_read.proofs.walk.+push_element.Goals as goal

pub push_block-returns-in-Paragraph : goal.push_block-returns-in-Paragraph
push_block-returns-in-Paragraph t c =
    let element = c.args.element.now in
    alike c.push_inside.result c.args.here c.args.met.now.items c.push_inside.new.met.items (inside part.Content element) (given_in part.Blocks element)
    (λ at h. (elim c.in-Paragraph.is [
      | inl is ↦ ap (λ which. model.in_blocks which (out-Element element).place (out-Element element).attributes (held element) at) (sym is)
      | inr is ↦ ap (λ which. model.in_blocks which (out-Element element).place (out-Element element).attributes (held element) at) (sym is)
    ]) ∙ sym (blocks_out element at))
    c.push_inside.ensures

pub push_block-returns-in-List : goal.push_block-returns-in-List
push_block-returns-in-List t c =
    let element = c.args.element.now in
    moved c.push_inside-in-List.result c.args.here c.in_a_list.result c.args.met.now.items c.args.met.now.items c.push_inside-in-List.new.met.items (λ at. []) (inside part.Entries element) (given_in part.Blocks element) (λ at. record at { in_list = true })
    (λ at h. more_none c.args.met.now.items)
    c.in_a_list.ensures
    (λ at h. ap (λ which. model.in_blocks which (out-Element element).place (out-Element element).attributes (held element) at) (sym c.in-List.is) ∙ sym (blocks_out element at))
    c.push_inside-in-List.ensures

pub push_block-returns-in-Section : goal.push_block-returns-in-Section
push_block-returns-in-Section t c =
    let element = c.args.element.now in
    alike c.push_section.result c.args.here c.args.met.now.items c.push_section.new.met.items
    (model.section_met (out-Element element).place (name_in key.TextName element) (held element)) (given_in part.Blocks element)
    (λ at h. ap (λ which. model.in_blocks which (out-Element element).place (out-Element element).attributes (held element) at) (sym c.in-Section.is) ∙ sym (blocks_out element at))
    c.push_section.ensures

pub push_block-returns-in-Index : goal.push_block-returns-in-Index
push_block-returns-in-Index t c =
    let element = c.args.element.now in
    alike c.push_inside-in-Index.result c.args.here c.args.met.now.items c.push_inside-in-Index.new.met.items (inside part.Blocks element) (given_in part.Blocks element)
    (λ at h. ap (λ which. model.in_blocks which (out-Element element).place (out-Element element).attributes (held element) at) (sym c.in-Index.is) ∙ sym (blocks_out element at))
    c.push_inside-in-Index.ensures

pub push_content-returns-in-Note : goal.push_content-returns-in-Note
push_content-returns-in-Note t c =
    let element = c.args.element.now in
    alike c.push_note.result c.args.here c.args.met.now.items c.push_note.new.met.items
    (model.note_met (out-Element element).place (name_in key.Id element) (held element)) (given_in part.Content element)
    (λ at h. ap (λ which. model.in_content which (out-Element element).place (out-Element element).attributes (held element) at) (sym c.in-Note.is) ∙ sym (content_out element at))
    c.push_note.ensures

pub push_content-returns-then-is_passed : goal.push_content-returns-then-is_passed
push_content-returns-then-is_passed t c =
    let element = c.args.element.now in
    let n = c.in_default in
    alike c.push_inside.result c.args.here c.args.met.now.items c.push_inside.new.met.items (inside part.Content element) (given_in part.Content element)
    (λ at h. content_passed (out-Element element).place (out-Element element).attributes (held element) at (out-Element element).tag
    n.not-Note n.not-Bookmark n.not-BookmarkStart n.not-BookmarkEnd n.not-Sequence n.not-VariableSet n.not-VariableGet (sym c.is_passed.ensures ∙ c.if-is_passed.true) ∙ sym (content_out element at))
    c.push_inside.ensures

pub push_entry-returns-in-ListItem : goal.push_entry-returns-in-ListItem
push_entry-returns-in-ListItem t c =
    let element = c.args.element.now in
    alike c.push_inside.result c.args.here c.args.met.now.items c.push_inside.new.met.items (inside part.Blocks element) (given_in part.Entries element)
    (λ at h. (elim c.in-ListItem.is [
      | inl is ↦ ap (λ which. model.in_list which (held element) at) (sym is)
      | inr is ↦ ap (λ which. model.in_list which (held element) at) (sym is)
    ]) ∙ sym (entry_out element at))
    c.push_inside.ensures

pub push_inside-returns : goal.push_inside-returns
push_inside-returns t c = λ at h.
    let element = c.args.element.now in
    let turns = c.turns-turn-items.result.now in
    more_is c.args.met.now.items c.loop-turn.met.items (flat_map (λ turn. given_in c.args.part turn.elem at) (take c.loop-turn.turn-index turns)) (inside c.args.part element at)
    (ap (λ (some : List (Turn Element)). flat_map (λ turn. given_in c.args.part turn.elem at) some) (take_all c.loop-turn.turn-index turns c.loop-turn-test.false ∙ c.loop-turn.invariant.turns)
    ∙ inside_turns c.args.part element at)
    (c.loop-turn.invariant.said at h)

pub push_first_body-returns-then-is_body : goal.push_first_body-returns-then-is_body
push_first_body-returns-then-is_body t c =
    let element = c.args.element.now in
    let turns = c.turns-turn-items.result.now in
    moved c.push_inside.result c.args.here c.args.here c.args.met.now.items c.loop-turn.met.items c.push_inside.new.met.items (λ at. []) (inside part.Blocks c.turn-item.result.elem)
    (λ at. model.each (λ one. one.inside) at (model.first_given tag.NoteBody (held element))) (λ at. at)
    (λ at h. same_more c.args.met.now c.loop-turn.met (sym c.loop-turn.invariant.same))
    (λ at h. h)
    (λ at h. first_is tag.NoteBody element turns c.loop-turn.turn-index c.turn-item.result c.loop-turn.invariant.turns c.loop-turn-test.true c.turn-item.is c.loop-turn.invariant.none
    (sym c.is_body.ensures ∙ c.if-is_body.true) at)
    c.push_inside.ensures

pub push_first_body-returns : goal.push_first_body-returns
push_first_body-returns t c = λ at h.
    let element = c.args.element.now in
    let turns = c.turns-turn-items.result.now in
    let P : List (Turn Element) → Type 0 = λ some. NoneOf tag.NoteBody some in
    more_is c.args.met.now.items c.loop-turn.met.items [] (model.each (λ one. one.inside) at (model.first_given tag.NoteBody (held element)))
    (sym (ap (λ (some : List model.Gives). model.each (λ one. one.inside) at some)
    (first_isnt tag.NoteBody element turns c.loop-turn.invariant.turns (subst P (take_all c.loop-turn.turn-index turns c.loop-turn-test.false) c.loop-turn.invariant.none))))
    (same_more c.args.met.now c.loop-turn.met (sym c.loop-turn.invariant.same))

pub push_note-returns : goal.push_note-returns
push_note-returns t c =
    let element = c.args.element.now in
    moved c.push_first_body.result c.args.here c.in_note.result c.args.met.now.items c.push_id.new.met.items c.push_first_body.new.met.items
    (λ at. map model.Note (model.named_at (out-Element element).place (name_in key.Id element)))
    (λ at. model.each (λ one. one.inside) at (model.first_given tag.NoteBody (held element)))
    (model.note_met (out-Element element).place (name_in key.Id element) (held element))
    (λ at. model.in_note (out-Element element).place)
    (λ at h. c.in_ok-push_id.ensures)
    (λ at h. c.in_note.ensures)
    (λ at h. note_here (out-Element element).place (name_in key.Id element) (held element) at (sym h.text ∙ c.if-here-ne0.false))
    c.push_first_body.ensures

pub push_section-returns-in_default : goal.push_section-returns-in_default
push_section-returns-in_default t c =
    let element = c.args.element.now in
    alike c.push_inside-in_default.result c.args.here c.args.met.now.items c.push_inside-in_default.new.met.items (inside part.Blocks element)
    (model.section_met (out-Element element).place (name_in key.TextName element) (held element))
    (λ at h. ap (λ name. model.section_met (out-Element element).place name (held element) at) (sym (name_is key.TextName element c.get.result.now None c.get.ensures c.in_default.ensures)))
    c.push_inside-in_default.ensures

pub push_section-returns : goal.push_section-returns
push_section-returns t c =
    let element = c.args.element.now in
    let place = (out-Element element).place in
    let name = chars c.in-Some.name.now in
    moved c.push_inside-2.result c.args.here c.in_section.result c.args.met.now.items c.push.new.met.items c.push_inside-2.new.met.items
    (λ at. model.Section (record { place = place; name = name; around = at.sections }) ∷ [])
    (inside part.Blocks element)
    (model.section_met place (name_in key.TextName element) (held element))
    (λ at. record at { sections = at.sections ++ place ∷ [] })
    (λ at h. c.in_ok-push.ensures
    ∙ ap (λ within. map met_of c.args.met.now.items ++ model.Section (record { place = place; name = name; around = option_to_list within }) ∷ []) h.section)
    c.in_section.ensures
    (λ at h. section_here place name (name_in key.TextName element) (held element) at (name_is key.TextName element c.get.result.now (Some name) c.get.ensures c.in-Some.ensures)
    (sym (c.reads_sections.ensures at h) ∙ c.if-not-reads_sections.false))
    c.push_inside-2.ensures
