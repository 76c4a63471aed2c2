use Rattle.std.proofs.Common.{◌≡◌, ◌<◌, ◌+◌, arith, get_or, ◌++◌, ◌∷◌, [], true, false, List, Option, Some, None, refl, sym, ap, ◌∙◌, subst, inl, inr, take, map, length}
use Rattle.std.proofs.lemmas.List.{take_all, take_more}
use Rattle.std.specs.Option.{option_or}
use Rattle.markup_nodes.specs.Nodes.{leading, turns_of}
use Rattle.markup_nodes.specs.declared.nodes.Turn.{Turn}
use Rattle.doc_model.specs.declared.style.Family.TheVariants as family
use Rattle.element_parts.specs.Shown.{shown}
use Rattle.load_model.specs.declared.names.Key.TheVariants as key
use Rattle.load_model.specs.declared.names.Tag.TheVariants as tag
use Rattle.load_model.specs.declared.element.Element.{Element, out-Element}
use Rattle.load_model.specs.Blocks as blocks
use Rattle.load_model.specs.Blocks.{Around, ReadBlocks, ReadContent, blocks_with, declaration_blocks, gives_of, heading_rules, joined_blocks, left_by, no_blocks, one_element, paragraph_rules, source_blocks}
use Rattle.load_model.specs.Left.{Left, nothing, attributes_of, children}
use Rattle.load_model.specs.Styles.{reference}
use Rattle.load_model.specs.Values as values
use Rattle.load_model.specs.Values.{rule, stated_or}
use Rattle.read_blocks.proofs.AddLemmas.{from_none, next_behind}
use Rattle.block_parts.specs.Lists.{StandsIn, with_list}
use Rattle.content_read.specs.Held.{content_at, content_in}
use Rattle.text_read.specs.Walk.{EnlistsHere, blocks_at, blocks_in, entries_in, entry_at, held_in, item_in, list_at, note_at, paragraph_at, section_at, kept_content}
use Rattle.text_read.proofs.HereLemmas.{here_any, here_same, here_enters, here_beside, passed_is, section_is, list_is, source_is, variables_are, sequences_are, other_is, item_is, header_is, other_entry, section_passed, section_added, item_begun, entry_held, list_ended_here}
use Rattle.text_read.proofs.WalkLemmas.{answered, blocks_of_tag, by_turns, enlists_left, enlists_next, enlists_none, enlists_same, enters_next, enters_none, enters_same}
use Rattle.std.specs.Prelude.{chars, reverse}
use Rattle.std.proofs.Common.{ℕ}
use Rattle.item_spaces.specs.Spacing.{Holds}
use Rattle.load_model.specs.Blocks.{as_block, blocks_alone, list_place, lists_of_note}
use Rattle.load_model.specs.Content.{items_of_raw, raw_character}
use Rattle.load_model.specs.Left.{tag_of}
use Rattle.load_model.specs.Met.{is_at}
use Rattle.sheet_names.specs.Known.{of_family}
use Rattle.block_parts.specs.Values.{paragraph_by}
use Rattle.read_blocks.specs.Adds.{AreBlocks, one_block}
use Rattle.read_blocks.specs.Kept.{kept_raws}
use Rattle.content_read.specs.Adds.{Adds as AddsRaws, AddsIn}
use Rattle.content_read.specs.Known.{IsKnown}
use Rattle.content_read.specs.Roles.{HasTag, IsRead}
use Rattle.content_read.proofs.AddLemmas.{adds_is, gains_is, gains_none}
use Rattle.content_read.proofs.TurnLemmas.{run, turns_content}
use Rattle.content_read.proofs.TurnLemmas.{by_turns as content_turns}
use Rattle.text_read.specs.Walk.{Enlists, ReadsHere, body_in}
use Rattle.text_read.proofs.ContentLemmas.{alone_kept, beside_kept, first_kept, turn_kept}
use Rattle.text_read.proofs.HereLemmas.{note_is}
use Rattle.text_read.proofs.NoteLemmas.{NoneOf, body_absent, body_found}
use Rattle.text_read.proofs.StepLemmas.{content_read}
use Rattle.text_read.proofs.walk.+push_block.Goals as goal

-- one more turn
one_more : (turns : List (Turn Element)) (i : ℕ) (turn : Turn Element) → i < length turns → turn ≡ get_or turns i turn → take (i + 1) turns ≡ take i turns ++ turn ∷ []
one_more turns i turn inside is = take_more turns i turn inside ∙ ap (λ (one : Turn Element). take i turns ++ one ∷ []) (sym is)

-- where blocks are read
pub push_block-returns-in-Paragraph : goal.push_block-returns-in-Paragraph
push_block-returns-in-Paragraph t c =
    let element = c.args.element.now in
    here_same c.args.known c.args.lists c.args.into.now c.push_paragraph.new.into (λ model at. blocks_with (left_by (paragraph_rules model) (attributes_of element)) (paragraph_at 0 element model at)) (blocks_at element) c.push_paragraph.result
    (λ model at k s. blocks_of_tag model element at tag.Paragraph c.in-Paragraph.is) c.push_paragraph.ensures

pub push_block-returns-in-Heading : goal.push_block-returns-in-Heading
push_block-returns-in-Heading t c =
    let element = c.args.element.now in
    here_same c.args.known c.args.lists c.args.into.now c.push_heading.new.into
    (λ model at. blocks_with (left_by (heading_rules model) (attributes_of element)) (paragraph_at (stated_or key.OutlineLevel values.heading_level 1 (attributes_of element)) element model at)) (blocks_at element) c.push_heading.result
    (λ model at k s. blocks_of_tag model element at tag.Heading c.in-Heading.is) c.push_heading.ensures

pub push_block-returns-in-List : goal.push_block-returns-in-List
push_block-returns-in-List t c =
    let element = c.args.element.now in
    here_same c.args.known c.args.lists c.args.into.now c.push_list.new.into (list_at element) (blocks_at element) c.push_list.result (λ model at k s. list_is model element at c.in-List.is) c.push_list.ensures

pub push_block-returns-in-Section : goal.push_block-returns-in-Section
push_block-returns-in-Section t c =
    let element = c.args.element.now in
    here_same c.args.known c.args.lists c.args.into.now c.push_section.new.into (section_at element) (blocks_at element) c.push_section.result (λ model at k s. section_is model element at c.in-Section.is) c.push_section.ensures

pub push_block-returns-in-Index : goal.push_block-returns-in-Index
push_block-returns-in-Index t c =
    let element = c.args.element.now in
    here_same c.args.known c.args.lists c.args.into.now c.push_passed.new.into (λ model at. blocks_with one_element (blocks_in element model at)) (blocks_at element) c.push_passed.result (λ model at k s. passed_is model element at c.in-Index.is)
    c.push_passed.ensures

pub push_block-returns-in-SectionSource : goal.push_block-returns-in-SectionSource
push_block-returns-in-SectionSource t c =
    let element = c.args.element.now in
    here_any c.args.known c.args.lists c.args.into.now c.push_source.new.into (λ model at. source_blocks (attributes_of element) (map (gives_of model) (children element))) (blocks_at element) c.push_source.result
    (λ model at. source_is model element at c.in-SectionSource.is) c.push_source.ensures

pub push_block-returns-in-VariableDeclarations : goal.push_block-returns-in-VariableDeclarations
push_block-returns-in-VariableDeclarations t c =
    let element = c.args.element.now in
    here_any c.args.known c.args.lists c.args.into.now c.push_declarations.new.into (λ model at. declaration_blocks false tag.VariableDeclaration (attributes_of element) (map (gives_of model) (children element))) (blocks_at element)
    c.push_declarations.result (λ model at. variables_are model element at c.in-VariableDeclarations.is) c.push_declarations.ensures

pub push_block-returns-in-SequenceDeclarations : goal.push_block-returns-in-SequenceDeclarations
push_block-returns-in-SequenceDeclarations t c =
    let element = c.args.element.now in
    here_any c.args.known c.args.lists c.args.into.now c.push_declarations-in-SequenceDeclarations.new.into (λ model at. declaration_blocks true tag.SequenceDeclaration (attributes_of element) (map (gives_of model) (children element))) (blocks_at element)
    c.push_declarations-in-SequenceDeclarations.result (λ model at. sequences_are model element at c.in-SequenceDeclarations.is) c.push_declarations-in-SequenceDeclarations.ensures

pub push_block-returns-in_default : goal.push_block-returns-in_default
push_block-returns-in_default t c = λ model at k s.
    let element = c.args.element.now in
    let n = c.in_default in
    enlists_same at c.args.into.now c.leave_out.new.into c.leave_out.result (no_blocks one_element) (blocks_at element model at)
    (other_is model element at (out-Element element).tag refl n.not-Paragraph n.not-Heading n.not-List n.not-Section n.not-Index n.not-SectionSource n.not-VariableDeclarations n.not-SequenceDeclarations)
    (c.leave_out.ensures at)

-- one after the other
pub push_inside-loop-turn-init : goal.push_inside-loop-turn-init
push_inside-loop-turn-init t c = record { turns = c.turns-turn-items.ensures; said = λ model at k s. enlists_none at c.args.into.now }

pub push_inside-loop-turn-preserved : goal.push_inside-loop-turn-preserved
push_inside-loop-turn-preserved t c = record {
  turns = c.loop-turn.invariant.turns;
  said = λ model at k s.
      let turns = c.turns-turn-items.result.now in
      let f : Turn Element → ReadBlocks = λ turn. blocks_at turn.elem model at in
      enlists_same at c.args.into.now c.push_block.new.into c.or-first.result (joined_blocks (map f (take c.loop-turn.turn-index turns) ++ f c.turn-item.result ∷ [])) _
      (ap joined_blocks (sym (next_behind f turns c.loop-turn.turn-index c.turn-item.result c.loop-turn-test.true c.turn-item.is)))
      (subst (λ (place : Option ℕ). Enlists at c.args.into.now c.push_block.new.into place (joined_blocks (map f (take c.loop-turn.turn-index turns) ++ f c.turn-item.result ∷ []))) (sym c.or-first.ensures)
      (enlists_next at c.args.into.now c.loop-turn.into c.push_block.new.into c.loop-turn.first c.in_ok-found.found (map f (take c.loop-turn.turn-index turns)) (f c.turn-item.result) (c.loop-turn.invariant.said model at k s) (c.in_ok-found.ensures model at k s)));
}

pub push_inside-returns : goal.push_inside-returns
push_inside-returns t c = λ model at k s.
    let element = c.args.element.now in
    let turns = c.turns-turn-items.result.now in
    let f : Turn Element → ReadBlocks = λ turn. blocks_at turn.elem model at in
    enlists_same at c.args.into.now c.loop-turn.into c.loop-turn.first (joined_blocks (map f (take c.loop-turn.turn-index turns))) (blocks_in element model at)
    (ap joined_blocks (ap (map f) (take_all c.loop-turn.turn-index turns c.loop-turn-test.false ∙ c.loop-turn.invariant.turns) ∙ by_turns (λ inner. blocks_at inner model at) element))
    (c.loop-turn.invariant.said model at k s)

pub push_entries-loop-turn-init : goal.push_entries-loop-turn-init
push_entries-loop-turn-init t c = record { turns = c.turns-turn-items.ensures; said = λ model at k s. enters_none at c.args.into.now }

pub push_entries-loop-turn-preserved : goal.push_entries-loop-turn-preserved
push_entries-loop-turn-preserved t c = record {
  turns = c.loop-turn.invariant.turns;
  said = λ model at k s.
      let turns = c.turns-turn-items.result.now in
      let f : Turn Element → ReadBlocks = λ turn. entry_at turn.elem model at in
      enters_same at c.args.into.now c.push_entry.new.into (joined_blocks (map f (take c.loop-turn.turn-index turns) ++ f c.turn-item.result ∷ [])) _
      (ap joined_blocks (sym (next_behind f turns c.loop-turn.turn-index c.turn-item.result c.loop-turn-test.true c.turn-item.is)))
      (enters_next at c.args.into.now c.loop-turn.into c.push_entry.new.into (map f (take c.loop-turn.turn-index turns)) (f c.turn-item.result) (c.loop-turn.invariant.said model at k s) (c.in_ok-push_entry.ensures model at k s));
}

pub push_entries-returns : goal.push_entries-returns
push_entries-returns t c = λ model at k s.
    let element = c.args.element.now in
    let turns = c.turns-turn-items.result.now in
    let f : Turn Element → ReadBlocks = λ turn. entry_at turn.elem model at in
    enters_same at c.args.into.now c.loop-turn.into (joined_blocks (map f (take c.loop-turn.turn-index turns))) (entries_in element model at)
    (ap joined_blocks (ap (map f) (take_all c.loop-turn.turn-index turns c.loop-turn-test.false ∙ c.loop-turn.invariant.turns) ∙ by_turns (λ inner. entry_at inner model at) element))
    (c.loop-turn.invariant.said model at k s)

-- entries of a list
pub push_entry-returns-in-ListItem : goal.push_entry-returns-in-ListItem
push_entry-returns-in-ListItem t c =
    let element = c.args.element.now in
    here_enters c.args.known c.args.lists c.args.into.now c.push_item.new.into (item_in element) (entry_at element) c.push_item.result (λ model at. item_is model element at c.in-ListItem.is) c.push_item.ensures

pub push_entry-returns-in-ListHeader : goal.push_entry-returns-in-ListHeader
push_entry-returns-in-ListHeader t c =
    let element = c.args.element.now in
    here_enters c.args.known c.args.lists c.args.into.now c.push_header.new.into (held_in element) (entry_at element) c.push_header.result (λ model at. header_is model element at c.in-ListHeader.is) c.push_header.ensures

pub push_entry-returns-in_default : goal.push_entry-returns-in_default
push_entry-returns-in_default t c = λ model at k s.
    let element = c.args.element.now in
    let n = c.in_default in
    enters_same at c.args.into.now c.leave_out.new.self (no_blocks one_element) (entry_at element model at) (other_entry model element at (out-Element element).tag refl n.not-ListItem n.not-ListHeader)
    (record { adds = c.leave_out.ensures at.in_note one_element c.elements.ensures; within = λ level l. tt })

pub push_item-returns : goal.push_item-returns
push_item-returns t c = λ model at k s.
    let element = c.args.element.now in
    let held = c.in_ok-first.ensures model at k s in
    item_begun model element at c.args.into.now c.push_held.new.into c.begin_item.new.self c.in_ok-first.first held
    (c.begin_item.ensures at.in_note c.args.into.now (held_in element model at) at.level held.enters.adds held.first_is)

pub push_header-returns : goal.push_header-returns
push_header-returns t c = λ model at k s. (c.in_ok-push_held.ensures model at k s).enters

pub push_held-returns : goal.push_held-returns
push_held-returns t c = λ model at k s.
    let element = c.args.element.now in
    let inside = c.in_ok-first.ensures model at k s in
    entry_held model element at c.args.into.now c.leave_out.new.self c.push_inside.new.into c.drop_behind.new.self c.in_ok-first.first
    (c.leave_out.ensures at.in_note (left_by [] (attributes_of element)) c.attributes_out.ensures) inside
    (c.drop_behind.ensures at.in_note c.leave_out.new.self (blocks_in element model at) inside.enters.adds (omega (arith, c.len-sources.ensures)) (omega (arith, c.len-declarations.ensures)))

-- a list
pub push_list-returns : goal.push_list-returns
push_list-returns t c = λ model at k s.
    let element = c.args.element.now in
    let inner = with_list model.names.lists (attributes_of element) at in
    let left = left_by (rule key.StyleName (reference model.names.lists) ∷ rule key.ContinueNumbering values.truth ∷ []) (attributes_of element) in
    list_ended_here model element at c.args.into.now c.leave_out.new.self c.end_list.new.into c.end_list.result
    (c.leave_out.ensures at.in_note left (c.list_left.ensures ∙ ap (λ names. shown (left_by (rule key.StyleName (reference names) ∷ rule key.ContinueNumbering values.truth ∷ []) (attributes_of element))) k.names.lists_are))
    (c.end_list.ensures at model.names.lists c.leave_out.new.self (entries_in element model inner) s
    (c.in_ok-push_entries.ensures model inner k (subst (λ names. StandsIn c.within.result (with_list names (attributes_of element) at)) k.names.lists_are (c.within.ensures at s))) (omega (arith, c.len-from.ensures)))

-- a section
pub push_section-returns-then-not-keeps_section : goal.push_section-returns-then-not-keeps_section
push_section-returns-then-not-keeps_section t c =
    let element = c.args.element.now in
    here_same c.args.known c.args.lists c.args.into.now c.push_passed.new.into (λ model at. blocks_with one_element (blocks_in element model at)) (section_at element) c.push_passed.result
    (λ model at k s. section_passed model element at (sym (k.kept.sections (out-Element element).place) ∙ sym c.keeps_section.ensures ∙ c.if-not-keeps_section.true)) c.push_passed.ensures

pub push_section-returns : goal.push_section-returns
push_section-returns t c = λ model at k s.
    let element = c.args.element.now in
    let inside = c.in_ok-push_inside.ensures model at k s in
    section_added model element at c.args.into.now c.push_section.new.self (sym (k.kept.sections (out-Element element).place) ∙ sym c.keeps_section.ensures ∙ c.if-not-keeps_section.false)
    (c.in_ok-push_section.ensures at.in_note model (blocks_in element model at) k.names (from_none at.in_note c.new-held.result c.push_inside.new.into (blocks_in element model at) (c.new-held.ensures at.in_note) inside.enters.adds))

pub push_passed-returns : goal.push_passed-returns
push_passed-returns t c =
    let element = c.args.element.now in
    here_beside c.args.known c.args.lists c.leave_out.new.self c.push_inside.new.into (blocks_in element) (λ model at. blocks_with one_element (blocks_in element model at)) c.push_inside.result c.args.into.now (λ model. one_element)
    (λ model at k. c.leave_out.ensures at.in_note one_element c.elements.ensures) (λ model at. refl) c.push_inside.ensures

-- paragraphs
pub push_paragraph-returns : goal.push_paragraph-returns
push_paragraph-returns t c =
    let element = c.args.element.now in
    here_beside c.args.known c.args.lists c.leave_out.new.self c.push_par.new.into (paragraph_at 0 element) (λ model at. blocks_with (left_by (paragraph_rules model) (attributes_of element)) (paragraph_at 0 element model at)) c.push_par.result
    c.args.into.now (λ model. left_by (paragraph_rules model) (attributes_of element))
    (λ model at k. c.leave_out.ensures at.in_note (left_by (paragraph_rules model) (attributes_of element))
    (c.paragraph_left.ensures ∙ ap (λ styles. shown (left_by (rule key.StyleName (reference styles) ∷ []) (attributes_of element))) (k.names.styles_are family.Paragraph)))
    (λ model at. refl) c.push_par.ensures

pub push_heading-returns : goal.push_heading-returns
push_heading-returns t c =
    let element = c.args.element.now in
    let level = stated_or key.OutlineLevel values.heading_level 1 (attributes_of element) in
    here_beside c.args.known c.args.lists c.leave_out.new.self c.push_par.new.into (paragraph_at c.heading_level-level.result element) (λ model at. blocks_with (left_by (heading_rules model) (attributes_of element)) (paragraph_at level element model at))
    c.push_par.result c.args.into.now (λ model. left_by (heading_rules model) (attributes_of element))
    (λ model at k. c.leave_out.ensures at.in_note (left_by (heading_rules model) (attributes_of element))
    (c.heading_left.ensures ∙ ap (λ styles. shown (left_by (rule key.StyleName (reference styles) ∷ rule key.OutlineLevel values.heading_level ∷ []) (attributes_of element))) (k.names.styles_are family.Paragraph)))
    (λ model at. ap (λ one. blocks_with (left_by (heading_rules model) (attributes_of element)) (paragraph_at one element model at)) (c.heading_level-level.ensures ∙ ap (stated_or key.OutlineLevel values.heading_level 1) c.get.ensures)) c.push_par.ensures

pub push_par-returns : goal.push_par-returns
push_par-returns t c =
    let element = c.args.element.now in
    let names = c.args.known.names.now in
    let by : List (List ℕ) → blocks.Lists → ReadContent → ReadBlocks = λ styles at content. one_block (as_block (paragraph_by styles (list_place at) c.args.level element (items_of_raw content.raws))) content.left in
    answered c.add_paragraph.result
    (λ first. (at : blocks.Lists) (content : ReadContent) → StandsIn c.args.lists at → Holds c.push_nodes.new.items (reverse (kept_raws at.in_note content.raws)) → c.in_ok-left.left ≡ shown content.left
    → Enlists at c.args.into.now c.add_paragraph.new.into first (by (of_family names.styles family.Paragraph) at content))
    (λ first. EnlistsHere c.args.known c.args.lists c.args.into.now c.add_paragraph.new.into first (paragraph_at c.args.level element))
    (λ first said model at k s.
    let content : ReadContent = content_in model element (record { spans = []; in_note = at.in_note }) in
    let read = content_read at.in_note c.args.lists.in_note c.none-spans.result (content_in model element) c.new-items.result c.push_nodes.new.items c.in_ok-left.left c.none-spans.ensures s.in_note c.new-items.ensures (c.in_ok-left.ensures model k) in
    enlists_same at c.args.into.now c.add_paragraph.new.into first (by (of_family names.styles family.Paragraph) at content) (paragraph_at c.args.level element model at)
    (ap (λ styles. by styles at content) (k.names.styles_are family.Paragraph)) (said at content s read.0 read.1))
    c.add_paragraph.ensures

-- content
pub push_nodes-loop-turn-init : goal.push_nodes-loop-turn-init
push_nodes-loop-turn-init t c = record {
  turns = c.turns-turn-items.ensures;
  said = λ model k.
      let around : Around = record { spans = c.args.spans.now; in_note = c.args.in_note } in
      first_kept c.args.in_note model around c.args.items.now c.push_run.new.items c.nothing-left.result (leading (out-Element c.args.element.now).nodes)
      (gains_is c.args.items.now c.push_run.new.items _ (run model around (leading (out-Element c.args.element.now).nodes)) (ap (map (raw_character c.args.spans.now)) c.first.ensures) c.in_ok-push_run.ensures) c.nothing-left.ensures;
}

pub push_nodes-loop-turn-preserved : goal.push_nodes-loop-turn-preserved
push_nodes-loop-turn-preserved t c = record {
  turns = c.loop-turn.invariant.turns;
  said = λ model k.
      let around : Around = record { spans = c.args.spans.now; in_note = c.args.in_note } in
      let turns = c.turns-turn-items.result.now in
      let front = leading (out-Element c.args.element.now).nodes in
      let total = c.both-left.result in
      adds_is c.args.items.now c.push_run-in-loop-turn.new.items total (kept_content c.args.in_note (turns_content model around front (take c.loop-turn.turn-index turns ++ c.turn-item.result ∷ []))) _
      (ap (λ (some : List (Turn Element)). kept_content c.args.in_note (turns_content model around front some)) (sym (one_more turns c.loop-turn.turn-index c.turn-item.result c.loop-turn-test.true c.turn-item.is)))
      (turn_kept c.args.in_note model around c.args.items.now c.loop-turn.items c.push_content.new.items c.push_run-in-loop-turn.new.items c.loop-turn.left c.in_ok-more.more total front (take c.loop-turn.turn-index turns) c.turn-item.result
      (c.loop-turn.invariant.said model k) (c.in_ok-more.ensures model k)
      (gains_is c.push_content.new.items c.push_run-in-loop-turn.new.items _ (run model around c.turn-item.result.after) (ap (map (raw_character c.args.spans.now)) c.get.ensures) c.in_ok-push_run-2.ensures)
      c.both-left.ensures);
}

pub push_nodes-returns : goal.push_nodes-returns
push_nodes-returns t c = λ model k.
    let around : Around = record { spans = c.args.spans.now; in_note = c.args.in_note } in
    let turns = c.turns-turn-items.result.now in
    let front = leading (out-Element c.args.element.now).nodes in
    adds_is c.args.items.now c.loop-turn.items c.loop-turn.left (kept_content c.args.in_note (turns_content model around front (take c.loop-turn.turn-index turns))) (kept_content c.args.in_note (content_in model c.args.element.now around))
    (ap (kept_content c.args.in_note) (ap (turns_content model around front) (take_all c.loop-turn.turn-index turns c.loop-turn-test.false ∙ c.loop-turn.invariant.turns) ∙ content_turns model around c.args.element.now))
    (c.loop-turn.invariant.said model k)

pub push_content-push_alone-requires : goal.push_content-push_alone-requires
push_content-push_alone-requires t c = subst (λ one. HasTag one (tag_of c.args.element.now)) c.in-Alone.is c.role_of.ensures.tag

pub push_content-returns-in-Alone : goal.push_content-returns-in-Alone
push_content-returns-in-Alone t c =
    let element = c.args.element.now in
    let spans = c.args.spans.now in
    let new = c.push_alone.new.items in
    answered c.push_alone.result
    (λ left. (model : blocks.Known) → IsKnown c.args.known model → AddsIn spans c.args.items.now new left (content_at model element))
    (λ left. ReadsHere c.args.known spans c.args.in_note c.args.items.now new left (λ model. content_at model element))
    (λ left said model k.
    let around : Around = record { spans = spans; in_note = c.args.in_note } in
    adds_is c.args.items.now new left (content_at model element around) (kept_content c.args.in_note (content_at model element around))
    (alone_kept c.args.in_note model element around (subst (λ one. HasTag one (tag_of element)) c.in-Alone.is c.role_of.ensures.tag)) (said model k around refl))
    c.push_alone.ensures

pub push_content-returns-in-Note : goal.push_content-returns-in-Note
push_content-returns-in-Note t c =
    let element = c.args.element.now in
    let spans = c.args.spans.now in
    let new = c.push_note_element.new.items in
    answered c.push_note_element.result
    (λ left. ReadsHere c.args.known spans c.args.in_note c.args.items.now new left (note_at element))
    (λ left. ReadsHere c.args.known spans c.args.in_note c.args.items.now new left (λ model. content_at model element))
    (λ left said model k.
    let around : Around = record { spans = spans; in_note = c.args.in_note } in
    adds_is c.args.items.now new left (kept_content c.args.in_note (note_at element model around)) (kept_content c.args.in_note (content_at model element around))
    (ap (kept_content c.args.in_note) (note_is model element around (subst (λ one. HasTag one (tag_of element)) c.in-Note.is c.role_of.ensures.tag))) (said model k))
    c.push_note_element.ensures

pub push_content-returns-in_ok-more-in-Passed : goal.push_content-returns-in_ok-more-in-Passed
push_content-returns-in_ok-more-in-Passed t c = λ model k.
    let element = c.args.element.now in
    let around : Around = record { spans = c.args.spans.now; in_note = c.args.in_note } in
    beside_kept c.args.in_note c.args.items.now c.push_nodes.new.items c.in-Passed.left c.in_ok-more-in-Passed.more c.both.result (content_in model element around) (content_at model element around)
    (subst (λ one. IsRead one model element around) c.in-Passed.is (c.role_of.ensures.read model k around refl)) (c.in_ok-more-in-Passed.ensures model k) c.both.ensures

pub push_content-returns-in_ok-more-in-Span : goal.push_content-returns-in_ok-more-in-Span
push_content-returns-in_ok-more-in-Span t c = λ model k.
    let element = c.args.element.now in
    let around : Around = record { spans = c.args.spans.now; in_note = c.args.in_note } in
    let name = chars c.in-Span.name.now in
    let inside : List (List ℕ) → ReadContent = λ spans. content_in model element (record { spans = spans; in_note = c.args.in_note }) in
    beside_kept c.args.in_note c.args.items.now c.push_nodes-in-Span.new.items c.in-Span.left c.in_ok-more-in-Span.more c.both-in-Span.result (inside (c.args.spans.now ++ name ∷ [])) (content_at model element around)
    (subst (λ one. IsRead one model element around) c.in-Span.is (c.role_of.ensures.read model k around refl))
    (subst (λ spans. AddsRaws c.args.items.now c.push_nodes-in-Span.new.items c.in_ok-more-in-Span.more (kept_content c.args.in_note (inside spans))) c.in_ok-inner-in-Span.ensures (c.in_ok-more-in-Span.ensures model k)) c.both-in-Span.ensures

-- notes
pub push_note_element-returns-then-in_note : goal.push_note_element-returns-then-in_note
push_note_element-returns-then-in_note t c = λ model k. subst (λ b. AddsRaws c.args.items.now c.args.items.now c.elements.result (kept_content b (note_at c.args.element.now model (record { spans = c.args.spans.now; in_note = b })))) (sym c.if-in_note.true)
    (record { items = gains_none c.args.items.now; left_is = c.elements.ensures })

pub push_note_element-returns : goal.push_note_element-returns
push_note_element-returns t c =
    let element = c.args.element.now in
    let spans = c.args.spans.now in
    let new = c.put_note.new.items in
    answered c.put_note.result
    (λ left. (model : blocks.Known) → c.keeps_note-is_first.result ≡ is_at model.kept.notes (out-Element element).place → AreBlocks true c.in_ok-body.body (body_in element model)
    → AddsRaws c.args.items.now new left (kept_content false (note_at element model (record { spans = spans; in_note = false }))))
    (λ left. ReadsHere c.args.known spans c.args.in_note c.args.items.now new left (note_at element))
    (λ left said model k. subst (λ b. AddsRaws c.args.items.now new left (kept_content b (note_at element model (record { spans = spans; in_note = b })))) (sym c.if-in_note.false)
    (said model (c.keeps_note-is_first.ensures ∙ k.kept.notes (out-Element element).place) (c.in_ok-body.ensures model k)))
    c.put_note.ensures

pub read_body-loop-turn-init : goal.read_body-loop-turn-init
read_body-loop-turn-init t c = record { turns = c.turns-turn-items.ensures; none = tt; same = refl }

pub read_body-returns-then-is : goal.read_body-returns-then-is
read_body-returns-then-is t c = λ model k.
    let element = c.args.element.now in
    let turn = c.turn-item.result in
    let turns = c.turns-turn-items.result.now in
    let inside = c.in_ok-push_inside.ensures model lists_of_note k c.outside.ensures in
    let none = c.new-body.result in
    let before : AreBlocks true c.loop-turn.body (no_blocks nothing) = subst (λ body. AreBlocks true body (no_blocks nothing)) (sym c.loop-turn.invariant.same) (c.new-body.ensures true) in
    let counts : (length c.loop-turn.body.sources.items ≡ 0) × (length c.loop-turn.body.declarations.items ≡ 0) = (ap length before.sources_are, ap length before.declarations_are) in
    subst (AreBlocks true c.drop_behind.new.self) (body_found model element turns c.loop-turn.turn-index turn c.loop-turn.invariant.turns c.loop-turn-test.true c.turn-item.is c.loop-turn.invariant.none (sym c.is.ensures ∙ c.if-is.true))
    (from_none true c.loop-turn.body c.drop_behind.new.self (blocks_alone (blocks_in turn.elem model lists_of_note)) before
    (c.drop_behind.ensures true c.loop-turn.body (blocks_in turn.elem model lists_of_note) inside.enters.adds (sym counts.0) (sym counts.1)))

pub read_body-returns : goal.read_body-returns
read_body-returns t c = λ model k.
    let element = c.args.element.now in
    let turns = c.turns-turn-items.result.now in
    subst (AreBlocks true c.loop-turn.body) (body_absent model element turns c.loop-turn.invariant.turns (subst NoneOf (take_all c.loop-turn.turn-index turns c.loop-turn-test.false) c.loop-turn.invariant.none))
    (subst (λ body. AreBlocks true body (no_blocks nothing)) (sym c.loop-turn.invariant.same) (c.new-body.ensures true))
