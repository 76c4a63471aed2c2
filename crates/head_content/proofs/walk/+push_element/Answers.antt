use Rattle.std.proofs.Common.{◌∙◌, ◌+◌, [], ◌∷◌, true, ℕ, List, refl, ap, chars, take}
use Rattle.std.proofs.lemmas.List.{take_all}
use Rattle.markup_nodes.specs.Nodes.{leading, nodes_of}
use Rattle.markup_nodes.specs.declared.nodes.Turn.{Turn}
use Rattle.markup_nodes.specs.Node.{Node}
use Rattle.doc_model.specs.declared.paragraph.What.{roll-What}
use Rattle.doc_model.specs.declared.paragraph.What.TheOpen.{What-F}
use Rattle.load_model.specs.declared.names.Key.TheVariants as key
use Rattle.load_model.specs.declared.element.Attribute.{Attribute}
use Rattle.load_model.specs.declared.element.Element.{Element, out-Element}
use Rattle.load_model.specs.Fields.{field_rules}
use Rattle.load_model.specs.Headers.{within}
use Rattle.load_model.specs.Left.{attributes_of, only_elements}
use Rattle.load_model.specs.Values as value
use Rattle.load_model.specs.Values.{rule}
use Rattle.element_parts.specs.Shown.{shown}
use Rattle.head_content.specs.declared.parts.Part.TheVariants as part
use Rattle.head_content.specs.Reading.{followed, item_of, letters, only_left}
use Rattle.head_content.specs.Walk.{field_in, given_by, leaf_of, spaces_of, span_in, span_left, stored_in}
use Rattle.head_content.proofs.ReadingLemmas.{adds_is, adds_then}
use Rattle.head_content.proofs.WalkLemmas.{by_alike, by_is, by_then, given_behind, given_start, leaf_is, nodes_back, part_is, span_is, stored_is}
use Rattle.head_content.proofs.walk.+push_element.Goals as goal

pub push_element-returns-in-Span : goal.push_element-returns-in-Span
push_element-returns-in-Span t c =
    let element = c.args.element.now in
    by_alike c.push_span.result c.args.names.now c.args.read.now c.push_span.new.read (span_in element) (within element).content (λ names. span_is element names ∙ part_is element part.Span c.in-Span.ensures names) c.push_span.ensures

pub push_element-returns-in-Spaces : goal.push_element-returns-in-Spaces
push_element-returns-in-Spaces t c =
    let element = c.args.element.now in
    by_is c.push_spaces.result c.args.names.now c.args.read.now c.push_spaces.new.read (leaf_of (rule key.Count (value.number 1 4294967295) ∷ []) (spaces_of element) element) (within element).content
    (λ names. leaf_is element (rule key.Count (value.number 1 4294967295) ∷ []) (spaces_of element) ∙ part_is element part.Spaces c.in-Spaces.ensures names) c.push_spaces.ensures

pub push_element-returns-in-Tab : goal.push_element-returns-in-Tab
push_element-returns-in-Tab t c =
    let element = c.args.element.now in
    by_is c.push_tab.result c.args.names.now c.args.read.now c.push_tab.new.read (leaf_of [] (item_of (roll-What What-F.Tab) ∷ []) element) (within element).content
    (λ names. leaf_is element [] (item_of (roll-What What-F.Tab) ∷ []) ∙ part_is element part.Tab c.in-Tab.ensures names) c.push_tab.ensures

pub push_element-returns-in-Break : goal.push_element-returns-in-Break
push_element-returns-in-Break t c =
    let element = c.args.element.now in
    by_is c.push_break.result c.args.names.now c.args.read.now c.push_break.new.read (leaf_of [] (item_of (roll-What What-F.Break) ∷ []) element) (within element).content
    (λ names. leaf_is element [] (item_of (roll-What What-F.Break) ∷ []) ∙ part_is element part.Break c.in-Break.ensures names) c.push_break.ensures

pub push_element-returns-in-Field : goal.push_element-returns-in-Field
push_element-returns-in-Field t c =
    let element = c.args.element.now in
    by_is c.push_field.result c.args.names.now c.args.read.now c.push_field.new.read (leaf_of (field_rules (out-Element element).tag true) (field_in element) element) (within element).content
    (λ names. leaf_is element (field_rules (out-Element element).tag true) (field_in element) ∙ part_is element part.Field c.in-Field.ensures names) c.push_field.ensures

pub push_element-returns-in-StoredText : goal.push_element-returns-in-StoredText
push_element-returns-in-StoredText t c =
    let element = c.args.element.now in
    by_is c.push_stored.result c.args.names.now c.args.read.now c.push_stored.new.read (leaf_of (field_rules (out-Element element).tag true) (stored_in element) element) (within element).content
    (λ names. stored_is element ∙ part_is element part.StoredText c.in-StoredText.ensures names) c.push_stored.ensures

pub push_element-returns-in-Dropped : goal.push_element-returns-in-Dropped
push_element-returns-in-Dropped t c = λ names knows.
    let element = c.args.element.now in
    adds_is c.args.read.now c.leave_out.new.self (only_left (only_elements 1)) ((within element).content names) (part_is element part.Dropped c.in-Dropped.ensures names)
    (c.leave_out.ensures (only_elements 1) c.elements.ensures)

pub push_element-returns-in-Passed : goal.push_element-returns-in-Passed
push_element-returns-in-Passed t c =
    let element = c.args.element.now in
    by_then c.push_inside.result c.args.names.now c.args.read.now c.leave_out-in-Passed.new.self c.push_inside.new.read (λ names. only_left (only_elements 1)) (given_by (out-Element element).nodes) (within element).content
    (λ names knows. part_is element part.Passed c.in-Passed.ensures names) (λ names knows. c.leave_out-in-Passed.ensures (only_elements 1) c.elements-in-Passed.ensures) c.push_inside.ensures

pub push_span-returns : goal.push_span-returns
push_span-returns t c =
    let element = c.args.element.now in
    by_then c.push_inside.result c.args.names.now c.args.read.now c.leave_out.new.self c.push_inside.new.read (λ names. only_left (span_left names (attributes_of element))) (given_by (out-Element element).nodes) (span_in element)
    (λ names knows. refl)
    (λ names knows. c.leave_out.ensures (span_left names (attributes_of element)) (c.span_left.ensures names knows ∙ ap (λ (attributes : List Attribute). shown (span_left names attributes)) c.get.ensures)) c.push_inside.ensures

pub push_inside-loop-turn-init : goal.push_inside-loop-turn-init
push_inside-loop-turn-init t c =
    let first : List ℕ = leading (out-Element c.args.element.now).nodes in
    record {
      turns = c.turns-turn-items.ensures;
      said = λ names knows. adds_is c.args.read.now c.push_text.new.self (letters (chars c.first.result.now)) (given_by (nodes_of first []) names) (ap letters c.first.ensures ∙ given_start first names) c.in_ok-push_text.ensures;
    }

pub push_inside-loop-turn-preserved : goal.push_inside-loop-turn-preserved
push_inside-loop-turn-preserved t c =
    let turns = c.turns-turn-items.result.now in
    let first : List ℕ = leading (out-Element c.args.element.now).nodes in
    let turn = c.turn-item.result in
    record {
      turns = c.loop-turn.invariant.turns;
      said = λ names knows.
          adds_is c.args.read.now c.push_text-in-loop-turn.new.self (followed (given_by (nodes_of first (take c.loop-turn.turn-index turns)) names) (followed ((within turn.elem).content names) (letters (chars c.get.result.now)))) (given_by (nodes_of first (take (c.loop-turn.turn-index + 1) turns)) names)
          (ap (λ (text : List ℕ). followed (given_by (nodes_of first (take c.loop-turn.turn-index turns)) names) (followed ((within turn.elem).content names) (letters text))) c.get.ensures
          ∙ given_behind first turns c.loop-turn.turn-index turn c.loop-turn-test.true c.turn-item.is names)
          (adds_then c.args.read.now c.loop-turn.read c.push_text-in-loop-turn.new.self (given_by (nodes_of first (take c.loop-turn.turn-index turns)) names) (followed ((within turn.elem).content names) (letters (chars c.get.result.now))) (c.loop-turn.invariant.said names knows)
          (adds_then c.loop-turn.read c.push_element.new.read c.push_text-in-loop-turn.new.self ((within turn.elem).content names) (letters (chars c.get.result.now)) (c.in_ok-push_element.ensures names knows) c.in_ok-push_text-2.ensures));
    }

pub push_inside-returns : goal.push_inside-returns
push_inside-returns t c = λ names knows.
    let nodes = (out-Element c.args.element.now).nodes in
    let turns = c.turns-turn-items.result.now in
    adds_is c.args.read.now c.loop-turn.read (given_by (nodes_of (leading nodes) (take c.loop-turn.turn-index turns)) names) (given_by nodes names)
    (ap (λ (some : List (Turn Element)). given_by (nodes_of (leading nodes) some) names) (take_all c.loop-turn.turn-index turns c.loop-turn-test.false ∙ c.loop-turn.invariant.turns)
    ∙ ap (λ (all : List (Node Element)). given_by all names) (nodes_back nodes))
    (c.loop-turn.invariant.said names knows)
