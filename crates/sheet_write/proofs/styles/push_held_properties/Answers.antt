-- The end of the tag, the properties and the end of the element.
use Rattle.std.proofs.Common.{◌≡◌, ◌++◌, ℕ, List, OnOk, true, false, codes, sym, ◌∙◌, subst}
use Rattle.std.specs.Str.{chars}
use Rattle.std.specs.String.{string_bytes}
use Rattle.markup_nodes.specs.Node.{Node}
use Rattle.markup_nodes.specs.declared.tree.Elem.{Elem}
use Rattle.spelling_model.specs.Spelling.{is_there}
use Rattle.tree_text.specs.Writing.{end_text, content_text}
use Rattle.written_model.specs.Styles.{property_elements}
use Rattle.value_write.proofs.ChainLemmas.{three}
use Rattle.sheet_write.proofs.HeldLemmas.{held_none, held_some}
use Rattle.sheet_write.proofs.styles.push_held_properties.Goals as goal

pub returns-then-not-states_something : goal.returns-then-not-states_something
unfolding chars
returns-then-not-states_something c =
    let tag = codes "style:style" in
    let nodes : List (Node Elem) = property_elements c.args.props.now in
    let none : is_there nodes ≡ false = sym c.states_something.ensures ∙ c.if-not-states_something.true in
    subst (λ (text : List ℕ). OnOk c.push_empty_end.result (chars (string_bytes c.push_empty_end.new.out) ≡ chars (string_bytes c.args.out.now) ++ text)) (held_none tag nodes none) c.push_empty_end.ensures

pub returns : goal.returns
unfolding chars
returns c =
    let tag = codes "style:style" in
    let nodes : List (Node Elem) = property_elements c.args.props.now in
    let some : is_there nodes ≡ true = sym c.states_something.ensures ∙ c.if-not-states_something.false in
    three c.push_end.result (chars (string_bytes c.push_end.new.out)) (chars (string_bytes c.push_properties.new.out)) (chars (string_bytes c.push_tag_end.new.out)) (chars (string_bytes c.args.out.now))
    (codes ">") (content_text nodes) (end_text tag) c.in_ok-push_tag_end.ensures c.in_ok-push_properties.ensures c.push_end.ensures (held_some tag nodes some)
