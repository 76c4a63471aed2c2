use Rattle.std.proofs.Common.{List, codes, sym}
use Rattle.std.proofs.lemmas.Grind.{flat_map-append}
use Rattle.std.specs.Str.{chars}
use Rattle.std.specs.String.{string_bytes}
use Rattle.markup_nodes.specs.Node.{Node}
use Rattle.markup_nodes.specs.declared.tree.Elem.{Elem}
use Rattle.tree_text.specs.Writing.{child_text, content_text}
use Rattle.written_model.specs.Elements.{properties}
use Rattle.written_model.specs.Styles.{paragraph_attributes, text_attributes}
use Rattle.value_write.proofs.ChainLemmas.{two}
use Rattle.sheet_write.proofs.styles.push_properties.Goals as goal

pub returns : goal.returns
unfolding chars
returns c =
    let first : List (Node Elem) = properties (codes "style:paragraph-properties") (paragraph_attributes c.args.props.now) in
    let more : List (Node Elem) = properties (codes "style:text-properties") (text_attributes c.args.props.now) in
    two c.push_text_properties.result (chars (string_bytes c.push_text_properties.new.out)) (chars (string_bytes c.push_paragraph_properties.new.out)) (chars (string_bytes c.args.out.now)) (content_text first) (content_text more)
    c.in_ok-push_paragraph_properties.ensures c.push_text_properties.ensures (sym (flat_map-append child_text first more))
