use Rattle.std.proofs.Common.{[], List, codes}
use Rattle.std.specs.List.{flat_map}
use Rattle.std.specs.Str.{chars}
use Rattle.std.specs.String.{string_bytes}
use Rattle.markup_nodes.specs.Node.{Node}
use Rattle.markup_nodes.specs.declared.tree.Elem.{Elem}
use Rattle.markup_nodes.specs.declared.words.Attr.{Attr}
use Rattle.tree_text.specs.Writing.{attr_text, tag_text}
use Rattle.written_model.specs.Styles.{property_elements}
use Rattle.value_write.proofs.ChainLemmas.{three}
use Rattle.sheet_write.specs.Held.{held_text}
use Rattle.sheet_write.specs.Sheets.{style_attributes}
use Rattle.sheet_write.proofs.HeldLemmas.{holding}
use Rattle.sheet_write.proofs.styles.push_style.Goals as goal

pub returns : goal.returns
unfolding chars
returns c =
    let tag = codes "style:style" in
    let attrs : List Attr = style_attributes c.args.style.now in
    let nodes : List (Node Elem) = property_elements c.args.style.now.props in
    three c.push_held_properties.result (chars (string_bytes c.push_held_properties.new.out)) (chars (string_bytes c.push_style_attributes.new.out)) (chars (string_bytes c.push_name.new.out)) (chars (string_bytes c.args.out.now))
    (tag_text tag []) (flat_map attr_text attrs) (held_text tag nodes) c.in_ok-push_name.ensures c.in_ok-push_style_attributes.ensures c.push_held_properties.ensures (holding tag attrs nodes)
