-- The name, the attribute, the declared name and `/>`.
use Rattle.std.proofs.Common.{[], ◌∷◌, List, codes}
use Rattle.std.specs.List.{flat_map}
use Rattle.std.specs.Str.{chars}
use Rattle.std.specs.String.{string_bytes}
use Rattle.markup_nodes.specs.declared.words.Attr.{Attr}
use Rattle.tree_text.specs.Writing.{attr_text, tag_text}
use Rattle.written_model.specs.Elements.{attribute}
use Rattle.value_write.proofs.ChainLemmas.{four}
use Rattle.value_write.proofs.ElementLemmas.{empty_two}
use Rattle.block_write.proofs.declarations.push_declaration.Goals as goal

pub returns : goal.returns
unfolding chars
returns c =
    let tag = chars c.args.tag.now in
    let first : List Attr = attribute (chars c.args.attribute.now) (chars c.args.value.now) ∷ [] in
    let name : List Attr = attribute (codes "text:name") (chars c.args.name.now) ∷ [] in
    four c.push_empty_end.result (chars (string_bytes c.push_empty_end.new.out)) (chars (string_bytes c.push_text-2.new.out)) (chars (string_bytes c.push_text.new.out)) (chars (string_bytes c.push_name.new.out)) (chars (string_bytes c.args.out.now))
    (tag_text tag []) (flat_map attr_text first) (flat_map attr_text name) (codes "/>") c.in_ok-push_name.ensures c.in_ok-push_text.ensures c.in_ok-push_text-2.ensures c.push_empty_end.ensures (empty_two tag first name)
