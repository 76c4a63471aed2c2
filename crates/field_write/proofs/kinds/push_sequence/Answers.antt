use Rattle.std.proofs.Common.{[], ◌∷◌, List, codes}
use Rattle.std.specs.List.{flat_map}
use Rattle.std.specs.Str.{chars}
use Rattle.std.specs.String.{string_bytes}
use Rattle.tree_text.specs.Writing.{attr_text, tag_text}
use Rattle.markup_nodes.specs.declared.words.Attr.{Attr}
use Rattle.written_model.specs.Elements.{attribute, unless_empty}
use Rattle.written_model.specs.Fields.{format_attribute}
use Rattle.value_write.proofs.ChainLemmas.{five}
use Rattle.value_write.proofs.ElementLemmas.{empty_three}
use Rattle.field_write.proofs.kinds.push_sequence.Goals as goal

pub returns : goal.returns
unfolding chars
returns c =
    let old = chars (string_bytes c.args.out.now) in
    let tag = codes "text:sequence" in
    let first : List Attr = attribute (codes "text:name") (chars c.args.name.now) ∷ [] in
    let second : List Attr = unless_empty (codes "text:ref-name") (chars c.args.refname.now) in
    let third : List Attr = format_attribute c.args.format ∷ [] in
    five c.push_empty_end.result (chars (string_bytes c.push_empty_end.new.out)) (chars (string_bytes c.push_format.new.out)) (chars (string_bytes c.push_unless_empty.new.out)) (chars (string_bytes c.push_text.new.out)) (chars (string_bytes c.push_name.new.out)) old (tag_text tag []) (flat_map attr_text first) (flat_map attr_text second) (flat_map attr_text third) (codes "/>")
    c.in_ok-push_name.ensures c.in_ok-push_text.ensures c.in_ok-push_unless_empty.ensures c.in_ok-push_format.ensures c.push_empty_end.ensures (empty_three tag first second third)
