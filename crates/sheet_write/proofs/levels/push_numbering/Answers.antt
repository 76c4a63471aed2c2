use Rattle.std.proofs.Common.{[], List, codes}
use Rattle.std.specs.List.{flat_map}
use Rattle.std.specs.Str.{chars}
use Rattle.std.specs.String.{string_bytes}
use Rattle.markup_nodes.specs.declared.words.Attr.{Attr}
use Rattle.tree_text.specs.Writing.{attr_text, tag_text}
use Rattle.written_model.specs.Styles.{number_attributes}
use Rattle.value_write.proofs.ChainLemmas.{three}
use Rattle.value_write.proofs.ElementLemmas.{empty_one}
use Rattle.sheet_write.proofs.levels.push_numbering.Goals as goal

pub returns : goal.returns
returns c =
    let tag = chars c.args.name.now in
    let attrs : List Attr = number_attributes c.args.level.now c.args.level.now.what in
    three c.push_empty_end.result (chars (string_bytes c.push_empty_end.new.out)) (chars (string_bytes c.push_number_attributes.new.out)) (chars (string_bytes c.push_name.new.out)) (chars (string_bytes c.args.out.now)) (tag_text tag []) (flat_map attr_text attrs) (codes "/>")
    c.in_ok-push_name.ensures c.in_ok-push_number_attributes.ensures c.push_empty_end.ensures (empty_one tag attrs)
