-- The name, the attributes, what ends the tag, and the source.
use Rattle.std.proofs.Common.{◌++◌, [], codes}
use Rattle.std.specs.List.{flat_map}
use Rattle.std.specs.Str.{chars}
use Rattle.std.specs.String.{string_bytes}
use Rattle.tree_text.specs.Writing.{attr_text, tag_text, content_text}
use Rattle.written_model.specs.Blocks.{source_element}
use Rattle.value_write.proofs.ChainLemmas.{four}
use Rattle.value_write.proofs.ElementLemmas.{attributes_on}
use Rattle.paragraph_write.specs.Around.{tag_close}
use Rattle.block_write.specs.Sections.{tag_attributes}
use Rattle.block_write.proofs.sections.push_section_start.Goals as goal

pub returns : goal.returns
unfolding chars
returns c =
    let name = codes "text:section" in
    let attrs = tag_attributes c.args.tag in
    let source = content_text (source_element c.args.tag.source.now) in
    four c.push_source.result (chars (string_bytes c.push_source.new.out)) (chars (string_bytes c.push_tag_close.new.out)) (chars (string_bytes c.push_attributes.new.out)) (chars (string_bytes c.push_name.new.out)) (chars (string_bytes c.args.out.now))
    (tag_text name []) (flat_map attr_text attrs) (tag_close c.args.holds) source
    c.in_ok-push_name.ensures c.in_ok-push_attributes.ensures c.in_ok-push_tag_close.ensures c.push_source.ensures (attributes_on name attrs (tag_close c.args.holds ++ source))
