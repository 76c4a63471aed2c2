use Rattle.std.proofs.Common.{[], codes}
use Rattle.std.specs.List.{flat_map}
use Rattle.std.specs.Str.{chars}
use Rattle.std.specs.String.{string_bytes}
use Rattle.tree_text.specs.Writing.{attr_text, tag_text}
use Rattle.written_model.specs.Elements.{where_true}
use Rattle.value_write.proofs.ChainLemmas.{three}
use Rattle.value_write.proofs.ElementLemmas.{attributes_on}
use Rattle.paragraph_write.specs.Around.{tag_close}
use Rattle.text_write.proofs.text.push_start.Goals as goal

pub returns : goal.returns
unfolding chars
returns c =
    let name = codes "office:text" in
    let attrs = where_true (codes "text:global") (codes "true") c.args.global in
    three c.push_tag_close.result (chars (string_bytes c.push_tag_close.new.out)) (chars (string_bytes c.push_global.new.out)) (chars (string_bytes c.push_name.new.out)) (chars (string_bytes c.args.out.now))
    (tag_text name []) (flat_map attr_text attrs) (tag_close c.args.holds) c.in_ok-push_name.ensures c.in_ok-push_global.ensures c.push_tag_close.ensures (attributes_on name attrs (tag_close c.args.holds))
