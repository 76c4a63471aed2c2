use Rattle.std.proofs.Common.{[], ◌∷◌, List, codes}
use Rattle.std.specs.List.{flat_map}
use Rattle.std.specs.Str.{chars}
use Rattle.std.specs.String.{string_bytes}
use Rattle.markup_nodes.specs.declared.words.Attr.{Attr}
use Rattle.tree_text.specs.Writing.{attr_text, tag_text}
use Rattle.written_model.specs.Elements.{attribute}
use Rattle.field_write.specs.Held.{held_text}
use Rattle.field_write.proofs.HeldLemmas.{holding}
use Rattle.value_write.proofs.ChainLemmas.{three}
use Rattle.field_write.proofs.kinds.push_variable_set.Goals as goal

pub returns : goal.returns
unfolding chars
returns c =
    let tag = codes "text:variable-set" in
    let attrs : List Attr = attribute (codes "text:name") (chars c.args.name.now) ∷ [] in
    let value = chars c.args.value.now in
    three c.push_held.result (chars (string_bytes c.push_held.new.out)) (chars (string_bytes c.push_text.new.out)) (chars (string_bytes c.push_name.new.out)) (chars (string_bytes c.args.out.now))
    (tag_text tag []) (flat_map attr_text attrs) (held_text tag value) c.in_ok-push_name.ensures c.in_ok-push_text.ensures c.push_held.ensures (holding tag attrs value)
