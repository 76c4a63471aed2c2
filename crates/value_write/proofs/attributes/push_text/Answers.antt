use Rattle.std.proofs.Common.{[], ◌∷◌, ◌++◌, ap, ◌∙◌}
use Rattle.std.specs.Str.{chars}
use Rattle.std.specs.String.{string_bytes}
use Rattle.element_text.proofs.AddedLemmas.{last}
use Rattle.tree_text.specs.Writing.{attr_text}
use Rattle.written_model.specs.Elements.{attribute}
use Rattle.value_write.proofs.AttributeLemmas.{alone}
use Rattle.value_write.proofs.attributes.push_text.Goals as goal

pub returns : goal.returns
returns c =
    let attr = attribute (chars c.args.name.now) (chars c.args.value.now) in
    let old = chars (string_bytes c.args.out.now) in
    last c.push_attribute.result (chars (string_bytes c.push_attribute.new.out)) old (attr_text attr) c.push_attribute.ensures (ap (λ t. old ++ t) (alone attr))
