-- What the names of spans mean.
use Rattle.std.proofs.Common.{◌≡◌, refl, codes}
use Rattle.load_model.specs.declared.names.Tag.TheVariants as tag
use Rattle.load_model.specs.Names.{known_tags}
use Rattle.back_names.specs.Named.{tag_named}

pub span_tag : tag_named (codes "text:span") ≡ tag.Span
unfolding tag_named known_tags
span_tag = refl
