-- What the names of headers and footers and of a master's layout mean.
use Rattle.std.proofs.Common.{◌≡◌, refl, codes}
use Rattle.load_model.specs.declared.names.Key.TheVariants as key
use Rattle.load_model.specs.declared.names.Tag.TheVariants as tag
use Rattle.load_model.specs.Names.{known_keys, known_tags}
use Rattle.back_names.specs.Named.{key_named, tag_named}

pub header_tag : tag_named (codes "style:header") ≡ tag.Header
unfolding tag_named known_tags
header_tag = refl

pub footer_tag : tag_named (codes "style:footer") ≡ tag.Footer
unfolding tag_named known_tags
footer_tag = refl

pub layout_key : key_named (codes "style:page-layout-name") ≡ key.Layout
unfolding key_named known_keys
layout_key = refl
