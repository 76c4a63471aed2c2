-- What the names of page layouts and of their dimensions mean.
use Rattle.std.proofs.Common.{◌≡◌, refl, codes}
use Rattle.load_model.specs.declared.names.Key.TheVariants as key
use Rattle.load_model.specs.declared.names.Tag.TheVariants as tag
use Rattle.load_model.specs.Names.{known_keys, known_tags}
use Rattle.back_names.specs.Named.{key_named, tag_named}

pub part_tag : tag_named (codes "style:page-layout-properties") ≡ tag.PageLayoutProperties
unfolding tag_named known_tags
part_tag = refl

pub width_key : key_named (codes "fo:page-width") ≡ key.PageWidth
unfolding key_named known_keys
width_key = refl

pub height_key : key_named (codes "fo:page-height") ≡ key.PageHeight
unfolding key_named known_keys
height_key = refl
