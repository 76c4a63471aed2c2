-- What the names of levels and of their attributes mean.
use Rattle.std.proofs.Common.{◌≡◌, refl, codes}
use Rattle.load_model.specs.declared.names.Key.TheVariants as key
use Rattle.load_model.specs.declared.names.Tag.TheVariants as tag
use Rattle.load_model.specs.Names.{known_keys, known_tags}
use Rattle.back_names.specs.Named.{key_named, tag_named}

pub number_tag : tag_named (codes "text:list-level-style-number") ≡ tag.NumberLevel
unfolding tag_named known_tags
number_tag = refl

pub bullet_tag : tag_named (codes "text:list-level-style-bullet") ≡ tag.BulletLevel
unfolding tag_named known_tags
bullet_tag = refl

pub outline_level_tag : tag_named (codes "text:outline-level-style") ≡ tag.OutlineLevel
unfolding tag_named known_tags
outline_level_tag = refl

pub outline_tag : tag_named (codes "text:outline-style") ≡ tag.OutlineStyle
unfolding tag_named known_tags
outline_tag = refl

pub level_key : key_named (codes "text:level") ≡ key.Level
unfolding key_named known_keys
level_key = refl

pub format_key : key_named (codes "style:num-format") ≡ key.NumberFormat
unfolding key_named known_keys
format_key = refl

pub prefix_key : key_named (codes "style:num-prefix") ≡ key.NumberPrefix
unfolding key_named known_keys
prefix_key = refl

pub suffix_key : key_named (codes "style:num-suffix") ≡ key.NumberSuffix
unfolding key_named known_keys
suffix_key = refl

pub start_key : key_named (codes "text:start-value") ≡ key.StartValue
unfolding key_named known_keys
start_key = refl

pub display_key : key_named (codes "text:display-levels") ≡ key.DisplayLevels
unfolding key_named known_keys
display_key = refl

pub bullet_key : key_named (codes "text:bullet-char") ≡ key.BulletChar
unfolding key_named known_keys
bullet_key = refl
