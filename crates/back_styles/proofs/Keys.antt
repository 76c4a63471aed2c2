-- What the names of styles, of their properties and of their attributes mean.
use Rattle.std.proofs.Common.{◌≡◌, refl, codes}
use Rattle.load_model.specs.declared.names.Key.TheVariants as key
use Rattle.load_model.specs.declared.names.Tag.TheVariants as tag
use Rattle.load_model.specs.Names.{known_keys, known_tags}
use Rattle.back_names.specs.Named.{key_named, tag_named}

pub style_tag : tag_named (codes "style:style") ≡ tag.Style
unfolding tag_named known_tags
style_tag = refl

pub default_tag : tag_named (codes "style:default-style") ≡ tag.DefaultStyle
unfolding tag_named known_tags
default_tag = refl

pub paragraph_tag : tag_named (codes "style:paragraph-properties") ≡ tag.ParagraphProperties
unfolding tag_named known_tags
paragraph_tag = refl

pub text_tag : tag_named (codes "style:text-properties") ≡ tag.TextProperties
unfolding tag_named known_tags
text_tag = refl

pub name_key : key_named (codes "style:name") ≡ key.Name
unfolding key_named known_keys
name_key = refl

pub family_key : key_named (codes "style:family") ≡ key.Family
unfolding key_named known_keys
family_key = refl

pub parent_key : key_named (codes "style:parent-style-name") ≡ key.Parent
unfolding key_named known_keys
parent_key = refl

pub next_key : key_named (codes "style:next-style-name") ≡ key.Next
unfolding key_named known_keys
next_key = refl

pub master_key : key_named (codes "style:master-page-name") ≡ key.Master
unfolding key_named known_keys
master_key = refl

pub outline_key : key_named (codes "style:default-outline-level") ≡ key.DefaultOutlineLevel
unfolding key_named known_keys
outline_key = refl

pub left_key : key_named (codes "fo:margin-left") ≡ key.MarginLeft
unfolding key_named known_keys
left_key = refl

pub right_key : key_named (codes "fo:margin-right") ≡ key.MarginRight
unfolding key_named known_keys
right_key = refl

pub top_key : key_named (codes "fo:margin-top") ≡ key.MarginTop
unfolding key_named known_keys
top_key = refl

pub bottom_key : key_named (codes "fo:margin-bottom") ≡ key.MarginBottom
unfolding key_named known_keys
bottom_key = refl

pub indent_key : key_named (codes "fo:text-indent") ≡ key.Indent
unfolding key_named known_keys
indent_key = refl

pub align_key : key_named (codes "fo:text-align") ≡ key.Align
unfolding key_named known_keys
align_key = refl

pub before_key : key_named (codes "fo:break-before") ≡ key.BreakBefore
unfolding key_named known_keys
before_key = refl

pub after_key : key_named (codes "fo:break-after") ≡ key.BreakAfter
unfolding key_named known_keys
after_key = refl

pub keep_next_key : key_named (codes "fo:keep-with-next") ≡ key.KeepNext
unfolding key_named known_keys
keep_next_key = refl

pub keep_together_key : key_named (codes "fo:keep-together") ≡ key.KeepTogether
unfolding key_named known_keys
keep_together_key = refl

pub widows_key : key_named (codes "fo:widows") ≡ key.Widows
unfolding key_named known_keys
widows_key = refl

pub orphans_key : key_named (codes "fo:orphans") ≡ key.Orphans
unfolding key_named known_keys
orphans_key = refl

pub page_number_key : key_named (codes "style:page-number") ≡ key.PageNumber
unfolding key_named known_keys
page_number_key = refl

pub display_key : key_named (codes "text:display") ≡ key.Display
unfolding key_named known_keys
display_key = refl
