-- What the names of the parts of a file mean, and those of the attributes of its root.
use Rattle.std.proofs.Common.{◌≡◌, refl, codes}
use Rattle.load_model.specs.declared.names.Key.TheVariants as key
use Rattle.load_model.specs.declared.names.Tag.TheVariants as tag
use Rattle.load_model.specs.Names.{known_keys, known_tags}
use Rattle.back_names.specs.Named.{key_named, tag_named}

pub common_tag : tag_named (codes "office:styles") ≡ tag.CommonStyles
unfolding tag_named known_tags
common_tag = refl

pub automatic_tag : tag_named (codes "office:automatic-styles") ≡ tag.AutomaticStyles
unfolding tag_named known_tags
automatic_tag = refl

pub masters_tag : tag_named (codes "office:master-styles") ≡ tag.MasterStyles
unfolding tag_named known_tags
masters_tag = refl

pub body_tag : tag_named (codes "office:body") ≡ tag.Body
unfolding tag_named known_tags
body_tag = refl

pub text_tag : tag_named (codes "office:text") ≡ tag.Text
unfolding tag_named known_tags
text_tag = refl

pub layout_tag : tag_named (codes "style:page-layout") ≡ tag.PageLayout
unfolding tag_named known_tags
layout_tag = refl

pub master_tag : tag_named (codes "style:master-page") ≡ tag.MasterPage
unfolding tag_named known_tags
master_tag = refl

pub list_tag : tag_named (codes "text:list-style") ≡ tag.ListStyle
unfolding tag_named known_tags
list_tag = refl

pub global_key : key_named (codes "text:global") ≡ key.Global
unfolding key_named known_keys
global_key = refl

pub mimetype_key : key_named (codes "office:mimetype") ≡ key.Mimetype
unfolding key_named known_keys
mimetype_key = refl

pub version_key : key_named (codes "office:version") ≡ key.Uncounted
unfolding key_named known_keys
version_key = refl

pub office_key : key_named (codes "xmlns:office") ≡ key.Uncounted
unfolding key_named known_keys
office_key = refl

pub style_key : key_named (codes "xmlns:style") ≡ key.Uncounted
unfolding key_named known_keys
style_key = refl

pub words_key : key_named (codes "xmlns:text") ≡ key.Uncounted
unfolding key_named known_keys
words_key = refl

pub table_key : key_named (codes "xmlns:table") ≡ key.Uncounted
unfolding key_named known_keys
table_key = refl

pub format_key : key_named (codes "xmlns:fo") ≡ key.Uncounted
unfolding key_named known_keys
format_key = refl

pub link_key : key_named (codes "xmlns:xlink") ≡ key.Uncounted
unfolding key_named known_keys
link_key = refl
