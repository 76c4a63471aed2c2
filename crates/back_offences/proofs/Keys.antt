-- What the names of the root and of what it holds mean.
use Rattle.std.proofs.Common.{◌≡◌, refl, codes}
use Rattle.load_model.specs.declared.names.Key.TheVariants as key
use Rattle.load_model.specs.declared.names.Tag.TheVariants as tag
use Rattle.load_model.specs.Names.{known_keys, known_tags}
use Rattle.back_names.specs.Named.{key_named, tag_named}

pub document_tag : tag_named (codes "office:document") ≡ tag.Document
unfolding tag_named known_tags
document_tag = refl

pub styles_tag : tag_named (codes "office:styles") ≡ tag.CommonStyles
unfolding tag_named known_tags
styles_tag = refl

pub automatic_tag : tag_named (codes "office:automatic-styles") ≡ tag.AutomaticStyles
unfolding tag_named known_tags
automatic_tag = refl

pub masters_tag : tag_named (codes "office:master-styles") ≡ tag.MasterStyles
unfolding tag_named known_tags
masters_tag = refl

pub body_tag : tag_named (codes "office:body") ≡ tag.Body
unfolding tag_named known_tags
body_tag = refl

pub text_tag : tag_named (codes "office:text") ≡ tag.Text
unfolding tag_named known_tags
text_tag = refl

pub office_key : key_named (codes "xmlns:office") ≡ key.Uncounted
unfolding key_named known_keys
office_key = refl

pub style_key : key_named (codes "xmlns:style") ≡ key.Uncounted
unfolding key_named known_keys
style_key = refl

pub words_key : key_named (codes "xmlns:text") ≡ key.Uncounted
unfolding key_named known_keys
words_key = refl

pub table_key : key_named (codes "xmlns:table") ≡ key.Uncounted
unfolding key_named known_keys
table_key = refl

pub format_key : key_named (codes "xmlns:fo") ≡ key.Uncounted
unfolding key_named known_keys
format_key = refl

pub link_key : key_named (codes "xmlns:xlink") ≡ key.Uncounted
unfolding key_named known_keys
link_key = refl

pub version_key : key_named (codes "office:version") ≡ key.Uncounted
unfolding key_named known_keys
version_key = refl

pub mimetype_key : key_named (codes "office:mimetype") ≡ key.Mimetype
unfolding key_named known_keys
mimetype_key = refl
