-- What the names of paragraphs, lists and notes mean.
use Rattle.std.proofs.Common.{◌≡◌, refl, codes}
use Rattle.load_model.specs.declared.names.Key.TheVariants as key
use Rattle.load_model.specs.declared.names.Tag.TheVariants as tag
use Rattle.load_model.specs.Names.{known_tags, known_keys}
use Rattle.back_names.specs.Named.{tag_named, key_named}

pub paragraph_tag : tag_named (codes "text:p") ≡ tag.Paragraph
unfolding tag_named known_tags
paragraph_tag = refl

pub heading_tag : tag_named (codes "text:h") ≡ tag.Heading
unfolding tag_named known_tags
heading_tag = refl

pub list_tag : tag_named (codes "text:list") ≡ tag.List
unfolding tag_named known_tags
list_tag = refl

pub item_tag : tag_named (codes "text:list-item") ≡ tag.ListItem
unfolding tag_named known_tags
item_tag = refl

pub header_tag : tag_named (codes "text:list-header") ≡ tag.ListHeader
unfolding tag_named known_tags
header_tag = refl

pub note_tag : tag_named (codes "text:note") ≡ tag.Note
unfolding tag_named known_tags
note_tag = refl

pub citation_tag : tag_named (codes "text:note-citation") ≡ tag.NoteCitation
unfolding tag_named known_tags
citation_tag = refl

pub body_tag : tag_named (codes "text:note-body") ≡ tag.NoteBody
unfolding tag_named known_tags
body_tag = refl

pub continue_key : key_named (codes "text:continue-numbering") ≡ key.ContinueNumbering
unfolding key_named known_keys
continue_key = refl

pub id_key : key_named (codes "text:id") ≡ key.Id
unfolding key_named known_keys
id_key = refl
