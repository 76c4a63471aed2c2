-- What the names of fields and of their attributes mean.
use Rattle.std.proofs.Common.{◌≡◌, refl, codes}
use Rattle.load_model.specs.declared.names.Key.TheVariants as key
use Rattle.load_model.specs.declared.names.Tag.TheVariants as tag
use Rattle.load_model.specs.Names.{known_tags, known_keys}
use Rattle.back_names.specs.Named.{tag_named, key_named}

pub sequence_tag : tag_named (codes "text:sequence") ≡ tag.Sequence
unfolding tag_named known_tags
sequence_tag = refl

pub variable_set_tag : tag_named (codes "text:variable-set") ≡ tag.VariableSet
unfolding tag_named known_tags
variable_set_tag = refl

pub variable_get_tag : tag_named (codes "text:variable-get") ≡ tag.VariableGet
unfolding tag_named known_tags
variable_get_tag = refl

pub chapter_tag : tag_named (codes "text:chapter") ≡ tag.Chapter
unfolding tag_named known_tags
chapter_tag = refl

pub page_number_tag : tag_named (codes "text:page-number") ≡ tag.PageNumber
unfolding tag_named known_tags
page_number_tag = refl

pub page_count_tag : tag_named (codes "text:page-count") ≡ tag.PageCount
unfolding tag_named known_tags
page_count_tag = refl

pub bookmark_ref_tag : tag_named (codes "text:bookmark-ref") ≡ tag.BookmarkReference
unfolding tag_named known_tags
bookmark_ref_tag = refl

pub sequence_ref_tag : tag_named (codes "text:sequence-ref") ≡ tag.SequenceReference
unfolding tag_named known_tags
sequence_ref_tag = refl

pub note_ref_tag : tag_named (codes "text:note-ref") ≡ tag.NoteReference
unfolding tag_named known_tags
note_ref_tag = refl

pub name_key : key_named (codes "text:name") ≡ key.TextName
unfolding key_named known_keys
name_key = refl

pub ref_name_key : key_named (codes "text:ref-name") ≡ key.ReferenceName
unfolding key_named known_keys
ref_name_key = refl

pub format_key : key_named (codes "style:num-format") ≡ key.NumberFormat
unfolding key_named known_keys
format_key = refl

pub display_key : key_named (codes "text:display") ≡ key.Display
unfolding key_named known_keys
display_key = refl

pub outline_level_key : key_named (codes "text:outline-level") ≡ key.OutlineLevel
unfolding key_named known_keys
outline_level_key = refl

pub select_page_key : key_named (codes "text:select-page") ≡ key.SelectPage
unfolding key_named known_keys
select_page_key = refl

pub page_adjust_key : key_named (codes "text:page-adjust") ≡ key.PageAdjust
unfolding key_named known_keys
page_adjust_key = refl

pub reference_format_key : key_named (codes "text:reference-format") ≡ key.ReferenceFormat
unfolding key_named known_keys
reference_format_key = refl

pub note_class_key : key_named (codes "text:note-class") ≡ key.NoteClass
unfolding key_named known_keys
note_class_key = refl
