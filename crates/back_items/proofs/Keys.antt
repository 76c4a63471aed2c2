-- What the names of items mean.
use Rattle.std.proofs.Common.{◌≡◌, refl, codes}
use Rattle.load_model.specs.declared.names.Key.TheVariants as key
use Rattle.load_model.specs.declared.names.Tag.TheVariants as tag
use Rattle.load_model.specs.Names.{known_tags, known_keys}
use Rattle.back_names.specs.Named.{tag_named, key_named}

pub spaces_tag : tag_named (codes "text:s") ≡ tag.Spaces
unfolding tag_named known_tags
spaces_tag = refl

pub tab_tag : tag_named (codes "text:tab") ≡ tag.Tab
unfolding tag_named known_tags
tab_tag = refl

pub break_tag : tag_named (codes "text:line-break") ≡ tag.LineBreak
unfolding tag_named known_tags
break_tag = refl

pub bookmark_tag : tag_named (codes "text:bookmark") ≡ tag.Bookmark
unfolding tag_named known_tags
bookmark_tag = refl

pub bookmark_start_tag : tag_named (codes "text:bookmark-start") ≡ tag.BookmarkStart
unfolding tag_named known_tags
bookmark_start_tag = refl

pub bookmark_end_tag : tag_named (codes "text:bookmark-end") ≡ tag.BookmarkEnd
unfolding tag_named known_tags
bookmark_end_tag = refl

pub count_key : key_named (codes "text:c") ≡ key.Count
unfolding key_named known_keys
count_key = refl
