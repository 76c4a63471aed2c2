-- The names that an item has of its own.
use Rattle.std.specs.Prelude.{ℕ, List, [], map}
use Rattle.std.specs.List.{flat_map}
use Rattle.doc_model.specs.declared.paragraph.Item.{Item}
use Rattle.doc_model.specs.declared.paragraph.Note.{out-Note}
use Rattle.doc_model.specs.Reading.{note_of}
use Rattle.doc_model.specs.Parts.{mark_of, mark_name, field_of}
use Rattle.doc_model.specs.Valid.{refname_of}
use Rattle.name_index.specs.declared.names.NameKind.{NameKind}
use Rattle.name_index.specs.declared.names.NameKind.TheVariants as kinds

-- those of a kind: of its mark, of its sequence field, or of the note
abbrev pub item_names : NameKind → Item → List (List ℕ)
item_names kinds.Bookmark item = map mark_name (mark_of item)
item_names kinds.Section item = []
item_names kinds.Reference item = flat_map refname_of (field_of item)
item_names kinds.Note item = map (λ note. (out-Note note).id) (note_of item)
