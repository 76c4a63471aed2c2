-- The names of a document as they are gathered: those of one kind, paragraph by paragraph, and those of its sections.
use Rattle.std.specs.Prelude.{ℕ, List, [], ◌++◌, map, take}
use Rattle.std.specs.List.{flat_map}
use Rattle.doc_model.specs.declared.block.Block.{Block}
use Rattle.doc_model.specs.declared.block.Section.{Section, out-Section}
use Rattle.doc_model.specs.declared.paragraph.Par.{Par, out-Par}
use Rattle.doc_model.specs.declared.paragraph.ParId.{ParId}
use Rattle.doc_model.specs.declared.paragraph.Item.{Item}
use Rattle.doc_model.specs.declared.paragraph.Note.{out-Note}
use Rattle.doc_model.specs.Reading.{block_paragraphs, note_of}
use Rattle.doc_model.specs.Parts.{mark_of, mark_name, field_of}
use Rattle.doc_model.specs.Valid.{refname_of}
use Rattle.name_index.specs.declared.names.NameKind.{NameKind}
use Rattle.name_index.specs.declared.names.NameKind.TheVariants as kinds
use Rattle.name_index.specs.declared.names.Named.{Named}
use Rattle.name_index.specs.Names.{Agree}
use Rattle.name_index.specs.Scan.{in_block}

-- the names that an item has of a kind
abbrev pub item_names : NameKind → Item → List (List ℕ)
item_names kinds.Bookmark item = map mark_name (mark_of item)
item_names kinds.Section item = []
item_names kinds.Reference item = flat_map refname_of (field_of item)
item_names kinds.Note item = map (λ note. (out-Note note).id) (note_of item)

-- the same with the item's paragraph
abbrev pub item_places : NameKind → ParId → Item → List (List ℕ × ParId)
item_places kind par item = map (λ name. (name, par)) (item_names kind item)

-- those of the items of a paragraph
abbrev pub par_places : NameKind → Par → List (List ℕ × ParId)
par_places kind par = flat_map (item_places kind (out-Par par).id) (out-Par par).items

-- those of an item as it is read: behind a note those of its paragraphs
abbrev pub read_places : NameKind → ParId → Item → List (List ℕ × ParId)
read_places kind par item = item_places kind par item ++ flat_map (λ note. flat_map (par_places kind) (out-Note note).pars) (note_of item)

-- those of a paragraph as it is read
abbrev pub text_places : NameKind → Par → List (List ℕ × ParId)
text_places kind par = flat_map (read_places kind (out-Par par).id) (out-Par par).items

-- those of a block
abbrev pub block_places : NameKind → Block → List (List ℕ × ParId)
block_places kind block = flat_map (text_places kind) (block_paragraphs block)

-- those of the blocks of a section
abbrev pub section_places : NameKind → Section → List (List ℕ × ParId)
section_places kind section = flat_map (block_places kind) (out-Section section).blocks

-- the first paragraph of a section, if it has one
abbrev pub first_inside : Section → List ParId
first_inside section = take 1 (flat_map (λ block. (in_block block).numbers) (out-Section section).blocks)

-- a section with its first paragraph
abbrev pub first_place : Section → List (List ℕ × ParId)
first_place section = map (λ number. ((out-Section section).name, number)) (first_inside section)

-- a section and those within it, each with its first paragraph
abbrev pub places_inside : Section → List (List ℕ × ParId)
places_inside section = first_place section ++ flat_map (λ block. (in_block block).sections) (out-Section section).blocks

-- what agreed with some names agrees with these and the given ones behind them
abbrev pub Follows : List Named → List Named → List Named → Type 0
Follows old new given = (names : List Named) → Agree old names → Agree new (names ++ given)
