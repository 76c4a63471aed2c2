-- Which names a document has, and which paragraph each leads to.
use Rattle.std.specs.Prelude.{ℕ, List, [], ◌∷◌, ◌++◌, map, take, find, Option, None}
use Rattle.std.specs.List.{flat_map}
use Rattle.std.specs.Option.{option_map}
use Rattle.std.specs.Str.{bytes_eq}
use Rattle.doc_model.specs.declared.block.Block.{Block, fold-Block}
use Rattle.doc_model.specs.declared.block.Block.TheOpen.{Block-F, Section-F}
use Rattle.doc_model.specs.declared.paragraph.Par.{Par, out-Par}
use Rattle.doc_model.specs.declared.paragraph.ParId.{ParId}
use Rattle.doc_model.specs.declared.paragraph.Item.{Item}
use Rattle.doc_model.specs.declared.paragraph.Note.{out-Note}
use Rattle.doc_model.specs.declared.document.Document.{Document}
use Rattle.doc_model.specs.Reading.{body_paragraphs, note_of}
use Rattle.doc_model.specs.Parts.{items_of, mark_of, mark_name, field_of}
use Rattle.doc_model.specs.Valid.{refname_of}
use Rattle.name_index.specs.declared.names.NameKind.{NameKind}
use Rattle.name_index.specs.declared.names.NameKind.TheVariants as kinds
use Rattle.name_index.specs.declared.names.Named.{Named}
use Rattle.name_index.specs.Names.{of_kinds}

-- an item with the number of its paragraph
abbrev pub Placed : Type 0
Placed = ParId × Item

-- the items of a paragraph, each with its number
abbrev pub placed_items : Par → List Placed
placed_items par = map (λ item. ((out-Par par).id, item)) (items_of par)

-- the items of a paragraph as they are read: behind a note those of its paragraphs
abbrev pub placed_read : Par → List Placed
placed_read par = flat_map (λ item. ((out-Par par).id, item) ∷ flat_map (λ note. flat_map placed_items (out-Note note).pars) (note_of item)) (items_of par)

-- all items in reading order
abbrev pub placed_in_reading_order : Document → List Placed
placed_in_reading_order doc = flat_map placed_read (body_paragraphs doc)

-- names of an item, each with the item's paragraph
abbrev pub names_at : (Item → List (List ℕ)) → Placed → List (List ℕ × ParId)
names_at names placed = map (λ name. (name, placed.0)) (names placed.1)

-- the bookmarks' marks in reading order
abbrev pub bookmark_names : Document → List (List ℕ × ParId)
bookmark_names doc = flat_map (names_at (λ item. map mark_name (mark_of item))) (placed_in_reading_order doc)

-- the sequence fields in reading order, by their reference names
abbrev pub reference_names : Document → List (List ℕ × ParId)
reference_names doc = flat_map (names_at (λ item. flat_map refname_of (field_of item))) (placed_in_reading_order doc)

-- the notes' items in reading order, by the notes' ids
abbrev pub note_names : Document → List (List ℕ × ParId)
note_names doc = flat_map (names_at (λ item. map (λ note. (out-Note note).id) (note_of item))) (placed_in_reading_order doc)

-- the paragraphs of a block, and its sections with their first paragraphs
pub record InBlock : Type 0 where
  pub numbers : List ParId
  pub sections : List (List ℕ × ParId)

-- those of a block: a section's paragraphs are those of its blocks, and its first one is the first of these
abbrev pub in_block : Block → InBlock
in_block = fold-Block InBlock InBlock of_block of_section where
  of_block : Block-F InBlock InBlock → InBlock
  of_block (Block-F.Par par) = record { numbers = (out-Par par).id ∷ []; sections = [] }
  of_block (Block-F.Section inside) = inside

  of_section : Section-F InBlock InBlock → InBlock
  of_section section =
      let numbers : List ParId = flat_map (λ inside. inside.numbers) section.blocks in
      record { numbers = numbers; sections = map (λ number. (section.name, number)) (take 1 numbers) ++ flat_map (λ inside. inside.sections) section.blocks }

-- the sections in reading order, outer ones first
abbrev pub section_names : Document → List (List ℕ × ParId)
section_names doc = flat_map (λ block. (in_block block).sections) doc.body

-- the names of a kind, in reading order
abbrev pub names_of_kind : Document → NameKind → List (List ℕ × ParId)
names_of_kind doc kinds.Bookmark = bookmark_names doc
names_of_kind doc kinds.Section = section_names doc
names_of_kind doc kinds.Reference = reference_names doc
names_of_kind doc kinds.Note = note_names doc

-- what a scan of the document finds: the paragraph of the first one of this kind and name in reading order. The empty name names nothing
abbrev pub scanned : Document → NameKind → List ℕ → Option ParId
scanned doc kind [] = None
scanned doc kind (letter ∷ letters) = option_map (λ pair. pair.1) (find (λ pair. bytes_eq (letter ∷ letters) pair.0) (names_of_kind doc kind))

-- those whose name isn't empty
abbrev pub given : List (List ℕ × ParId) → List (List ℕ × ParId)
given [] = []
given (([], par) ∷ pairs) = given pairs
given ((letter ∷ letters, par) ∷ pairs) = (letter ∷ letters, par) ∷ given pairs

-- the names of a document
abbrev pub names_of : Document → List Named
names_of doc = of_kinds (given (names_of_kind doc kinds.Bookmark)) (given (names_of_kind doc kinds.Section)) (given (names_of_kind doc kinds.Reference)) (given (names_of_kind doc kinds.Note))
