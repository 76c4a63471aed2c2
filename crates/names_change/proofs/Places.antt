-- The names of items with their paragraphs, as a scan of a document reads them.
use Rattle.std.proofs.Common.{◌≡◌, ℕ, List, ◌∷◌, ◌++◌, map, refl, sym, ap, ◌∙◌}
use Rattle.std.specs.List.{flat_map}
use Rattle.doc_model.specs.declared.block.Block.{Block}
use Rattle.doc_model.specs.declared.document.Document.{Document}
use Rattle.doc_model.specs.declared.paragraph.Par.{Par, out-Par}
use Rattle.doc_model.specs.declared.paragraph.ParId.{ParId}
use Rattle.doc_model.specs.declared.paragraph.Item.{Item}
use Rattle.doc_model.specs.declared.paragraph.Note.{Note, out-Note}
use Rattle.doc_model.specs.Reading.{block_paragraphs, body_paragraphs, note_of}
use Rattle.name_index.specs.declared.names.NameKind.{NameKind}
use Rattle.name_index.specs.declared.names.NameKind.TheVariants as kinds
use Rattle.name_index.specs.Scan.{Placed, placed_items, placed_read, placed_in_reading_order, names_at, bookmark_names, reference_names, note_names}
use Rattle.paragraph_rows.proofs.Lists.{joined_map, same_joined, twice}
use Rattle.names_change.specs.ItemNames.{item_names}

module _ (kind : NameKind) where
  -- those of an item, and of a paragraph
  abbrev pub item_places : ParId → Item → List (List ℕ × ParId)
  item_places par item = map (λ name. (name, par)) (item_names kind item)

  abbrev pub par_places : Par → List (List ℕ × ParId)
  par_places par = flat_map (item_places (out-Par par).id) (out-Par par).items

  -- those of an item and of a paragraph as they are read: behind a note those of its paragraphs
  abbrev pub read_places : ParId → Item → List (List ℕ × ParId)
  read_places par item = item_places par item ++ flat_map (λ note. flat_map par_places (out-Note note).pars) (note_of item)

  abbrev pub text_places : Par → List (List ℕ × ParId)
  text_places par = flat_map (read_places (out-Par par).id) (out-Par par).items

  -- those of a block
  abbrev pub block_places : Block → List (List ℕ × ParId)
  block_places block = flat_map text_places (block_paragraphs block)

  abbrev names_here : Placed → List (List ℕ × ParId)
  names_here = names_at (item_names kind)

  over : {X Y Z : Type 0} (g : Y → List Z) (f : X → List Y) (h : X → List Z) → ((x : X) → flat_map g (f x) ≡ h x) → (xs : List X) → flat_map g (flat_map f xs) ≡ flat_map h xs
  over g f h e xs = twice g f xs ∙ same_joined (λ x. flat_map g (f x)) h e xs

  of_items : (par : Par) → flat_map names_here (placed_items par) ≡ par_places par
  of_items par = joined_map names_here (λ (item : Item). ((out-Par par).id, item)) (out-Par par).items

  of_note : (note : Note) → flat_map names_here (flat_map placed_items (out-Note note).pars) ≡ flat_map par_places (out-Note note).pars
  of_note note = over names_here placed_items par_places of_items (out-Note note).pars

  of_read : (par : ParId) (item : Item) → flat_map names_here ((par, item) ∷ flat_map (λ note. flat_map placed_items (out-Note note).pars) (note_of item)) ≡ read_places par item
  of_read par item = ap (λ more. item_places par item ++ more) (over names_here (λ note. flat_map placed_items (out-Note note).pars) (λ note. flat_map par_places (out-Note note).pars) of_note (note_of item))

  of_text : (par : Par) → flat_map names_here (placed_read par) ≡ text_places par
  of_text par = over names_here (λ item. ((out-Par par).id, item) ∷ flat_map (λ note. flat_map placed_items (out-Note note).pars) (note_of item)) (read_places (out-Par par).id) (of_read (out-Par par).id) (out-Par par).items

  pub of_blocks : (doc : Document) → flat_map names_here (placed_in_reading_order doc) ≡ flat_map block_places doc.body
  of_blocks doc = over names_here placed_read text_places of_text (body_paragraphs doc) ∙ over text_places block_paragraphs block_places (λ block. refl) doc.body

pub bookmarks_gathered : (doc : Document) → flat_map (block_places kinds.Bookmark) doc.body ≡ bookmark_names doc
bookmarks_gathered doc = sym (of_blocks kinds.Bookmark doc)

pub references_gathered : (doc : Document) → flat_map (block_places kinds.Reference) doc.body ≡ reference_names doc
references_gathered doc = sym (of_blocks kinds.Reference doc)

pub notes_gathered : (doc : Document) → flat_map (block_places kinds.Note) doc.body ≡ note_names doc
notes_gathered doc = sym (of_blocks kinds.Note doc)
