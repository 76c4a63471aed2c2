-- The names of a document are those that are gathered block by block.
use Rattle.std.proofs.Common.{◌≡◌, ◌<◌, ℕ, List, [], ◌∷◌, ◌++◌, map, take, length, get_or, zero, suc, arith, refl, sym, ap, ap₂, ◌∙◌, append-nil}
use Rattle.std.specs.List.{flat_map}
use Rattle.std.proofs.lemmas.List.Concat.{flat_map-cons, flat_map-append}
use Rattle.doc_model.specs.declared.block.Block.{Block, roll-Block}
use Rattle.doc_model.specs.declared.block.Block.TheOpen.{Block-F, Section-F}
use Rattle.doc_model.specs.declared.block.Block.TheFolds.{fold-roll-Block, fold-roll-Section}
use Rattle.doc_model.specs.declared.block.Block.TheViews.{roll-out-Section}
use Rattle.doc_model.specs.declared.block.Section.{Section, out-Section, roll-Section}
use Rattle.doc_model.specs.declared.paragraph.Par.{Par, out-Par}
use Rattle.doc_model.specs.declared.paragraph.ParId.{ParId}
use Rattle.doc_model.specs.declared.paragraph.Item.{Item}
use Rattle.doc_model.specs.declared.paragraph.Note.{Note, out-Note}
use Rattle.doc_model.specs.declared.document.Document.{Document}
use Rattle.doc_model.specs.Reading.{block_paragraphs, body_paragraphs, note_of}
use Rattle.name_index.specs.declared.names.NameKind.{NameKind}
use Rattle.name_index.specs.declared.names.NameKind.TheVariants as kinds
use Rattle.name_index.specs.Scan.{Placed, placed_items, placed_read, placed_in_reading_order, names_at, bookmark_names, reference_names, note_names, InBlock, in_block}
use Rattle.text_state.specs.NamePlaces.{item_names, item_places, par_places, read_places, text_places, block_places, section_places, first_inside, places_inside}

-- lists of lists joined twice
twice : {X Y Z : Type 0} (g : Y → List Z) (f : X → List Y) (h : X → List Z) → ((x : X) → flat_map g (f x) ≡ h x) → (xs : List X) → flat_map g (flat_map f xs) ≡ flat_map h xs
twice g f h e [] = refl
twice g f h e (x ∷ xs) =
    ap (flat_map g) (flat_map-cons f x xs) ∙ flat_map-append g (f x) (flat_map f xs) ∙ ap₂ (λ a b. a ++ b) (e x) (twice g f h e xs) ∙ sym (flat_map-cons h x xs)

mapped : {X Y Z : Type 0} (g : Y → List Z) (f : X → Y) (xs : List X) → flat_map g (map f xs) ≡ flat_map (λ x. g (f x)) xs
mapped g f [] = refl
mapped g f (x ∷ xs) = ap (λ more. g (f x) ++ more) (mapped g f xs)

-- one level of blocks
par_opens : (par : Par) → block_paragraphs (roll-Block (Block-F.Par par)) ≡ par ∷ []
par_opens par = simp fold-roll-Block

section_opens : (x : Section-F Block Section) → block_paragraphs (roll-Block (Block-F.Section (roll-Section x))) ≡ flat_map (λ pars. pars) (map block_paragraphs x.blocks)
section_opens x = simp (fold-roll-Block, fold-roll-Section)

section_paragraphs : (section : Section) → block_paragraphs (roll-Block (Block-F.Section section)) ≡ flat_map block_paragraphs (out-Section section).blocks
section_paragraphs section =
    ap (λ (s : Section). block_paragraphs (roll-Block (Block-F.Section s))) (sym (roll-out-Section section)) ∙ section_opens (out-Section section)
    ∙ mapped (λ (pars : List Par). pars) block_paragraphs (out-Section section).blocks

pub par_block : (kind : NameKind) (par : Par) → block_places kind (roll-Block (Block-F.Par par)) ≡ text_places kind par
par_block kind par = ap (flat_map (text_places kind)) (par_opens par) ∙ append-nil (text_places kind par)

pub section_block : (kind : NameKind) (section : Section) → block_places kind (roll-Block (Block-F.Section section)) ≡ section_places kind section
section_block kind section =
    ap (flat_map (text_places kind)) (section_paragraphs section)
    ∙ twice (text_places kind) block_paragraphs (block_places kind) (λ block. refl) (out-Section section).blocks

-- sections of blocks
par_in : (par : Par) → in_block (roll-Block (Block-F.Par par)) ≡ record { numbers = (out-Par par).id ∷ []; sections = [] }
par_in par = simp fold-roll-Block

section_in : (x : Section-F Block Section) → in_block (roll-Block (Block-F.Section (roll-Section x)))
    ≡ record {
      numbers = flat_map (λ inside. inside.numbers) (map in_block x.blocks);
      sections = map (λ number. (x.name, number)) (take 1 (flat_map (λ inside. inside.numbers) (map in_block x.blocks))) ++ flat_map (λ inside. inside.sections) (map in_block x.blocks);
    }
section_in x = simp (fold-roll-Block, fold-roll-Section)

pub par_numbers : (par : Par) → (in_block (roll-Block (Block-F.Par par))).numbers ≡ (out-Par par).id ∷ []
par_numbers par = ap (λ (inside : InBlock). inside.numbers) (par_in par)

pub par_sections : (par : Par) → (in_block (roll-Block (Block-F.Par par))).sections ≡ []
par_sections par = ap (λ (inside : InBlock). inside.sections) (par_in par)

pub section_numbers : (section : Section) → take 1 (in_block (roll-Block (Block-F.Section section))).numbers ≡ first_inside section
section_numbers section =
    ap (λ (s : Section). take 1 (in_block (roll-Block (Block-F.Section s))).numbers) (sym (roll-out-Section section))
    ∙ ap (λ (inside : InBlock). take 1 inside.numbers) (section_in (out-Section section))
    ∙ ap (take 1) (mapped (λ (inside : InBlock). inside.numbers) in_block (out-Section section).blocks)

pub section_sections : (section : Section) → (in_block (roll-Block (Block-F.Section section))).sections ≡ places_inside section
section_sections section =
    ap (λ (s : Section). (in_block (roll-Block (Block-F.Section s))).sections) (sym (roll-out-Section section))
    ∙ ap (λ (inside : InBlock). inside.sections) (section_in (out-Section section))
    ∙ ap₂ (λ (numbers : List ParId) (more : List (List ℕ × ParId)). map (λ number. ((out-Section section).name, number)) (take 1 numbers) ++ more)
    (mapped (λ (inside : InBlock). inside.numbers) in_block (out-Section section).blocks) (mapped (λ (inside : InBlock). inside.sections) in_block (out-Section section).blocks)

-- the first paragraph is that of the first block that has one
abbrev numbers_in : Block → List ParId
numbers_in block = (in_block block).numbers

front : (par : ParId) (numbers more : List ParId) → par ∷ [] ≡ take 1 numbers → par ∷ [] ≡ take 1 (numbers ++ more)
front par [] more e = absurd (let long = ap (length {A = ParId}) e in omega (arith, long))
front par (number ∷ numbers) more e = e

none_in_front : (numbers more : List ParId) → numbers ++ more ≡ [] → (numbers ≡ []) × (more ≡ [])
none_in_front [] more e = (refl, e)
none_in_front (number ∷ numbers) more e = absurd (let long = ap (length {A = ParId}) e in omega (arith, long))

pub first_found : (blocks : List Block) (at : ℕ) (block : Block) (par : ParId) → at < length blocks → block ≡ get_or blocks at block → flat_map numbers_in (take at blocks) ≡ []
    → par ∷ [] ≡ take 1 (numbers_in block) → par ∷ [] ≡ take 1 (flat_map numbers_in blocks)
first_found [] at block par within here none is = absurd (omega (arith, within))
first_found (one ∷ blocks) zero block par within here none is = front par (numbers_in one) (flat_map numbers_in blocks) (is ∙ ap (λ (b : Block). take 1 (numbers_in b)) here)
first_found (one ∷ blocks) (suc at) block par within here none is =
    let empty = none_in_front (numbers_in one) (flat_map numbers_in (take at blocks)) none in
    first_found blocks at block par (omega (arith, within)) here empty.1 is ∙ ap (λ front. take 1 (front ++ flat_map numbers_in blocks)) (sym empty.0)

-- the names of a kind along all items in reading order
module _ (kind : NameKind) where
  abbrev names_here : Placed → List (List ℕ × ParId)
  names_here = names_at (item_names kind)

  of_items : (par : Par) → flat_map names_here (placed_items par) ≡ par_places kind par
  of_items par = mapped names_here (λ (item : Item). ((out-Par par).id, item)) (out-Par par).items

  of_note : (note : Note) → flat_map names_here (flat_map placed_items (out-Note note).pars) ≡ flat_map (par_places kind) (out-Note note).pars
  of_note note = twice names_here placed_items (par_places kind) of_items (out-Note note).pars

  of_read : (par : ParId) (item : Item) → flat_map names_here ((par, item) ∷ flat_map (λ note. flat_map placed_items (out-Note note).pars) (note_of item)) ≡ read_places kind par item
  of_read par item = ap (λ more. item_places kind par item ++ more) (twice names_here (λ note. flat_map placed_items (out-Note note).pars) (λ note. flat_map (par_places kind) (out-Note note).pars) of_note (note_of item))

  of_text : (par : Par) → flat_map names_here (placed_read par) ≡ text_places kind par
  of_text par = twice names_here (λ item. ((out-Par par).id, item) ∷ flat_map (λ note. flat_map placed_items (out-Note note).pars) (note_of item)) (read_places kind (out-Par par).id) (of_read (out-Par par).id) (out-Par par).items

  of_blocks : (doc : Document) → flat_map names_here (placed_in_reading_order doc) ≡ flat_map (block_places kind) doc.body
  of_blocks doc = twice names_here placed_read (text_places kind) of_text (body_paragraphs doc) ∙ twice (text_places kind) block_paragraphs (block_places kind) (λ block. refl) doc.body

pub bookmarks_gathered : (doc : Document) → flat_map (block_places kinds.Bookmark) doc.body ≡ bookmark_names doc
bookmarks_gathered doc = sym (of_blocks kinds.Bookmark doc)

pub references_gathered : (doc : Document) → flat_map (block_places kinds.Reference) doc.body ≡ reference_names doc
references_gathered doc = sym (of_blocks kinds.Reference doc)

pub notes_gathered : (doc : Document) → flat_map (block_places kinds.Note) doc.body ≡ note_names doc
notes_gathered doc = sym (of_blocks kinds.Note doc)
