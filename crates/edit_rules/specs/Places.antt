-- Where paragraphs stand: the containers that hold them, the sections around them, and the places between items in reading order.
use Rattle.std.specs.Prelude.{ℕ, ◌+◌, ◌==◌, ◌&&◌, nat_lt, Bool, false, List, [], ◌∷◌, ◌++◌, map, length, take, drop, find, slice_get, Option, Some, None, unwrap_or, option_to_list}
use Rattle.std.specs.List.{flat_map, list_any, position_or_len}
use Rattle.std.specs.Option.{option_map_or}
use Rattle.doc_model.specs.declared.block.Block.{Block, out-Block, roll-Block, fold-Block}
use Rattle.doc_model.specs.declared.block.Block.TheOpen.{Block-F, Section-F}
use Rattle.doc_model.specs.declared.block.Section.{Section}
use Rattle.doc_model.specs.declared.paragraph.Par.{Par}
use Rattle.doc_model.specs.declared.paragraph.Note.{Note, out-Note}
use Rattle.doc_model.specs.declared.paragraph.ParId.{ParId}
use Rattle.doc_model.specs.declared.edit.Pos.{Pos}
use Rattle.doc_model.specs.declared.document.Document.{Document}
use Rattle.doc_model.specs.Reading.{paragraphs, body_paragraphs, number_of, note_of, notes_of, with_notes, upwards}
use Rattle.doc_model.specs.Parts.{SectionHead, items_of, notes}

-- the items from the first that passes a test on
abbrev pub from_first : {X : Type 0} → (X → Bool) → List X → List X
from_first test items = drop (position_or_len test items) items

-- the items up to the first that passes a test, with it
abbrev pub through_first : {X : Type 0} → (X → Bool) → List X → List X
through_first test items = take (position_or_len test items + 1) items

-- whether a number is one of these
abbrev pub is_one_of : List ℕ → ℕ → Bool
is_one_of numbers number = list_any (λ other. other == number) numbers

-- the paragraph with this number, if it is live
abbrev pub live_paragraph : Document → ParId → Option Par
live_paragraph doc par = find (λ other. number_of other == par.0) (paragraphs doc)

-- how many items a paragraph has
abbrev pub item_count : Document → ParId → ℕ
item_count doc par = option_map_or (λ live. length (items_of live)) (live_paragraph doc par) 0

-- a paragraph as a block
abbrev pub as_block : Par → Block
as_block par = roll-Block (Block-F.Par par)

-- the paragraph that a block is, if it is one
abbrev pub paragraph_of : Block → List Par
paragraph_of block = of_block (out-Block block) where
  of_block : Block-F Block Section → List Par
  of_block (Block-F.Par par) = par ∷ []
  of_block (Block-F.Section section) = []

-- whether a block is the paragraph with this number
abbrev pub is_paragraph : ℕ → Block → Bool
is_paragraph number block = list_any (λ par. number_of par == number) (paragraph_of block)

-- what a container holds, one after another: paragraphs, and None for each section
abbrev pub Held : Type 0
Held = List (Option Par)

-- what a block is in its container, and the containers within it
pub record WithContainers : Type 0 where
  pub held : Option Par
  pub within : List Held

-- a note is a container of its paragraphs
abbrev pub note_container : Note → Held
note_container note = map Some (out-Note note).pars

-- a block with the containers within it: sections and notes, outer ones first
abbrev pub with_containers : Block → WithContainers
with_containers = fold-Block WithContainers (List Held) of_block of_section where
  of_block : Block-F WithContainers (List Held) → WithContainers
  of_block (Block-F.Par par) = record { held = Some par; within = map note_container (notes_of par) }
  of_block (Block-F.Section within) = record { held = None; within = within }

  of_section : Section-F WithContainers (List Held) → List Held
  of_section section = map (λ block. block.held) section.blocks ∷ flat_map (λ block. block.within) section.blocks

-- the containers: the body, each section and each note
abbrev pub containers : Document → List Held
containers doc = map (λ block. (with_containers block).held) doc.body ∷ flat_map (λ block. (with_containers block).within) doc.body

-- whether the paragraph with this number is held here
abbrev pub is_held : ℕ → Option Par → Bool
is_held number held = option_map_or (λ par. number_of par == number) held false

-- whether a container holds the paragraph with this number, not counting what its sections and notes hold
abbrev pub holds : ℕ → Held → Bool
holds number container = list_any (is_held number) container

-- the container of a paragraph
abbrev pub container_of : Document → ParId → Held
container_of doc par = unwrap_or (find (holds par.0) (containers doc)) []

-- what its container holds from a paragraph on
abbrev pub held_from : Document → ParId → Held
held_from doc par = from_first (is_held par.0) (container_of doc par)

-- what its container holds from one paragraph to another
abbrev pub held_between : Document → ParId → ParId → Held
held_between doc first last = through_first (is_held last.0) (held_from doc first)

-- whether two paragraphs stand in one container, the first not behind the last
abbrev pub are_in_order : Document → ParId → ParId → Bool
are_in_order doc first last = holds last.0 (held_from doc first)

-- whether a paragraph stands in a note
abbrev pub is_in_note : Document → ParId → Bool
is_in_note doc par = list_any (λ note. holds par.0 (note_container note)) (notes doc)

-- the paragraphs of each text, by number: the body is one text, and each note is another
abbrev pub text_numbers : Document → List (List ℕ)
text_numbers doc = map number_of (body_paragraphs doc) ∷ map (λ note. map number_of (out-Note note).pars) (notes doc)

-- whether two paragraphs stand in one text
abbrev pub are_in_one_text : Document → ParId → ParId → Bool
are_in_one_text doc left right = list_any (λ numbers. is_one_of numbers left.0 && is_one_of numbers right.0) (text_numbers doc)

-- a section without its blocks, and how many they are
abbrev pub head_of : {B S : Type 0} → Section-F B S → SectionHead
head_of section = record { kind = section.kind; name = section.name; style = section.style; protected = section.protected; hidden = section.hidden; source = section.source; blocks = length section.blocks }

-- a paragraph with the sections around it, the innermost first. Around a note's paragraph are those around its anchor
pub record Placed : Type 0 where
  pub par : Par
  pub around : List SectionHead

-- a paragraph that nothing is around yet
abbrev pub unplaced : Par → Placed
unplaced par = record { par = par; around = [] }

-- a paragraph with one more section around it
abbrev pub placed_within : SectionHead → Placed → Placed
placed_within section placed = record placed { around = placed.around ++ section ∷ [] }

-- the paragraphs of a block with the sections around them
abbrev pub placed_in : Block → List Placed
placed_in = fold-Block (List Placed) (List Placed) of_block of_section where
  of_block : Block-F (List Placed) (List Placed) → List Placed
  of_block (Block-F.Par par) = map unplaced (with_notes par)
  of_block (Block-F.Section placed) = placed

  of_section : Section-F (List Placed) (List Placed) → List Placed
  of_section section = map (placed_within (head_of section)) (flat_map (λ placed. placed) section.blocks)

-- all paragraphs in reading order, with the sections around them
abbrev pub placed_paragraphs : Document → List Placed
placed_paragraphs doc = flat_map placed_in doc.body

-- each section of a block, followed by those around it, the innermost first
abbrev pub nested_in : Block → List (List SectionHead)
nested_in = fold-Block (List (List SectionHead)) (List (List SectionHead)) of_block of_section where
  of_block : Block-F (List (List SectionHead)) (List (List SectionHead)) → List (List SectionHead)
  of_block (Block-F.Par par) = []
  of_block (Block-F.Section nested) = nested

  of_section : Section-F (List (List SectionHead)) (List (List SectionHead)) → List (List SectionHead)
  of_section section = map (λ nested. nested ++ head_of section ∷ []) ([] ∷ flat_map (λ nested. nested) section.blocks)

-- each section in reading order, followed by those around it
abbrev pub nested_sections : Document → List (List SectionHead)
nested_sections doc = flat_map nested_in doc.body

-- the places of a note's paragraph, from before its first item to behind its last
abbrev pub note_places : Par → List (ℕ × ℕ)
note_places par = map (λ at. (number_of par, at)) (upwards 0 (length (items_of par) + 1))

-- the note that stands behind a place, if one does
abbrev pub note_behind : Par → ℕ → List Note
note_behind par at = flat_map note_of (option_to_list (slice_get (items_of par) at))

-- a place of a body's paragraph, and then those of the note that stands behind it
abbrev pub places_at : Par → ℕ → List (ℕ × ℕ)
places_at par at = (number_of par, at) ∷ flat_map (λ note. flat_map note_places (out-Note note).pars) (note_behind par at)

-- all places in reading order, each by the number of its paragraph and how many items stand before it there
abbrev pub places_read : Document → List (ℕ × ℕ)
places_read doc = flat_map (λ par. flat_map (places_at par) (upwards 0 (length (items_of par) + 1))) (body_paragraphs doc)

-- how many places stand before one in reading order
abbrev pub places_before : Document → Pos → ℕ
places_before doc place = position_or_len (λ other. other.0 == place.par.0 && other.1 == place.at) (places_read doc)

-- whether a place stands after another in reading order
abbrev pub stands_after : Document → Pos → Pos → Bool
stands_after doc place other = nat_lt (places_before doc other) (places_before doc place)
