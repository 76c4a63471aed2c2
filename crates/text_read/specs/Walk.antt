-- What an element gives where it stands, as the code adds it.
use Rattle.std.specs.Prelude.{◌≡◌, ◌<◌, ℕ, Bool, true, false, if◌then◌else◌, List, [], ◌∷◌, ◌++◌, map, length, Option}
use Rattle.std.specs.List.{AllByRecursion as Each}
use Rattle.item_spaces.specs.declared.spacing.SpacedItems.{SpacedItems}
use Rattle.doc_model.specs.declared.style.Family.TheVariants as family
use Rattle.element_parts.specs.declared.left.LeftOut.{LeftOut}
use Rattle.load_model.specs.declared.element.Element.{Element, out-Element}
use Rattle.load_model.specs.Blocks as blocks
use Rattle.load_model.specs.Blocks.{Known, Around, ReadBlocks, ReadContent, gives_of, joined_blocks, is_directly_in, list_place, as_block, blocks_with, blocks_alone, left_by, note_blocks, note_content, one_element, section_blocks, list_blocks}
use Rattle.load_model.specs.Content.{Raw, items_of_raw}
use Rattle.load_model.specs.Left.{attributes_of, children}
use Rattle.sheet_names.specs.Known.{names_with}
use Rattle.block_parts.specs.declared.lists.Lists.{Lists}
use Rattle.block_parts.specs.Lists.{StandsIn}
use Rattle.block_parts.specs.Values.{paragraph_by}
use Rattle.block_parts.specs.declared.begins.Begins.TheVariants as begins
use Rattle.read_blocks.specs.declared.read.ReadBlocks.{ReadBlocks as Read}
use Rattle.read_blocks.specs.Adds.{Adds, one_block}
use Rattle.read_blocks.specs.First.{behind, first_place, with_first}
use Rattle.read_blocks.specs.Kept.{kept_raws}
use Rattle.content_read.specs.Adds.{Adds as AddsRaws}
use Rattle.content_read.specs.Held.{content_at, content_in}
use Rattle.content_read.specs.declared.known.Known.{Known as Kept}
use Rattle.content_read.specs.Known.{IsKnown}

-- blocks that are added within so many lists, of which none stands directly in fewer
pub record Enters (at : blocks.Lists) (old new : Read) (more : ReadBlocks) : Type 0 where
  pub adds : Adds at.in_note old new more
  pub within : (level : ℕ) → level < at.level → Each (λ block. is_directly_in level block ≡ false) more.blocks

-- the same, with the place of the first paragraph directly in these lists, if there is one
pub record Enlists (at : blocks.Lists) (old new : Read) (first : Option ℕ) (more : ReadBlocks) : Type 0 where
  pub enters : Enters at old new more
  pub first_is : first ≡ behind (length old.blocks.items) (first_place (is_directly_in at.level) more.blocks)

-- what is added here, for all that is known
abbrev pub EntersHere : Kept → Lists → Read → Read → (Known → blocks.Lists → ReadBlocks) → Type 0
EntersHere known lists old new more = (model : Known) (at : blocks.Lists) → IsKnown known model → StandsIn lists at → Enters at old new (more model at)

abbrev pub EnlistsHere : Kept → Lists → Read → Read → Option ℕ → (Known → blocks.Lists → ReadBlocks) → Type 0
EnlistsHere known lists old new first more = (model : Known) (at : blocks.Lists) → IsKnown known model → StandsIn lists at → Enlists at old new first (more model at)

-- content with the list places in its notes
abbrev pub kept_content : Bool → ReadContent → ReadContent
kept_content in_note content = record content { raws = kept_raws in_note content.raws }

-- content that is added within these spans, in a note or not
abbrev pub ReadsHere : Kept → List (List ℕ) → Bool → SpacedItems → SpacedItems → LeftOut → (Known → Around → ReadContent) → Type 0
ReadsHere known spans in_note old new left more =
    (model : Known) → IsKnown known model → AddsRaws old new left (kept_content in_note (more model (record { spans = spans; in_note = in_note })))

-- what an element gives where blocks are read, and where the entries of a list are
abbrev pub blocks_at : Element → Known → blocks.Lists → ReadBlocks
blocks_at element known at = (gives_of known element).blocks at

abbrev pub entry_at : Element → Known → blocks.Lists → ReadBlocks
entry_at element known at = (gives_of known element).entry at

-- what the elements give that an element holds, where blocks are read, and where entries are
abbrev pub blocks_in : Element → Known → blocks.Lists → ReadBlocks
blocks_in element known at = joined_blocks (map (λ inner. blocks_at inner known at) (children element))

abbrev pub entries_in : Element → Known → blocks.Lists → ReadBlocks
entries_in element known at = joined_blocks (map (λ inner. entry_at inner known at) (children element))

-- what an entry of a list holds
abbrev pub held_in : Element → Known → blocks.Lists → ReadBlocks
held_in element known at = blocks_with (left_by [] (attributes_of element)) (blocks_alone (blocks_in element known at))

-- what an item of a list holds: the first paragraph directly in it begins it
abbrev pub item_in : Element → Known → blocks.Lists → ReadBlocks
item_in element known at = with_first (is_directly_in at.level) begins.Item (held_in element known at)

-- the paragraph of a level that an element is, with what is left out in its content
abbrev pub paragraph_at : ℕ → Element → Known → blocks.Lists → ReadBlocks
paragraph_at level element known at = one_block (as_block (paragraph_by (names_with family.Paragraph known.names.styles) (list_place at) level element (items_of_raw content.raws))) content.left where
  content : ReadContent
  content = content_in known element (record { spans = []; in_note = at.in_note })

-- a list, a section and a note
abbrev pub list_at : Element → Known → blocks.Lists → ReadBlocks
list_at element known at = list_blocks known at (attributes_of element) (map (gives_of known) (children element))

abbrev pub section_at : Element → Known → blocks.Lists → ReadBlocks
section_at element known at = section_blocks known at (out-Element element).place (attributes_of element) (map (gives_of known) (children element))

abbrev pub note_at : Element → Known → Around → ReadContent
note_at element known around = note_content known around (out-Element element).place (attributes_of element) (map (gives_of known) (children element))

-- what the body of a note holds
abbrev pub body_in : Element → Known → ReadBlocks
body_in element known = note_blocks (map (gives_of known) (children element))

-- what is read in a list, of which the first block begins counting or doesn't
abbrev pub begun_by : Bool → ReadBlocks → ReadBlocks
begun_by does read = if does then with_first (λ block. true) begins.Counting read else read
