-- What edits make of the blocks of containers: of the body, of sections, and of the paragraphs of notes.
use Rattle.std.specs.Prelude.{ℕ, ◌==◌, if◌then◌else◌, not, Bool, true, false, List, [], ◌∷◌, ◌++◌, map, length, take, drop, filter, filter_map, Option, Some, None, option_map, option_and_then}
use Rattle.std.specs.List.{flat_map, list_any, before_first, after_first}
use Rattle.std.specs.Str.{bytes_eq}
use Rattle.doc_model.specs.declared.block.Block.{Block, out-Block, roll-Block, fold-Block}
use Rattle.doc_model.specs.declared.block.Block.TheOpen.{Block-F, Section-F}
use Rattle.doc_model.specs.declared.block.Section.{Section, out-Section, roll-Section}
use Rattle.doc_model.specs.declared.block.Kind.TheVariants.{Plain}
use Rattle.doc_model.specs.declared.paragraph.Par.{Par, out-Par, roll-Par}
use Rattle.doc_model.specs.declared.paragraph.Item.{Item, out-Item, roll-Item}
use Rattle.doc_model.specs.declared.paragraph.What.{What, out-What, roll-What}
use Rattle.doc_model.specs.declared.paragraph.What.TheOpen.{What-F}
use Rattle.doc_model.specs.declared.paragraph.Note.{Note, out-Note, roll-Note}
use Rattle.doc_model.specs.declared.paragraph.ListPos.{ListPos}
use Rattle.doc_model.specs.declared.paragraph.ParId.{ParId}
use Rattle.doc_model.specs.declared.style.Family.TheVariants as family
use Rattle.doc_model.specs.declared.style.Style.{Style}
use Rattle.doc_model.specs.declared.document.Document.{Document}
use Rattle.doc_model.specs.Reading.{number_of}
use Rattle.style_model.specs.Lineage.{style_named}
use Rattle.edit_rules.specs.Places.{from_first, through_first, as_block, paragraph_of, is_paragraph, held_between}

-- the item with a change made to the paragraphs of its note, if it is one
abbrev pub in_note_of : (List Par → List Par) → Item → Item
in_note_of change item = roll-Item (record (out-Item item) { what = of_what (out-What (out-Item item).what) }) where
  of_what : What-F What Item Note Par → What
  of_what (What-F.Note note) = roll-What (What-F.Note (roll-Note (record (out-Note note) { pars = change (out-Note note).pars })))
  of_what other = roll-What other

-- the paragraph with a change made to the paragraphs of each of its notes
abbrev pub in_notes_of : (List Par → List Par) → Par → Par
in_notes_of change par = roll-Par (record (out-Par par) { items = map (in_note_of change) (out-Par par).items })

-- a change of blocks, made to paragraphs
abbrev pub of_paragraphs : (List Block → List Block) → List Par → List Par
of_paragraphs change pars = flat_map paragraph_of (change (map as_block pars))

-- the block with a change made to the blocks of each section and of each note in it, inner ones first
abbrev pub within_block : (List Block → List Block) → Block → Block
within_block change = fold-Block Block Section of_block of_section where
  of_block : Block-F Block Section → Block
  of_block (Block-F.Par par) = as_block (in_notes_of (of_paragraphs change) par)
  of_block (Block-F.Section section) = roll-Block (Block-F.Section section)

  of_section : Section-F Block Section → Section
  of_section section = roll-Section (record section { blocks = change section.blocks })

-- the document with a change made to the blocks of each container
abbrev pub in_containers : (List Block → List Block) → Document → Document
in_containers change doc = record doc { body = change (map (within_block change) doc.body) }

-- the blocks with a change made to those from a paragraph on, where they hold it. What stands before it stays
abbrev pub from_paragraph : ℕ → (List Block → List Block) → List Block → List Block
from_paragraph number change blocks =
    if list_any (is_paragraph number) blocks then before_first (is_paragraph number) blocks ++ change (from_first (is_paragraph number) blocks) else blocks

-- the document with a change made to what a paragraph's container holds from the paragraph on
abbrev pub at_paragraph : ParId → (List Block → List Block) → Document → Document
at_paragraph par change doc = in_containers (from_paragraph par.0 change) doc

-- the paragraph that is left of one that is split
abbrev pub first_half : ℕ → Par → Par
first_half at par = roll-Par (record (out-Par par) { items = take at (out-Par par).items })

-- the style that a paragraph's own style states to be the next one, if it states one
abbrev pub next_style : List Style → Par → Option Style
next_style styles par = option_and_then (λ style. style_named styles family.Paragraph style.next) (style_named styles family.Paragraph (out-Par par).style)

-- the paragraph with a style and that style's outline level, if there is one
abbrev pub with_style_of : Option Style → Par → Par
with_style_of None par = par
with_style_of (Some style) par = roll-Par (record (out-Par par) { style = style.name; level = style.outline })

-- the list place behind another: of a new item, from which counting goes on
abbrev pub following_place : ListPos → ListPos
following_place place = record place { item = true; fresh = false }

-- the new paragraph behind one that is split. Where nothing is left for it, it has the next style that is stated
abbrev pub second_half : List Style → ℕ → ℕ → Par → Par
second_half styles number at par = with_style_of style (roll-Par (record (out-Par par) { id = record { 0 = number }; list = option_map following_place (out-Par par).list; items = drop at (out-Par par).items })) where
  style : Option Style
  style = if at == length (out-Par par).items then next_style styles par else None

-- blocks of which the first one, a paragraph, is split
abbrev pub split_first : List Style → ℕ → ℕ → List Block → List Block
split_first styles number at [] = []
split_first styles number at (block ∷ blocks) = flat_map (λ par. as_block (first_half at par) ∷ as_block (second_half styles number at par) ∷ []) (paragraph_of block) ++ blocks

-- a paragraph with the items of another behind its own
abbrev pub with_items_of : Par → Par → Par
with_items_of other par = roll-Par (record (out-Par par) { items = (out-Par par).items ++ (out-Par other).items })

-- blocks of which the first two, two paragraphs, become one
abbrev pub join_first : List Block → List Block
join_first [] = []
join_first (block ∷ []) = block ∷ []
join_first (block ∷ next ∷ blocks) = flat_map (λ par. map (λ other. as_block (with_items_of other par)) (paragraph_of next)) (paragraph_of block) ++ blocks

-- the paragraphs of one container from one to another
abbrev pub paragraphs_between : Document → ParId → ParId → List Par
paragraphs_between doc first last = filter_map (λ held. held) (held_between doc first last)

-- the blocks without those of some paragraphs
abbrev pub without_paragraphs : List Par → List Block → List Block
without_paragraphs pars blocks = filter (λ block. not (list_any (λ par. is_paragraph (number_of par) block) pars)) blocks

-- blocks with some paragraphs behind the first
abbrev pub with_behind_first : List Par → List Block → List Block
with_behind_first pars blocks = take 1 blocks ++ map as_block pars ++ drop 1 blocks

-- the document with the paragraphs from one to another behind a third
abbrev pub moved : ParId → ParId → ParId → Document → Document
moved first last after doc = at_paragraph after (with_behind_first (paragraphs_between doc first last)) (in_containers (without_paragraphs (paragraphs_between doc first last)) doc)

-- a section of some blocks that is shown and not protected, and whose blocks come from no file
abbrev pub section_of : List ℕ → List ℕ → List Block → Block
section_of name style blocks = roll-Block (Block-F.Section (roll-Section (record { kind = Plain; name = name; style = style; protected = false; hidden = false; source = None; blocks = blocks })))

-- blocks of which those from the first to that of a paragraph become a section
abbrev pub wrap_through : ParId → List ℕ → List ℕ → List Block → List Block
wrap_through last name style blocks = section_of name style (through_first (is_paragraph last.0) blocks) ∷ after_first (is_paragraph last.0) blocks

-- the blocks that a block leaves when the section of this name is unwrapped: those of the section in its place, else itself
abbrev pub unwrapped : List ℕ → Block → List Block
unwrapped name block = of_block (out-Block block) where
  of_block : Block-F Block Section → List Block
  of_block (Block-F.Par par) = block ∷ []
  of_block (Block-F.Section section) = if bytes_eq (out-Section section).name name then (out-Section section).blocks else block ∷ []

-- the block with the section of this name protected or not, and hidden or not
abbrev pub with_section_set : List ℕ → Bool → Bool → Block → Block
with_section_set name protected hidden = fold-Block Block Section of_block of_section where
  of_block : Block-F Block Section → Block
  of_block block = roll-Block block

  of_section : Section-F Block Section → Section
  of_section section = roll-Section (if bytes_eq section.name name then record section { protected = protected; hidden = hidden } else section)
