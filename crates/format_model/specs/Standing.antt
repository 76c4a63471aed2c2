-- The paragraphs of a document with what stands round them, in reading order.
use Rattle.std.specs.Prelude.{ℕ, ◌+◌, ◌||◌, Bool, true, false, List, [], ◌∷◌, ◌++◌, map, unwrap_or, length}
use Rattle.std.specs.List.{flat_map}
use Rattle.doc_model.specs.declared.block.Block.{Block, fold-Block}
use Rattle.doc_model.specs.declared.block.Block.TheOpen.{Block-F, Section-F}
use Rattle.doc_model.specs.declared.paragraph.Par.{Par, out-Par}
use Rattle.doc_model.specs.declared.paragraph.Item.{Item, out-Item}
use Rattle.doc_model.specs.declared.paragraph.Note.{Note}
use Rattle.doc_model.specs.declared.style.Props.{Props}
use Rattle.doc_model.specs.declared.document.Document.{Document}
use Rattle.doc_model.specs.Reading.{note_of}
use Rattle.doc_model.specs.Parts.{items_of}
use Rattle.style_model.specs.Effective.{effective}
use Rattle.key_parts.specs.Shows.{is_shown_in}
use Rattle.key_parts.specs.Displays.{displays_of}

-- a paragraph of the body, and whether a section around it is hidden
pub record BodyPar : Type 0 where
  pub par : Par
  pub in_hidden_section : Bool

-- a paragraph with one more section around it
abbrev pub within_section : Bool → BodyPar → BodyPar
within_section hidden placed = record placed { in_hidden_section = hidden || placed.in_hidden_section }

-- the paragraphs of a block
abbrev pub body_pars_in : Block → List BodyPar
body_pars_in = fold-Block (List BodyPar) (List BodyPar) of_block of_section where
  of_block : Block-F (List BodyPar) (List BodyPar) → List BodyPar
  of_block (Block-F.Par par) = record { par = par; in_hidden_section = false } ∷ []
  of_block (Block-F.Section placed) = placed

  of_section : Section-F (List BodyPar) (List BodyPar) → List BodyPar
  of_section section = map (within_section section.hidden) (flat_map (λ placed. placed) section.blocks)

-- the paragraphs of the body in reading order
abbrev pub body_pars : Document → List BodyPar
body_pars doc = flat_map body_pars_in doc.body

-- the effective properties of a paragraph
abbrev pub props_of : Document → Par → Props
props_of doc par = effective doc.defaults doc.styles (out-Par par).style

-- whether an item of a paragraph is shown
abbrev pub is_item_shown : Document → Par → Item → Bool
is_item_shown doc par item = is_shown_in (displays_of doc.styles) (unwrap_or (props_of doc par).display true) (out-Item item).spans

-- a note of a paragraph: which of its notes it is, from 1, the place of its item, from 0, and whether that is shown
pub record NoteAt : Type 0 where
  pub note : Note
  pub number : ℕ
  pub item : ℕ
  pub is_shown : Bool

-- the notes among items of a paragraph, of which so many stand before these, with so many notes
abbrev pub notes_from : Document → Par → ℕ → ℕ → List Item → List NoteAt
notes_from doc par at number [] = []
notes_from doc par at number (item ∷ items) =
    map (λ note. record { note = note; number = number; item = at; is_shown = is_item_shown doc par item }) (note_of item)
    ++ notes_from doc par (at + 1) (number + length (note_of item)) items

-- the notes of a paragraph
abbrev pub notes_at : Document → Par → List NoteAt
notes_at doc par = notes_from doc par 0 1 (items_of par)
