-- The parts of a document as whole lists: its items, fields, marks, spans, sections and names.
use Rattle.std.specs.Prelude.{ℕ, ◌+◌, Bool, true, false, List, [], ◌∷◌, ◌++◌, map, max, fold, length, Option, Some, None, option_to_list}
use Rattle.std.specs.List.{flat_map}
use Rattle.doc_model.specs.declared.block.Block.{Block, fold-Block}
use Rattle.doc_model.specs.declared.block.Block.TheOpen.{Block-F, Section-F}
use Rattle.doc_model.specs.declared.block.Kind.{Kind}
use Rattle.doc_model.specs.declared.block.SectionSource.{SectionSource}
use Rattle.doc_model.specs.declared.paragraph.Par.{Par, out-Par}
use Rattle.doc_model.specs.declared.paragraph.Item.{Item, out-Item}
use Rattle.doc_model.specs.declared.paragraph.What.{What, out-What}
use Rattle.doc_model.specs.declared.paragraph.What.TheOpen.{What-F}
use Rattle.doc_model.specs.declared.paragraph.Note.{Note, out-Note}
use Rattle.doc_model.specs.declared.paragraph.ListPos.{ListPos}
use Rattle.doc_model.specs.declared.paragraph.Mark.{Mark}
use Rattle.doc_model.specs.declared.paragraph.Mark.TheVariants.{Point, Start, End}
use Rattle.doc_model.specs.declared.field.Field.{Field}
use Rattle.doc_model.specs.declared.field.Field.TheVariants as fields
use Rattle.doc_model.specs.declared.style.Style.{Style}
use Rattle.doc_model.specs.declared.page_layout.HeadPar.{HeadPar}
use Rattle.doc_model.specs.declared.document.Document.{Document}
use Rattle.doc_model.specs.Reading.{paragraphs, body_paragraphs, note_of, notes_of}

-- the items of a paragraph
abbrev pub items_of : Par → List Item
items_of par = (out-Par par).items

-- all items, paragraph by paragraph: those of a paragraph stand before those of its notes
abbrev pub all_items : Document → List Item
all_items doc = flat_map items_of (paragraphs doc)

-- the items of a paragraph as they are read: behind a note those of its paragraphs
abbrev pub items_read : Par → List Item
items_read par = flat_map (λ item. item ∷ flat_map (λ note. flat_map items_of (out-Note note).pars) (note_of item)) (items_of par)

-- all items in reading order
abbrev pub items_in_reading_order : Document → List Item
items_in_reading_order doc = flat_map items_read (body_paragraphs doc)

-- the notes in reading order
abbrev pub notes : Document → List Note
notes doc = flat_map notes_of (body_paragraphs doc)

-- the texts: the body is one, and each note is another
abbrev pub texts : Document → List (List Item)
texts doc = flat_map items_of (body_paragraphs doc) ∷ map (λ note. flat_map items_of (out-Note note).pars) (notes doc)

-- what an item is, one level deep
abbrev pub what_of : Item → What-F What Item Note Par
what_of item = out-What (out-Item item).what

-- the field that an item is, if it is one
abbrev pub field_of : Item → List Field
field_of item = of_what (what_of item) where
  of_what : What-F What Item Note Par → List Field
  of_what (What-F.Field field) = field ∷ []
  of_what _ = []

-- all fields, paragraph by paragraph
abbrev pub all_fields : Document → List Field
all_fields doc = flat_map field_of (all_items doc)

-- the mark that an item is, if it is one
abbrev pub mark_of : Item → List Mark
mark_of item = of_what (what_of item) where
  of_what : What-F What Item Note Par → List Mark
  of_what (What-F.Mark mark) = mark ∷ []
  of_what _ = []

-- whether an item is a mark
abbrev pub is_mark : Item → Bool
is_mark item = of_what (what_of item) where
  of_what : What-F What Item Note Par → Bool
  of_what (What-F.Mark mark) = true
  of_what _ = false

-- the name of a mark's bookmark
abbrev pub mark_name : Mark → List ℕ
mark_name (Point name) = name
mark_name (Start name) = name
mark_name (End name) = name

-- the names of the spans round the items
abbrev pub span_names : Document → List (List ℕ)
span_names doc = flat_map (λ item. (out-Item item).spans) (all_items doc)

-- a section without its blocks, and how many they are
pub record SectionHead : Type 0 where
  pub kind : Kind
  pub name : List ℕ
  pub style : List ℕ
  pub protected : Bool
  pub hidden : Bool
  pub source : Option SectionSource
  pub blocks : ℕ

-- the sections of a block, outer ones first
abbrev pub block_sections : Block → List SectionHead
block_sections = fold-Block (List SectionHead) (List SectionHead) of_block of_section where
  of_block : Block-F (List SectionHead) (List SectionHead) → List SectionHead
  of_block (Block-F.Par par) = []
  of_block (Block-F.Section sections) = sections

  of_section : Section-F (List SectionHead) (List SectionHead) → List SectionHead
  of_section section =
      let head : SectionHead = record {
        kind = section.kind;
        name = section.name;
        style = section.style;
        protected = section.protected;
        hidden = section.hidden;
        source = section.source;
        blocks = length section.blocks;
      }
      in head ∷ flat_map (λ sections. sections) section.blocks

-- the sections in reading order
abbrev pub sections : Document → List SectionHead
sections doc = flat_map block_sections doc.body

-- how many sections stand within each other in a block
abbrev pub depth_of : Block → ℕ
depth_of = fold-Block ℕ ℕ of_block of_section where
  of_block : Block-F ℕ ℕ → ℕ
  of_block (Block-F.Par par) = 0
  of_block (Block-F.Section depth) = depth

  of_section : Section-F ℕ ℕ → ℕ
  of_section section = 1 + fold max 0 section.blocks

-- the paragraphs of headers and footers
abbrev pub head_paragraphs : Document → List HeadPar
head_paragraphs doc = flat_map (λ master. master.header ++ master.footer) doc.masters

-- the names that a field has
abbrev pub names_of_field : Field → List (List ℕ)
names_of_field (fields.Sequence name refname format) = name ∷ refname ∷ []
names_of_field (fields.VarSet name value) = name ∷ []
names_of_field (fields.VarGet name) = name ∷ []
names_of_field (fields.Chapter display level) = []
names_of_field (fields.PageNumber select adjust format) = []
names_of_field (fields.PageCount format) = []
names_of_field (fields.BookRef name form) = name ∷ []
names_of_field (fields.SeqRef name form) = name ∷ []
names_of_field (fields.NoteRef name class form) = name ∷ []

-- the names that a section has
abbrev pub names_of_section : SectionHead → List (List ℕ)
names_of_section section = section.name ∷ section.style ∷ of_source section.source where
  of_source : Option SectionSource → List (List ℕ)
  of_source None = []
  of_source (Some source) = source.href ∷ source.section ∷ []

-- the names that a style has
abbrev pub names_of_style : Style → List (List ℕ)
names_of_style style = style.name ∷ style.parent ∷ style.next ∷ option_to_list style.master

-- the names that a paragraph has, without those of its items
abbrev pub names_of_paragraph : Par → List (List ℕ)
names_of_paragraph par = (out-Par par).style ∷ of_list (out-Par par).list where
  of_list : Option ListPos → List (List ℕ)
  of_list None = []
  of_list (Some place) = place.style ∷ []

-- every name that stands anywhere in the document
abbrev pub names : Document → List (List ℕ)
names doc = flat_map names_of_style doc.styles
    ++ map (λ list. list.name) doc.lists
    ++ doc.outline.name ∷ map (λ layout. layout.name) doc.layouts
    ++ flat_map (λ master. master.name ∷ master.layout ∷ master.next ∷ []) doc.masters
    ++ doc.variables ++ doc.sequences
    ++ flat_map names_of_section (sections doc)
    ++ flat_map names_of_paragraph (paragraphs doc)
    ++ span_names doc
    ++ flat_map names_of_field (all_fields doc)
    ++ map mark_name (flat_map mark_of (all_items doc))
    ++ map (λ note. (out-Note note).id) (notes doc)
