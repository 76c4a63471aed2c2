-- What is met of the things of a document, in reading order: sections, marks, fields and notes.
use Rattle.std.specs.Prelude.{◌≡◌, ℕ, List, [], ◌∷◌, ◌++◌, map, Option, Some, None}
use Rattle.std.specs.List.{flat_map}
use Rattle.doc_model.specs.declared.block.Block.{Block, fold-Block}
use Rattle.doc_model.specs.declared.block.Block.TheOpen.{Block-F, Section-F}
use Rattle.doc_model.specs.declared.field.Field.{Field}
use Rattle.doc_model.specs.declared.field.Field.TheVariants as fields
use Rattle.doc_model.specs.declared.paragraph.Item.{Item}
use Rattle.doc_model.specs.declared.paragraph.Mark.{Mark as DocMark}
use Rattle.doc_model.specs.declared.paragraph.Mark.TheVariants as mark
use Rattle.doc_model.specs.declared.paragraph.Note.{Note as DocNote, out-Note}
use Rattle.doc_model.specs.declared.paragraph.Par.{Par}
use Rattle.doc_model.specs.declared.paragraph.What.{What}
use Rattle.doc_model.specs.declared.paragraph.What.TheOpen.{What-F}
use Rattle.doc_model.specs.Parts.{items_of, mark_name, what_of}
use Rattle.load_model.specs.Met.{Met, MarkKind, Whole, Start, End, Section, Mark, Note, Reference, Sequence, Variable, named_at}

-- a thing that is met: a section by its name, a mark, a field, or a note with what it holds
pub data Thing : Type 0 where
  Headed : (name : List ℕ) → Thing
  Marked : (mark : DocMark) → Thing
  Counted : (field : Field) → Thing
  Noted : (note : DocNote) → Thing

-- what is met of an item, by what it is: characters, tabs and breaks are nothing
abbrev pub things_in : What-F What Item DocNote Par → List Thing
things_in (What-F.Mark mark) = Marked mark ∷ []
things_in (What-F.Field field) = Counted field ∷ []
things_in (What-F.Note note) = Noted note ∷ []
things_in _ = []

-- the same of the item
abbrev pub things_of : Item → List Thing
things_of item = things_in (what_of item)

-- the items of a note
abbrev pub note_items : DocNote → List Item
note_items note = flat_map items_of (out-Note note).pars

-- what a mark is met as
abbrev pub kind_of : DocMark → MarkKind
kind_of (mark.Point name) = Whole
kind_of (mark.Start name) = Start
kind_of (mark.End name) = End

-- a name, if there is one
abbrev pub if_any : List ℕ → Option (List ℕ)
if_any [] = None
if_any (c ∷ cs) = Some (c ∷ cs)

-- what a field at a place is met as: a sequence with its reference name, or a variable
abbrev pub field_met : ℕ → Field → List Met
field_met place (fields.Sequence name refname format) = map Reference (named_at place (if_any refname)) ++ Sequence (record { place = place; name = name }) ∷ []
field_met place (fields.VarSet name value) = Variable (record { place = place; name = name }) ∷ []
field_met place (fields.VarGet name) = Variable (record { place = place; name = name }) ∷ []
field_met place _ = []

-- a mark that is met at a place in a text
abbrev pub mark_at : ℕ → ℕ → DocMark → Met
mark_at place text mark = Mark (record { place = place; text = text; kind = kind_of mark; name = mark_name mark })

-- each of some things is met so, one after another, and nothing else is
abbrev pub AreMet : (Thing → List Met → Type 0) → List Thing → List Met → Type 0
AreMet P [] met = met ≡ []
AreMet P (thing ∷ things) met = (one : List Met) × (more : List Met) × (met ≡ one ++ more) × P thing one × AreMet P things more

-- a thing is met so in the text of a note, wherever it stands there
abbrev pub IsInner : ℕ → Thing → List Met → Type 0
IsInner text (Marked mark) met = (place : ℕ) × (met ≡ mark_at place text mark ∷ [])
IsInner text (Counted field) met = (place : ℕ) × (met ≡ field_met place field)
IsInner text (Noted note) met = ⊥
IsInner text (Headed name) met = ⊥

-- a thing is met so in the body, wherever it stands: what a note holds is met in a text of its own
abbrev pub IsMet : Thing → List Met → Type 0
IsMet (Marked mark) met = (place : ℕ) × (met ≡ mark_at place 0 mark ∷ [])
IsMet (Counted field) met = (place : ℕ) × (met ≡ field_met place field)
IsMet (Noted note) met = (place : ℕ) × (inner : List Met) × (met ≡ map Note (named_at place (if_any (out-Note note).id)) ++ inner) × AreMet (IsInner place) (flat_map things_of (note_items note)) inner
IsMet (Headed name) met = (place : ℕ) × (around : List ℕ) × (met ≡ Section (record { place = place; name = name; around = around }) ∷ [])

-- the things of a block, in order
abbrev pub block_things : Block → List Thing
block_things = fold-Block (List Thing) (List Thing) of_block of_section where
  of_block : Block-F (List Thing) (List Thing) → List Thing
  of_block (Block-F.Par par) = flat_map things_of (items_of par)
  of_block (Block-F.Section things) = things

  of_section : Section-F (List Thing) (List Thing) → List Thing
  of_section section = Headed section.name ∷ flat_map (λ things. things) section.blocks
