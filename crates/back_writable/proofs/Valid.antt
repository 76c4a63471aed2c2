-- The paragraphs of a valid document may be written.
use Rattle.std.proofs.Common.{ℕ, ◌≤◌, List, [], ◌∷◌, map, Option, Some, None}
use Rattle.std.specs.List.{AllByRecursion as Each}
use Rattle.doc_model.specs.declared.document.Document.{Document}
use Rattle.doc_model.specs.declared.field.Field.{Field}
use Rattle.doc_model.specs.declared.field.Field.TheVariants.{Sequence, VarSet, VarGet, Chapter, PageNumber, PageCount, BookRef, SeqRef, NoteRef}
use Rattle.doc_model.specs.declared.paragraph.Item.{Item, out-Item}
use Rattle.doc_model.specs.declared.paragraph.ListPos.{ListPos}
use Rattle.doc_model.specs.declared.paragraph.Mark.{Mark}
use Rattle.doc_model.specs.declared.paragraph.Note.{Note, out-Note}
use Rattle.doc_model.specs.declared.paragraph.Par.{Par, out-Par}
use Rattle.doc_model.specs.declared.paragraph.What.{What}
use Rattle.doc_model.specs.declared.paragraph.What.TheOpen.{What-F}
use Rattle.doc_model.specs.Chars.{IsLegalText}
use Rattle.doc_model.specs.Parts.{all_fields, all_items, field_of, items_of, mark_name, mark_of, names_of_field, names_of_paragraph, notes, what_of}
use Rattle.doc_model.specs.Reading.{body_paragraphs, note_of, notes_of, paragraphs, with_notes}
use Rattle.doc_model.specs.Valid.{IsField, IsItem, IsNoneOrGiven, IsParagraph, IsValid}
use Rattle.back_writable.proofs.Chars.{AreLegal}
use Rattle.back_writable.proofs.Content.{IsGoodItem, IsGoodWhat}
use Rattle.back_writable.proofs.Fields.{HasGoodValue, IsGoodField}
use Rattle.back_writable.proofs.Legal.{names_legal}
use Rattle.back_writable.proofs.Lists.{each_also, each_joined, each_part}
use Rattle.back_writable.proofs.Paragraphs.{IsAnyNote, IsGoodNote, IsGoodPar, IsGoodPlace}

-- fields and marks in what an item is
abbrev fields_in : What-F What Item Note Par → List Field
fields_in (What-F.Field field) = field ∷ []
fields_in _ = []

abbrev marks_in : What-F What Item Note Par → List Mark
marks_in (What-F.Mark mark) = mark ∷ []
marks_in _ = []

abbrev notes_in : What-F What Item Note Par → List Note
notes_in (What-F.Note note) = note ∷ []
notes_in _ = []

abbrev IsLegalWhat : What-F What Item Note Par → Type 0
IsLegalWhat (What-F.Char c) = IsLegalText c
IsLegalWhat _ = Unit {0}

value_good : (doc : Document) (field : Field) → IsField doc field → HasGoodValue field
value_good doc (Sequence name refname format) is = tt
value_good doc (VarSet name value) is = is.1
value_good doc (VarGet name) is = tt
value_good doc (Chapter display level) is = tt
value_good doc (PageNumber select adjust format) is = tt
value_good doc (PageCount format) is = tt
value_good doc (BookRef name form) is = tt
value_good doc (SeqRef name form) is = tt
value_good doc (NoteRef name class form) is = tt

-- an item but for its note
record IsSound (item : Item) : Type 0 where
  legal : IsItem item
  names : Each AreLegal (out-Item item).spans
  fields : Each IsGoodField (field_of item)
  marks : Each (λ mark. AreLegal (mark_name mark)) (mark_of item)

-- what an item is, where its notes are so
what_good : (P : Note → Type 0) (what : What-F What Item Note Par) → IsLegalWhat what → Each IsGoodField (fields_in what) → Each (λ mark. AreLegal (mark_name mark)) (marks_in what) → Each P (notes_in what) → IsGoodWhat P what
what_good P (What-F.Char c) legal fields marks notes = legal
what_good P What-F.Tab legal fields marks notes = tt
what_good P What-F.Break legal fields marks notes = tt
what_good P (What-F.Field field) legal fields marks notes = fields.0
what_good P (What-F.Note note) legal fields marks notes = notes.0
what_good P (What-F.Mark mark) legal fields marks notes = marks.0

item_good : (P : Note → Type 0) (item : Item) → IsSound item → Each P (note_of item) → IsGoodItem P item
item_good P item sound notes = record { what = what_good P (what_of item) sound.legal.0 sound.fields sound.marks notes; names = sound.names; few = sound.legal.1 }

-- a paragraph but for its notes
record IsSoundPar (par : Par) : Type 0 where
  style : AreLegal (out-Par par).style
  list : IsGoodPlace (out-Par par).list
  items : Each IsSound (items_of par)

par_good : (P : Note → Type 0) (par : Par) → IsSoundPar par → Each P (notes_of par) → IsGoodPar P par
par_good P par sound notes = record {
  style = sound.style;
  list = sound.list;
  items = each_joined IsSound (λ item. Each P (note_of item)) (IsGoodItem P) (item_good P) (items_of par) sound.items (each_part P note_of (items_of par) notes);
}

-- any notes
all_any : (notes : List Note) → Each IsAnyNote notes
all_any [] = tt
all_any (note ∷ notes) = (tt, all_any notes)

inner_good : (par : Par) → IsSoundPar par → IsGoodPar IsAnyNote par
inner_good par sound = par_good IsAnyNote par sound (all_any (notes_of par))

note_good : (note : Note) → Each IsSoundPar (out-Note note).pars → AreLegal (out-Note note).id → IsGoodNote note
note_good note pars id = record { id = id; pars = each_also IsSoundPar (IsGoodPar IsAnyNote) inner_good (out-Note note).pars pars }

outer_good : (par : Par) → Each IsSoundPar (with_notes par) → Each (λ note. AreLegal (out-Note note).id) (notes_of par) → IsGoodPar IsGoodNote par
outer_good par sound ids =
    par_good IsGoodNote par sound.0
    (each_joined (λ note. Each IsSoundPar (out-Note note).pars) (λ note. AreLegal (out-Note note).id) IsGoodNote note_good (notes_of par)
    (each_part IsSoundPar (λ (note : Note). (out-Note note).pars) (notes_of par) sound.1) ids)

-- a list place, by its names and its level
abbrev names_of_place : Option ListPos → List (List ℕ)
names_of_place None = []
names_of_place (Some place) = place.style ∷ []

module _ (doc : Document) (valid : IsValid doc) where
  abbrev IsPlace : Option ListPos → Type 0
  IsPlace None = Unit {0}
  IsPlace (Some place) = IsNoneOrGiven (map (λ list. list.name) doc.lists) place.style × (1 ≤ place.level) × (place.level ≤ 10)

  place_good : (place : Option ListPos) → IsPlace place → Each AreLegal (names_of_place place) → IsGoodPlace place
  place_good None is legal = tt
  place_good (Some place) is legal = (legal.0, is.2)

  fields_good : Each IsGoodField (all_fields doc)
  fields_good =
      each_joined (IsField doc) (λ field. Each AreLegal (names_of_field field)) IsGoodField (λ field is legal. record { names = legal; value = value_good doc field is }) (all_fields doc)
      valid.each_field (names_legal doc valid).fields

  abbrev AreGoodNames : Item → Type 0
  AreGoodNames item = Each AreLegal (out-Item item).spans

  abbrev AreGoodFields : Item → Type 0
  AreGoodFields item = Each IsGoodField (field_of item)

  abbrev AreGoodMarks : Item → Type 0
  AreGoodMarks item = Each (λ mark. AreLegal (mark_name mark)) (mark_of item)

  all_sound : (items : List Item) → Each IsItem items → Each AreGoodNames items → Each AreGoodFields items → Each AreGoodMarks items → Each IsSound items
  all_sound [] legal names fields marks = tt
  all_sound (item ∷ items) legal names fields marks = (record { legal = legal.0; names = names.0; fields = fields.0; marks = marks.0 }, all_sound items legal.1 names.1 fields.1 marks.1)

  items_sound : Each IsSound (all_items doc)
  items_sound =
      all_sound (all_items doc) valid.each_item (names_legal doc valid).spans (each_part IsGoodField field_of (all_items doc) fields_good)
      (each_part (λ mark. AreLegal (mark_name mark)) mark_of (all_items doc) (names_legal doc valid).marks)

  abbrev HasItems : Par → Type 0
  HasItems par = Each IsSound (items_of par) × Each AreLegal (names_of_paragraph par)

  par_sound : (par : Par) → IsParagraph doc par → HasItems par → IsSoundPar par
  par_sound par is has = record { style = has.1.0; list = place_good (out-Par par).list is.2 has.1.1; items = has.0 }

  pars_sound : Each IsSoundPar (paragraphs doc)
  pars_sound =
      each_joined (IsParagraph doc) HasItems IsSoundPar par_sound (paragraphs doc) valid.each_paragraph
      (each_joined (λ par. Each IsSound (items_of par)) (λ par. Each AreLegal (names_of_paragraph par)) HasItems (λ par items legal. (items, legal)) (paragraphs doc)
      (each_part IsSound items_of (paragraphs doc) items_sound) (names_legal doc valid).pars)

  pub pars_good : Each (IsGoodPar IsGoodNote) (body_paragraphs doc)
  pars_good =
      each_joined (λ par. Each IsSoundPar (with_notes par)) (λ par. Each (λ note. AreLegal (out-Note note).id) (notes_of par)) (IsGoodPar IsGoodNote) outer_good (body_paragraphs doc)
      (each_part IsSoundPar with_notes (body_paragraphs doc) pars_sound) (each_part (λ note. AreLegal (out-Note note).id) notes_of (body_paragraphs doc) (names_legal doc valid).notes)
