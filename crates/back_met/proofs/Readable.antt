-- The names of a valid document can be read where they are met.
use Rattle.std.proofs.Common.{◌≡◌, List, [], ◌∷◌}
use Rattle.std.specs.List.{flat_map, AllByRecursion as Each}
use Rattle.markup_nodes.specs.Node.{Element}
use Rattle.doc_model.specs.declared.document.Document.{Document}
use Rattle.doc_model.specs.declared.field.Field.{Field}
use Rattle.doc_model.specs.declared.field.Field.TheVariants as fields
use Rattle.doc_model.specs.declared.paragraph.Item.{Item}
use Rattle.doc_model.specs.declared.paragraph.Mark.{Mark as DocMark}
use Rattle.doc_model.specs.declared.paragraph.Note.{Note as DocNote, out-Note}
use Rattle.doc_model.specs.declared.paragraph.Par.{Par}
use Rattle.doc_model.specs.declared.paragraph.What.{What}
use Rattle.doc_model.specs.declared.paragraph.What.TheOpen.{What-F}
use Rattle.doc_model.specs.Parts.{all_fields, all_items, field_of, items_of, mark_name, mark_of, names_of_field, names_of_section, notes, sections, what_of}
use Rattle.doc_model.specs.Reading.{body_paragraphs, note_of, notes_of, paragraphs, with_notes}
use Rattle.doc_model.specs.Valid.{IsBookmark, IsField, IsNote, IsSection, IsValid}
use Rattle.load_model.specs.declared.element.Element.{Element as Read}
use Rattle.load_model.specs.Met.{met_in}
use Rattle.written_model.specs.Written.{text_element}
use Rattle.back_names.specs.Named.{named_node, placeless}
use Rattle.back_fields.specs.Fit.{IsName, IsNameOrNone}
use Rattle.back_valid.proofs.Lists.{among, each_also, each_joined, each_part}
use Rattle.back_valid.proofs.Short.{short}
use Rattle.back_met.specs.Things.{AreMet, IsMet, block_things}
use Rattle.back_met.proofs.Blocks.{IsNamedInner, IsNamedItem, IsNamedNote, text_read}
use Rattle.back_met.proofs.Named.{IsNamedField, IsNamedWhat, IsNoNote}

abbrev pub marks_in : What-F What Item DocNote Par → List DocMark
marks_in (What-F.Mark mark) = mark ∷ []
marks_in _ = []

-- what holds of each item of a document holds of those of its paragraphs and of their notes
abbrev pub HoldsOf : (Item → Type 0) → Par → Type 0
HoldsOf P par = Each P (items_of par) × Each (λ note. Each (λ inner. Each P (items_of inner)) (out-Note note).pars) (notes_of par)

pub by_paragraphs : (P : Item → Type 0) (doc : Document) → Each P (all_items doc) → Each (HoldsOf P) (body_paragraphs doc)
by_paragraphs P doc each =
    each_also (λ par. Each (λ one. Each P (items_of one)) (with_notes par)) (HoldsOf P) (λ par is. (is.0, each_part (λ one. Each P (items_of one)) (λ (note : DocNote). (out-Note note).pars) (notes_of par) is.1)) (body_paragraphs doc)
    (each_part (λ one. Each P (items_of one)) with_notes (body_paragraphs doc) (each_part P items_of (paragraphs doc) each))

-- the names of fields and marks can be read
abbrev fields_in : What-F What Item DocNote Par → List Field
fields_in (What-F.Field field) = field ∷ []
fields_in _ = []

module _ (doc : Document) (valid : IsValid doc) where
  field_named : (field : Field) → IsField doc field → Each IsNameOrNone (names_of_field field) → IsNamedField field
  field_named (fields.Sequence name refname format) is few = ((among doc.sequences name valid.sequences.0 is, few.0), few.1.0)
  field_named (fields.VarSet name value) is few = (among doc.variables name valid.variables.0 is.0, few.0)
  field_named (fields.VarGet name) is few = (among doc.variables name valid.variables.0 is, few.0)
  field_named (fields.Chapter display level) is few = tt
  field_named (fields.PageNumber select adjust format) is few = tt
  field_named (fields.PageCount format) is few = tt
  field_named (fields.BookRef name form) is few = tt
  field_named (fields.SeqRef name form) is few = tt
  field_named (fields.NoteRef name class form) is few = tt

  -- the bookmark of a mark is there, and its name can be read
  abbrev pub IsOfBookmark : DocMark → Type 0
  IsOfBookmark mark = IsBookmark doc (mark_name mark) × IsNameOrNone (mark_name mark)

  abbrev pub IsFine : Item → Type 0
  IsFine item = Each IsNamedField (field_of item) × Each IsOfBookmark (mark_of item)

  items_fine : Each IsFine (all_items doc)
  items_fine =
      each_joined (λ item. Each IsNamedField (field_of item)) (λ item. Each IsOfBookmark (mark_of item)) IsFine (λ item one other. (one, other)) (all_items doc)
      (each_part IsNamedField field_of (all_items doc) (each_joined (IsField doc) (λ field. Each IsNameOrNone (names_of_field field)) IsNamedField field_named (all_fields doc) valid.each_field (short doc valid.limits).fields))
      (each_part IsOfBookmark mark_of (all_items doc)
      (each_joined (λ mark. IsBookmark doc (mark_name mark)) (λ mark. IsNameOrNone (mark_name mark)) IsOfBookmark (λ mark one other. (one, other)) (flat_map mark_of (all_items doc)) valid.bookmarks (short doc valid.limits).marks))

  what_named : (what : What-F What Item DocNote Par) → Each IsNamedField (fields_in what) → Each IsOfBookmark (marks_in what) → IsNamedWhat what
  what_named (What-F.Char c) named marks = tt
  what_named What-F.Tab named marks = tt
  what_named What-F.Break named marks = tt
  what_named (What-F.Field field) named marks = named.0
  what_named (What-F.Note note) named marks = tt
  what_named (What-F.Mark mark) named marks = (marks.0.0.0, marks.0.1)

  item_named : (item : Item) → IsFine item → IsNamedWhat (what_of item)
  item_named item is = what_named (what_of item) is.0 is.1

  -- the items of paragraphs and of their notes
  abbrev pub AreInner : DocNote → Type 0
  AreInner note = Each (λ par. Each IsFine (items_of par)) (out-Note note).pars

  pub pars_fine : Each (HoldsOf IsFine) (body_paragraphs doc)
  pars_fine = by_paragraphs IsFine doc items_fine

  abbrev IsPlain : DocNote → Type 0
  IsPlain note = IsNote note × IsNameOrNone (out-Note note).id

  note_named : (note : DocNote) → AreInner note → IsPlain note → IsNamedNote note
  note_named note fine plain = record {
    id = plain.1;
    each_inner = each_joined (λ par. Each IsFine (items_of par)) (λ par. Each (λ item. IsNoNote (what_of item)) (items_of par)) (λ par. Each IsNamedInner (items_of par))
        (λ par one none. each_joined IsFine (λ item. IsNoNote (what_of item)) IsNamedInner (λ item is no. (item_named item is, no)) (items_of par) one none)
        (out-Note note).pars fine plain.0.1;
  }

  par_named : (par : Par) → HoldsOf IsFine par → Each IsPlain (notes_of par) → Each IsNamedItem (items_of par)
  par_named par fine plain =
      each_joined IsFine (λ item. Each IsNamedNote (note_of item)) IsNamedItem (λ item is inner. (item_named item is, inner)) (items_of par) fine.0
      (each_part IsNamedNote note_of (items_of par) (each_joined AreInner IsPlain IsNamedNote note_named (notes_of par) fine.1 plain))

  pub pars_named : Each (λ par. Each IsNamedItem (items_of par)) (body_paragraphs doc)
  pars_named =
      each_joined (HoldsOf IsFine) (λ par. Each IsPlain (notes_of par)) (λ par. Each IsNamedItem (items_of par)) par_named (body_paragraphs doc) pars_fine
      (each_part IsPlain notes_of (body_paragraphs doc) (each_joined IsNote (λ note. IsNameOrNone (out-Note note).id) IsPlain (λ note one other. (one, other)) (notes doc) valid.each_note (short doc valid.limits).notes))

  pub heads_named : Each (λ section. IsName section.name) (sections doc)
  heads_named =
      each_joined (IsSection doc) (λ section. Each IsNameOrNone (names_of_section section)) (λ section. IsName section.name) (λ section is few. (is.name, few.0)) (sections doc) valid.each_section (short doc valid.limits).sections

pub text_met : (doc : Document) (text : Read) → IsValid doc → Element (placeless text) ≡ named_node (text_element doc) → AreMet IsMet (flat_map block_things doc.body) (met_in text)
text_met doc text valid e = text_read doc text (pars_named doc valid) (heads_named doc valid) e
