-- What a valid document has in each item.
use Rattle.std.proofs.Common.{◌≢◌, List, [], ◌∷◌}
use Rattle.std.specs.List.{flat_map, AllByRecursion as Each}
use Rattle.doc_model.specs.declared.document.Document.{Document}
use Rattle.doc_model.specs.declared.field.Field.{Field}
use Rattle.doc_model.specs.declared.field.Field.TheVariants as fields
use Rattle.doc_model.specs.declared.paragraph.Item.{Item, out-Item}
use Rattle.doc_model.specs.declared.paragraph.Mark.{Mark}
use Rattle.doc_model.specs.declared.paragraph.Note.{Note}
use Rattle.doc_model.specs.declared.paragraph.Par.{Par}
use Rattle.doc_model.specs.declared.paragraph.What.{What}
use Rattle.doc_model.specs.declared.paragraph.What.TheOpen.{What-F}
use Rattle.doc_model.specs.declared.style.Family.TheVariants as family
use Rattle.doc_model.specs.Parts.{all_fields, all_items, field_of, mark_name, mark_of, names_of_field, what_of}
use Rattle.doc_model.specs.Valid.{IsBookmark, IsField, IsItem, IsNoneOrStyle, IsValid}
use Rattle.load_model.specs.Styles.{Names}
use Rattle.back_fields.specs.Fit.{IsFit, IsName, IsNameOrNone}
use Rattle.back_references.proofs.Good.{span_good}
use Rattle.back_spans.specs.Spans.{IsTextStyle}
use Rattle.back_valid.specs.Found.{AreNamesOf, IsAdjusted}
use Rattle.back_valid.proofs.Lists.{among, each_also, each_joined, each_part}
use Rattle.back_valid.proofs.Short.{short}

-- a field or mark has what it needs
abbrev pub IsSoundWhat : What-F What Item Note Par → Type 0
IsSoundWhat (What-F.Field field) = IsFit field
IsSoundWhat (What-F.Mark mark) = IsName (mark_name mark)
IsSoundWhat _ = Unit {0}

pub record IsSound (names : Names) (item : Item) : Type 0 where
  pub legal : IsItem item
  pub styles : Each (IsTextStyle names) (out-Item item).spans
  pub what : IsSoundWhat (what_of item)

abbrev fields_in : What-F What Item Note Par → List Field
fields_in (What-F.Field field) = field ∷ []
fields_in _ = []

abbrev marks_in : What-F What Item Note Par → List Mark
marks_in (What-F.Mark mark) = mark ∷ []
marks_in _ = []

what_sound : (what : What-F What Item Note Par) → Each IsFit (fields_in what) → Each (λ mark. IsName (mark_name mark)) (marks_in what) → IsSoundWhat what
what_sound (What-F.Field field) fit named = fit.0
what_sound (What-F.Mark mark) fit named = named.0
what_sound (What-F.Char c) fit named = tt
what_sound What-F.Tab fit named = tt
what_sound What-F.Break fit named = tt
what_sound (What-F.Note note) fit named = tt

-- a field whose declared names are there
field_fit : (doc : Document) → IsValid doc → (field : Field) → IsField doc field → Each IsNameOrNone (names_of_field field) → IsAdjusted field → IsFit field
field_fit doc valid (fields.Sequence name refname format) is few adjusted = ((among doc.sequences name valid.sequences.0 is, few.0), few.1.0)
field_fit doc valid (fields.VarSet name value) is few adjusted = ((among doc.variables name valid.variables.0 is.0, few.0), is.1)
field_fit doc valid (fields.VarGet name) is few adjusted = (among doc.variables name valid.variables.0 is, few.0)
field_fit doc valid (fields.Chapter display level) is few adjusted = is
field_fit doc valid (fields.PageNumber select adjust format) is few adjusted = adjusted
field_fit doc valid (fields.PageCount format) is few adjusted = tt
field_fit doc valid (fields.BookRef name form) is few adjusted = few.0
field_fit doc valid (fields.SeqRef name form) is few adjusted = few.0
field_fit doc valid (fields.NoteRef name class form) is few adjusted = few.0

module _ (names : Names) (doc : Document) (there : AreNamesOf doc names) (valid : IsValid doc) (adjusted : Each IsAdjusted (all_fields doc)) where
  abbrev AreSpanNames : Item → Type 0
  AreSpanNames item = Each (λ name. (name ≢ []) × IsNoneOrStyle doc family.Text name) (out-Item item).spans

  spans_good : (item : Item) → AreSpanNames item → Each (IsTextStyle names) (out-Item item).spans
  spans_good item = each_also (λ name. (name ≢ []) × IsNoneOrStyle doc family.Text name) (IsTextStyle names) (λ name is. span_good names doc name there.styles is.0 is.1) (out-Item item).spans

  fits : Each IsFit (all_fields doc)
  fits =
      each_joined (λ field. IsField doc field × Each IsNameOrNone (names_of_field field)) IsAdjusted IsFit (λ field is ranged. field_fit doc valid field is.0 is.1 ranged) (all_fields doc)
      (each_joined (IsField doc) (λ field. Each IsNameOrNone (names_of_field field)) (λ field. IsField doc field × Each IsNameOrNone (names_of_field field)) (λ field one other. (one, other)) (all_fields doc) valid.each_field (short doc valid.limits).fields)
      adjusted

  marks_named : Each (λ mark. IsName (mark_name mark)) (flat_map mark_of (all_items doc))
  marks_named =
      each_joined (λ mark. IsBookmark doc (mark_name mark)) (λ mark. IsNameOrNone (mark_name mark)) (λ mark. IsName (mark_name mark)) (λ mark one other. (one.0, other)) (flat_map mark_of (all_items doc))
      valid.bookmarks (short doc valid.limits).marks

  all_sound : (items : List Item) → Each IsItem items → Each AreSpanNames items → Each (λ item. Each IsFit (field_of item)) items → Each (λ item. Each (λ mark. IsName (mark_name mark)) (mark_of item)) items → Each (IsSound names) items
  all_sound [] legal spans fit named = tt
  all_sound (item ∷ items) legal spans fit named =
      (record { legal = legal.0; styles = spans_good item spans.0; what = what_sound (what_of item) fit.0 named.0 }, all_sound items legal.1 spans.1 fit.1 named.1)

  pub items_sound : Each (IsSound names) (all_items doc)
  items_sound =
      all_sound (all_items doc) valid.each_item (each_part (λ name. (name ≢ []) × IsNoneOrStyle doc family.Text name) (λ (item : Item). (out-Item item).spans) (all_items doc) valid.span_styles)
      (each_part IsFit field_of (all_items doc) fits) (each_part (λ mark. IsName (mark_name mark)) mark_of (all_items doc) marks_named)
