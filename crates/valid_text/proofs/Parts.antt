-- What holds of the parts of a document whose blocks are good.
use Rattle.std.proofs.Common.{◌≢◌, false, List, [], ◌∷◌, ◌++◌, map, ◌≤◌, length, true, ◌≡◌}
use Rattle.std.specs.List.{flat_map, AllByRecursion as Each}
use Rattle.doc_model.specs.declared.field.Field.{Field}
use Rattle.doc_model.specs.declared.paragraph.Item.{Item, out-Item}
use Rattle.doc_model.specs.declared.paragraph.Mark.{Mark}
use Rattle.doc_model.specs.declared.paragraph.Note.{Note, out-Note}
use Rattle.doc_model.specs.declared.paragraph.Par.{Par, out-Par}
use Rattle.doc_model.specs.declared.paragraph.What.{What}
use Rattle.doc_model.specs.declared.paragraph.What.TheOpen.{What-F}
use Rattle.doc_model.specs.declared.style.Family.TheVariants as family
use Rattle.doc_model.specs.Chars.{IsLegal, IsLegalText}
use Rattle.doc_model.specs.Parts.{all_fields, all_items, block_sections, field_of, items_of, mark_name, mark_of, names_of_field, names_of_paragraph, names_of_section, notes, sections, span_names, what_of}
use Rattle.doc_model.specs.Reading.{block_paragraphs, body_paragraphs, note_of, notes_of, paragraphs, with_notes}
use Rattle.doc_model.specs.Valid.{IsField, IsItem, IsNoneOrStyle, IsNote, IsSection}
use Rattle.valid_text.specs.Texts.{AreTextsGood, HoldsNoNote, IsDraftParagraph, IsDraftSection, IsGoodName, IsNoNote, text_names, AreTextsValid}
use Rattle.valid_text.proofs.Good.{Text, IsGoodBlock, IsGoodItem, IsGoodNote, IsGoodPar, IsGoodSection, IsGoodWhat, IsKeptName, IsNone, IsSpan}
use Rattle.valid_text.proofs.Lists.{each_also, each_append, each_made, each_map}

abbrev AnyNote : Note → Type 0
AnyNote note = Unit {0}

-- what an item is
abbrev note_in : What-F What Item Note Par → List Note
note_in (What-F.Note note) = note ∷ []
note_in _ = []

abbrev field_in : What-F What Item Note Par → List Field
field_in (What-F.Field field) = field ∷ []
field_in _ = []

abbrev mark_in : What-F What Item Note Par → List Mark
mark_in (What-F.Mark mark) = mark ∷ []
mark_in _ = []

abbrev legal_what : What-F What Item Note Par → Type 0
legal_what (What-F.Char c) = IsLegalText c
legal_what _ = Unit {0}

abbrev no_note : What-F What Item Note Par → Type 0
no_note (What-F.Note note) = ⊥
no_note _ = Unit {0}

module _ (text : Text) where
  module _ (N : Note → Type 0) where
    weaker : (what : What-F What Item Note Par) → IsGoodWhat text N what → IsGoodWhat text AnyNote what
    weaker (What-F.Char c) is = is
    weaker What-F.Tab is = is
    weaker What-F.Break is = is
    weaker (What-F.Field field) is = is
    weaker (What-F.Note note) is = tt
    weaker (What-F.Mark mark) is = is

    notes_in : (what : What-F What Item Note Par) → IsGoodWhat text N what → Each N (note_in what)
    notes_in (What-F.Char c) is = tt
    notes_in What-F.Tab is = tt
    notes_in What-F.Break is = tt
    notes_in (What-F.Field field) is = tt
    notes_in (What-F.Note note) is = (is, tt)
    notes_in (What-F.Mark mark) is = tt

    weak_par : (par : Par) → IsGoodPar text N par → IsGoodPar text AnyNote par
    weak_par par is = (is.0, is.1, each_also (IsGoodItem text N) (IsGoodItem text AnyNote) (λ item good. (good.0, weaker (what_of item) good.1)) (out-Par par).items is.2)

    notes_good : (par : Par) → IsGoodPar text N par → Each N (notes_of par)
    notes_good par is = each_made (IsGoodItem text N) N note_of (λ item good. notes_in (what_of item) good.1) (out-Par par).items is.2

  abbrev IsGoodField : Field → Type 0
  IsGoodField field = IsField text.doc field × Each IsGoodName (names_of_field field)

  fields_in : (what : What-F What Item Note Par) → IsGoodWhat text AnyNote what → Each IsGoodField (field_in what)
  fields_in (What-F.Char c) is = tt
  fields_in What-F.Tab is = tt
  fields_in What-F.Break is = tt
  fields_in (What-F.Field field) is = (is, tt)
  fields_in (What-F.Note note) is = tt
  fields_in (What-F.Mark mark) is = tt

  abbrev IsGoodMark : Mark → Type 0
  IsGoodMark mark = IsKeptName text (mark_name mark)

  marks_in : (what : What-F What Item Note Par) → IsGoodWhat text AnyNote what → Each IsGoodMark (mark_in what)
  marks_in (What-F.Char c) is = tt
  marks_in What-F.Tab is = tt
  marks_in What-F.Break is = tt
  marks_in (What-F.Field field) is = tt
  marks_in (What-F.Note note) is = tt
  marks_in (What-F.Mark mark) is = (is, tt)

  legal_in : (what : What-F What Item Note Par) → IsGoodWhat text AnyNote what → legal_what what
  legal_in (What-F.Char c) is = is
  legal_in What-F.Tab is = tt
  legal_in What-F.Break is = tt
  legal_in (What-F.Field field) is = tt
  legal_in (What-F.Note note) is = tt
  legal_in (What-F.Mark mark) is = tt

  none_in : (what : What-F What Item Note Par) → IsGoodWhat text IsNone what → no_note what
  none_in (What-F.Char c) is = tt
  none_in What-F.Tab is = tt
  none_in What-F.Break is = tt
  none_in (What-F.Field field) is = tt
  none_in (What-F.Note note) is = is
  none_in (What-F.Mark mark) is = tt

  pub holds_none : (note : Note) → IsGoodNote text note → HoldsNoNote note
  holds_none note is =
      each_also (IsGoodPar text IsNone) (λ par. Each IsNoNote (out-Par par).items) (λ par good. each_also (IsGoodItem text IsNone) IsNoNote (λ item good. none_in (what_of item) good.1) (out-Par par).items good.2) (out-Note note).pars is.2

  -- a paragraph and those of its notes
  with_good : (par : Par) → IsGoodPar text (IsGoodNote text) par → Each (IsGoodPar text AnyNote) (with_notes par)
  with_good par is = (
    weak_par (IsGoodNote text) par is,
    each_made (IsGoodNote text) (IsGoodPar text AnyNote) (λ note. (out-Note note).pars) (λ note good. each_also (IsGoodPar text IsNone) (IsGoodPar text AnyNote) (weak_par IsNone) (out-Note note).pars good.2) (notes_of par)
        (notes_good (IsGoodNote text) par is),
  )

  -- the parts of the whole document
  module _ (blocks : Each (IsGoodBlock text false) text.doc.body) where
    body_pars : Each (IsGoodPar text (IsGoodNote text)) (body_paragraphs text.doc)
    body_pars = each_made (IsGoodBlock text false) (IsGoodPar text (IsGoodNote text)) block_paragraphs (λ block good. good.0) text.doc.body blocks

    all_pars : Each (IsGoodPar text AnyNote) (paragraphs text.doc)
    all_pars = each_made (IsGoodPar text (IsGoodNote text)) (IsGoodPar text AnyNote) with_notes with_good (body_paragraphs text.doc) body_pars

    items_all : Each (IsGoodItem text AnyNote) (all_items text.doc)
    items_all = each_made (IsGoodPar text AnyNote) (IsGoodItem text AnyNote) items_of (λ par good. good.2) (paragraphs text.doc) all_pars

    fields_all : Each IsGoodField (all_fields text.doc)
    fields_all = each_made (IsGoodItem text AnyNote) IsGoodField field_of (λ item good. fields_in (what_of item) good.1) (all_items text.doc) items_all

    pub marks_all : Each IsGoodMark (flat_map mark_of (all_items text.doc))
    marks_all = each_made (IsGoodItem text AnyNote) IsGoodMark mark_of (λ item good. marks_in (what_of item) good.1) (all_items text.doc) items_all

    spans_all : Each (IsSpan text) (span_names text.doc)
    spans_all = each_made (IsGoodItem text AnyNote) (IsSpan text) (λ item. (out-Item item).spans) (λ item good. good.0.1) (all_items text.doc) items_all

    pub notes_all : Each (IsGoodNote text) (notes text.doc)
    notes_all = each_made (IsGoodPar text (IsGoodNote text)) (IsGoodNote text) notes_of (notes_good (IsGoodNote text)) (body_paragraphs text.doc) body_pars

    pub sections_all : Each (IsGoodSection text) (sections text.doc)
    sections_all = each_made (IsGoodBlock text false) (IsGoodSection text) block_sections (λ block good. good.1) text.doc.body blocks

    -- names
    names_all : Each IsGoodName (text_names text.doc)
    names_all =
        let P = IsGoodName in
        let a = flat_map names_of_section (sections text.doc) in
        let b = flat_map names_of_paragraph (paragraphs text.doc) in
        let c = span_names text.doc in
        let d = flat_map names_of_field (all_fields text.doc) in
        let e = map mark_name (flat_map mark_of (all_items text.doc)) in
        let f = map (λ note. (out-Note note).id) (notes text.doc) in
        each_append P (a ++ b ++ c ++ d ++ e) f (each_append P (a ++ b ++ c ++ d) e (each_append P (a ++ b ++ c) d (each_append P (a ++ b) c (each_append P a b
        (each_made (IsGoodSection text) P names_of_section (λ section good. good.2) (sections text.doc) sections_all)
        (each_made (IsGoodPar text AnyNote) P names_of_paragraph (λ par good. good.1) (paragraphs text.doc) all_pars))
        (each_also (IsSpan text) P (λ name good. good.2) (span_names text.doc) spans_all))
        (each_made IsGoodField P names_of_field (λ field good. good.1) (all_fields text.doc) fields_all))
        (each_map IsGoodMark P mark_name (λ mark good. good.0) (flat_map mark_of (all_items text.doc)) marks_all))
        (each_map (IsGoodNote text) P (λ note. (out-Note note).id) (λ note good. good.0) (notes text.doc) notes_all)

    pub texts_good : text.doc.body ≢ [] → AreTextsGood text.doc
    texts_good there = record {
      body = there;
      each_paragraph = each_also (IsGoodPar text AnyNote) (IsDraftParagraph text.doc) (λ par good. good.0) (paragraphs text.doc) all_pars;
      each_item = each_also (IsGoodItem text AnyNote) IsItem (λ item good. (legal_in (what_of item) good.1, good.0.0)) (all_items text.doc) items_all;
      each_note = each_also (IsGoodNote text) HoldsNoNote holds_none (notes text.doc) notes_all;
      each_field = each_also IsGoodField (IsField text.doc) (λ field good. good.0) (all_fields text.doc) fields_all;
      each_section = each_also (IsGoodSection text) (IsDraftSection text.doc) (λ section good. good.0) (sections text.doc) sections_all;
      span_styles = each_also (IsSpan text) (λ name. (name ≢ []) × IsNoneOrStyle text.doc family.Text name) (λ name good. (good.0, good.1)) (span_names text.doc) spans_all;
      names = names_all;
    }

    -- where what is kept by its name has one
    pub texts_valid : text.strict ≡ true → AreTextsGood text.doc → AreTextsValid text.doc
    texts_valid strict good = record {
      body = good.body;
      each_paragraph = good.each_paragraph;
      each_item = good.each_item;
      each_note = each_also (IsGoodNote text) IsNote (λ note is. (is.1 strict, holds_none note is)) (notes text.doc) notes_all;
      each_field = good.each_field;
      mark_names = each_also IsGoodMark (λ mark. mark_name mark ≢ []) (λ mark is. is.1 strict) (flat_map mark_of (all_items text.doc)) marks_all;
      each_section = each_also (IsGoodSection text) (IsSection text.doc) (λ section is. record { name = is.1 strict; blocks = is.0.blocks; style = is.0.style; kind = is.0.kind }) (sections text.doc) sections_all;
      span_styles = good.span_styles;
      legal_names = each_also IsGoodName (λ name. Each IsLegal name) (λ name is. is.0) (text_names text.doc) good.names;
      short_names = each_also IsGoodName (λ name. length name ≤ 1024) (λ name is. is.1) (text_names text.doc) good.names;
    }
