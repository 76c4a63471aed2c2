-- The names of a valid document are legal, sort by sort.
use Rattle.std.proofs.Common.{ℕ, List, ◌∷◌, ◌++◌, map}
use Rattle.std.specs.List.{flat_map, AllByRecursion as Each}
use Rattle.doc_model.specs.declared.document.Document.{Document}
use Rattle.doc_model.specs.declared.list_style.ListStyle.{ListStyle}
use Rattle.doc_model.specs.declared.page_layout.PageLayout.{PageLayout}
use Rattle.doc_model.specs.declared.paragraph.Item.{Item, out-Item}
use Rattle.doc_model.specs.declared.paragraph.Note.{Note, out-Note}
use Rattle.doc_model.specs.Chars.{IsLegal}
use Rattle.doc_model.specs.Parts.{all_fields, all_items, mark_name, mark_of, names, names_of_field, names_of_paragraph, names_of_section, names_of_style, notes, sections, span_names}
use Rattle.doc_model.specs.Reading.{paragraphs}
use Rattle.doc_model.specs.Valid.{IsValid}
use Rattle.back_writable.proofs.Chars.{AreLegal, all_legal}
use Rattle.back_writable.proofs.Lists.{each_also, each_both, each_mapped, each_part}
use Rattle.back_writable.proofs.Masters.{names_of_master}

pub record AreNamesLegal (doc : Document) : Type 0 where
  pub styles : Each (λ style. Each AreLegal (names_of_style style)) doc.styles
  pub lists : Each (λ (list : ListStyle). AreLegal list.name) doc.lists
  pub layouts : Each (λ (layout : PageLayout). AreLegal layout.name) doc.layouts
  pub masters : Each (λ master. Each AreLegal (names_of_master master)) doc.masters
  pub variables : Each AreLegal doc.variables
  pub sequences : Each AreLegal doc.sequences
  pub sections : Each (λ section. Each AreLegal (names_of_section section)) (sections doc)
  pub pars : Each (λ par. Each AreLegal (names_of_paragraph par)) (paragraphs doc)
  pub spans : Each (λ item. Each AreLegal (out-Item item).spans) (all_items doc)
  pub fields : Each (λ field. Each AreLegal (names_of_field field)) (all_fields doc)
  pub marks : Each (λ mark. AreLegal (mark_name mark)) (flat_map mark_of (all_items doc))
  pub notes : Each (λ note. AreLegal (out-Note note).id) (notes doc)

-- sorts of names, one behind the other
record AreEach (P : List ℕ → Type 0) (a b : List (List ℕ)) (o : List ℕ) (c d v q s p i f m n : List (List ℕ)) : Type 0 where
  of_styles : Each P a
  of_lists : Each P b
  of_layouts : Each P c
  of_masters : Each P d
  of_variables : Each P v
  of_sequences : Each P q
  of_sections : Each P s
  of_pars : Each P p
  of_spans : Each P i
  of_fields : Each P f
  of_marks : Each P m
  of_notes : Each P n

sorts : (P : List ℕ → Type 0) (a b : List (List ℕ)) (o : List ℕ) (c d v q s p i f m n : List (List ℕ)) → Each P (a ++ b ++ o ∷ c ++ d ++ v ++ q ++ s ++ p ++ i ++ f ++ m ++ n) → AreEach P a b o c d v q s p i f m n
sorts P a b o c d v q s p i f m n each =
    let by_notes = each_both P (a ++ b ++ o ∷ c ++ d ++ v ++ q ++ s ++ p ++ i ++ f ++ m) n each in
    let by_marks = each_both P (a ++ b ++ o ∷ c ++ d ++ v ++ q ++ s ++ p ++ i ++ f) m by_notes.0 in
    let by_fields = each_both P (a ++ b ++ o ∷ c ++ d ++ v ++ q ++ s ++ p ++ i) f by_marks.0 in
    let by_spans = each_both P (a ++ b ++ o ∷ c ++ d ++ v ++ q ++ s ++ p) i by_fields.0 in
    let by_pars = each_both P (a ++ b ++ o ∷ c ++ d ++ v ++ q ++ s) p by_spans.0 in
    let by_sections = each_both P (a ++ b ++ o ∷ c ++ d ++ v ++ q) s by_pars.0 in
    let by_sequences = each_both P (a ++ b ++ o ∷ c ++ d ++ v) q by_sections.0 in
    let by_variables = each_both P (a ++ b ++ o ∷ c ++ d) v by_sequences.0 in
    let by_masters = each_both P (a ++ b ++ o ∷ c) d by_variables.0 in
    let by_layouts = each_both P (a ++ b) (o ∷ c) by_masters.0 in
    let by_lists = each_both P a b by_layouts.0 in
    record {
      of_styles = by_lists.0;
      of_lists = by_lists.1;
      of_layouts = by_layouts.1.1;
      of_masters = by_masters.1;
      of_variables = by_variables.1;
      of_sequences = by_sequences.1;
      of_sections = by_sections.1;
      of_pars = by_pars.1;
      of_spans = by_spans.1;
      of_fields = by_fields.1;
      of_marks = by_marks.1;
      of_notes = by_notes.1;
    }

pub names_legal : (doc : Document) → IsValid doc → AreNamesLegal doc
names_legal doc valid =
    let all =
    sorts AreLegal (flat_map names_of_style doc.styles) (map (λ (list : ListStyle). list.name) doc.lists) doc.outline.name (map (λ (layout : PageLayout). layout.name) doc.layouts) (flat_map names_of_master doc.masters)
    doc.variables doc.sequences (flat_map names_of_section (sections doc)) (flat_map names_of_paragraph (paragraphs doc)) (span_names doc)
    (flat_map names_of_field (all_fields doc)) (map mark_name (flat_map mark_of (all_items doc))) (map (λ (note : Note). (out-Note note).id) (notes doc))
    (each_also (λ name. Each IsLegal name) AreLegal all_legal (names doc) valid.legal_names) in
    record {
      styles = each_part AreLegal names_of_style doc.styles all.of_styles;
      lists = each_mapped AreLegal (λ (list : ListStyle). list.name) doc.lists all.of_lists;
      layouts = each_mapped AreLegal (λ (layout : PageLayout). layout.name) doc.layouts all.of_layouts;
      masters = each_part AreLegal names_of_master doc.masters all.of_masters;
      variables = all.of_variables;
      sequences = all.of_sequences;
      sections = each_part AreLegal names_of_section (sections doc) all.of_sections;
      pars = each_part AreLegal names_of_paragraph (paragraphs doc) all.of_pars;
      spans = each_part AreLegal (λ (item : Item). (out-Item item).spans) (all_items doc) all.of_spans;
      fields = each_part AreLegal names_of_field (all_fields doc) all.of_fields;
      marks = each_mapped AreLegal mark_name (flat_map mark_of (all_items doc)) all.of_marks;
      notes = each_mapped AreLegal (λ (note : Note). (out-Note note).id) (notes doc) all.of_notes;
    }
