-- The names of a document within its limits have a length that is read, sort by sort.
use Rattle.std.proofs.Common.{ℕ, List, [], ◌∷◌, ◌++◌, map}
use Rattle.std.specs.List.{flat_map, AllByRecursion as Each}
use Rattle.doc_model.specs.declared.document.Document.{Document}
use Rattle.doc_model.specs.declared.paragraph.Note.{Note, out-Note}
use Rattle.doc_model.specs.Limits.{IsWithinLimits}
use Rattle.doc_model.specs.Parts.{all_fields, all_items, mark_name, mark_of, names_of_field, names_of_paragraph, names_of_section, names_of_style, notes, sections, span_names}
use Rattle.doc_model.specs.Reading.{paragraphs}
use Rattle.back_fields.specs.Fit.{IsNameOrNone}
use Rattle.back_references.proofs.Short.{names_short}
use Rattle.back_spans.proofs.Runs.{each_both}
use Rattle.back_valid.proofs.Lists.{each_mapped, each_part}

pub record AreShort (doc : Document) : Type 0 where
  pub variables : Each IsNameOrNone doc.variables
  pub sequences : Each IsNameOrNone doc.sequences
  pub sections : Each (λ section. Each IsNameOrNone (names_of_section section)) (sections doc)
  pub fields : Each (λ field. Each IsNameOrNone (names_of_field field)) (all_fields doc)
  pub marks : Each (λ mark. IsNameOrNone (mark_name mark)) (flat_map mark_of (all_items doc))
  pub notes : Each (λ note. IsNameOrNone (out-Note note).id) (notes doc)

-- eight sorts of names behind others
record AreEach (P : List ℕ → Type 0) (v q s p i f m n : List (List ℕ)) : Type 0 where
  of_variables : Each P v
  of_sequences : Each P q
  of_sections : Each P s
  of_fields : Each P f
  of_marks : Each P m
  of_notes : Each P n

eight : (P : List ℕ → Type 0) (o v q s p i f m n : List (List ℕ)) → Each P (o ++ v ++ q ++ s ++ p ++ i ++ f ++ m ++ n) → AreEach P v q s p i f m n
eight P o v q s p i f m n each =
    let by_notes = each_both P (o ++ v ++ q ++ s ++ p ++ i ++ f ++ m) n each in
    let by_marks = each_both P (o ++ v ++ q ++ s ++ p ++ i ++ f) m by_notes.0 in
    let by_fields = each_both P (o ++ v ++ q ++ s ++ p ++ i) f by_marks.0 in
    let by_spans = each_both P (o ++ v ++ q ++ s ++ p) i by_fields.0 in
    let by_pars = each_both P (o ++ v ++ q ++ s) p by_spans.0 in
    let by_sections = each_both P (o ++ v ++ q) s by_pars.0 in
    let by_sequences = each_both P (o ++ v) q by_sections.0 in
    record {
      of_variables = (each_both P o v by_sequences.0).1;
      of_sequences = by_sequences.1;
      of_sections = by_sections.1;
      of_fields = by_fields.1;
      of_marks = by_marks.1;
      of_notes = by_notes.1;
    }

pub short : (doc : Document) → IsWithinLimits doc → AreShort doc
short doc within =
    let all =
    eight IsNameOrNone (flat_map names_of_style doc.styles ++ map (λ list. list.name) doc.lists ++ doc.outline.name ∷ map (λ layout. layout.name) doc.layouts ++ flat_map (λ master. master.name ∷ master.layout ∷ master.next ∷ []) doc.masters)
    doc.variables doc.sequences (flat_map names_of_section (sections doc)) (flat_map names_of_paragraph (paragraphs doc)) (span_names doc)
    (flat_map names_of_field (all_fields doc)) (map mark_name (flat_map mark_of (all_items doc))) (map (λ (note : Note). (out-Note note).id) (notes doc)) (names_short doc within) in
    record {
      variables = all.of_variables;
      sequences = all.of_sequences;
      sections = each_part IsNameOrNone names_of_section (sections doc) all.of_sections;
      fields = each_part IsNameOrNone names_of_field (all_fields doc) all.of_fields;
      marks = each_mapped IsNameOrNone mark_name (flat_map mark_of (all_items doc)) all.of_marks;
      notes = each_mapped IsNameOrNone (λ (note : Note). (out-Note note).id) (notes doc) all.of_notes;
    }
