-- A valid document has what is asked of a text that is read back.
use Rattle.std.proofs.Common.{◌≢◌, ℕ, ◌≤◌, false, List, [], ◌∷◌, ◌++◌, map, length, sym, subst, arith, Option, Some, None}
use Rattle.std.specs.List.{AllByRecursion as Each}
use Rattle.doc_model.specs.declared.block.SectionSource.{SectionSource}
use Rattle.doc_model.specs.declared.document.Document.{Document}
use Rattle.doc_model.specs.declared.page_layout.HeadPar.{HeadPar}
use Rattle.doc_model.specs.declared.paragraph.ListPos.{ListPos}
use Rattle.doc_model.specs.declared.paragraph.Note.{Note, out-Note}
use Rattle.doc_model.specs.declared.paragraph.Par.{Par, out-Par}
use Rattle.doc_model.specs.declared.style.Family.TheVariants as family
use Rattle.doc_model.specs.Alike.{in_paragraph, unnumbered}
use Rattle.doc_model.specs.Parts.{SectionHead, all_fields, head_paragraphs, items_of, names_of_section, notes, sections}
use Rattle.doc_model.specs.Reading.{body_paragraphs, notes_of, paragraphs, with_notes}
use Rattle.doc_model.specs.Valid.{IsNoneOrGiven, IsNote, IsParagraph, IsSection, IsValid}
use Rattle.load_model.specs.Styles.{Names, reference}
use Rattle.written_model.specs.Blocks.{note_element}
use Rattle.back_fields.specs.Fit.{IsName, IsNameOrNone}
use Rattle.back_paragraphs.specs.Paragraphs.{IsNoneOrGood, IsPlace, IsReadablePar}
use Rattle.back_references.proofs.Good.{given_good, style_good}
use Rattle.back_blocks.specs.Blocks.{IsReadableSection, IsSource}
use Rattle.back_spans.proofs.Runs.{each_both}
use Rattle.back_valid.specs.Found.{AreNamesOf, IsAdjusted}
use Rattle.back_valid.proofs.Blocks.{body_changed, sections_stay}
use Rattle.back_valid.proofs.Items.{IsSound, items_sound}
use Rattle.back_valid.proofs.Lists.{each_also, each_at_most, each_joined, each_map, each_mapped, each_part}
use Rattle.back_valid.proofs.Pars.{IsSoundNote, IsSoundPar, bare_par, par_readable}
use Rattle.back_valid.proofs.Short.{short}

pub names_given : (names : List (List ℕ)) → Each (λ name. name ≢ []) names → Each IsNameOrNone names → Each IsName names
names_given = each_joined (λ name. name ≢ []) IsNameOrNone IsName (λ name some few. (some, few))

pub variables_named : (doc : Document) → IsValid doc → Each IsName doc.variables
variables_named doc valid = names_given doc.variables valid.variables.0 (short doc valid.limits).variables

pub sequences_named : (doc : Document) → IsValid doc → Each IsName doc.sequences
sequences_named doc valid = names_given doc.sequences valid.sequences.0 (short doc valid.limits).sequences

-- no paragraph has more items than its limit
items_few : (doc : Document) → IsValid doc → Each (λ par. length (items_of par) ≤ 4294967295) (paragraphs doc)
items_few doc valid =
    let counts : List ℕ = map (λ (par : Par). length (items_of par)) (paragraphs doc) in
    let heads : List ℕ = map (λ (par : HeadPar). length par.items) (head_paragraphs doc) in
    each_also (λ par. length (items_of par) ≤ 32768) (λ par. length (items_of par) ≤ 4294967295) (λ par h. omega (arith, h)) (paragraphs doc)
    (each_mapped (λ n. n ≤ 32768) (λ (par : Par). length (items_of par)) (paragraphs doc) (each_both (λ n. n ≤ 32768) counts heads (each_at_most 32768 0 (counts ++ heads) valid.limits.1.0).1).0)

module _ (names : Names) (doc : Document) (there : AreNamesOf doc names) (valid : IsValid doc) where
  -- sections
  abbrev names_of_source : Option SectionSource → List (List ℕ)
  names_of_source None = []
  names_of_source (Some source) = source.href ∷ source.section ∷ []

  source_fits : (source : Option SectionSource) → Each IsNameOrNone (names_of_source source) → IsSource source
  source_fits None few = tt
  source_fits (Some source) few = (few.0, few.1.0)

  section_fits : (section : SectionHead) → IsSection doc section → Each IsNameOrNone (names_of_section section) → IsReadableSection names section
  section_fits section is few = record {
    kind = is.kind;
    name = (is.name, few.0);
    style = style_good names doc family.Section section.style there.styles is.style;
    source = source_fits section.source few.1.1;
    some = is.blocks;
  }

  pub sections_readable : Each (IsReadableSection names) (sections (unnumbered doc))
  sections_readable =
      subst (Each (IsReadableSection names)) (sym (sections_stay bare_par doc))
      (each_joined (IsSection doc) (λ section. Each IsNameOrNone (names_of_section section)) (IsReadableSection names) section_fits (sections doc) valid.each_section (short doc valid.limits).sections)

  -- paragraphs
  abbrev IsListPlace : Option ListPos → Type 0
  IsListPlace None = Unit {0}
  IsListPlace (Some place) = IsNoneOrGiven (map (λ list. list.name) doc.lists) place.style × (1 ≤ place.level) × (place.level ≤ 10)

  place_good : (place : Option ListPos) → IsListPlace place → IsPlace names place
  place_good None is = tt
  place_good (Some place) is =
      (subst (λ (lists : List (List ℕ)). IsNoneOrGood (reference lists) place.style) (sym there.lists) (given_good (map (λ list. list.name) doc.lists) place.style is.0), is.1)

  par_sound : (par : Par) → IsParagraph doc par → Each (IsSound names) (items_of par) → length (items_of par) ≤ 4294967295 → IsSoundPar names par
  par_sound par is items few = record {
    style = style_good names doc family.Paragraph (out-Par par).style there.styles is.0;
    level = is.1;
    list = place_good (out-Par par).list is.2;
    each_item = items;
    few = few;
  }

  module _ (adjusted : Each IsAdjusted (all_fields doc)) where
    abbrev HasItems : Par → Type 0
    HasItems par = Each (IsSound names) (items_of par) × (length (items_of par) ≤ 4294967295)

    pars_sound : Each (IsSoundPar names) (paragraphs doc)
    pars_sound =
        each_joined (IsParagraph doc) HasItems (IsSoundPar names) (λ par is has. par_sound par is has.0 has.1) (paragraphs doc) valid.each_paragraph
        (each_joined (λ par. Each (IsSound names) (items_of par)) (λ par. length (items_of par) ≤ 4294967295) HasItems (λ par items few. (items, few)) (paragraphs doc)
        (each_part (IsSound names) items_of (paragraphs doc) (items_sound names doc there valid adjusted)) (items_few doc valid))

    abbrev HasNotes : Par → Type 0
    HasNotes par = Each (λ note. IsNote note × IsNameOrNone (out-Note note).id) (notes_of par)

    note_sound : (note : Note) → Each (IsSoundPar names) (out-Note note).pars → IsNote note × IsNameOrNone (out-Note note).id → IsSoundNote names note
    note_sound note each is = record { id = is.1; is = is.0; each = each }

    par_fits : (par : Par) → Each (IsSoundPar names) (with_notes par) → HasNotes par → IsReadablePar names false note_element (in_paragraph bare_par par)
    par_fits par sound notes =
        par_readable names par sound.0
        (each_joined (λ note. Each (IsSoundPar names) (out-Note note).pars) (λ note. IsNote note × IsNameOrNone (out-Note note).id) (IsSoundNote names) note_sound (notes_of par)
        (each_part (IsSoundPar names) (λ (note : Note). (out-Note note).pars) (notes_of par) sound.1) notes)

    notes_fit : Each HasNotes (body_paragraphs doc)
    notes_fit =
        each_part (λ note. IsNote note × IsNameOrNone (out-Note note).id) notes_of (body_paragraphs doc)
        (each_joined IsNote (λ note. IsNameOrNone (out-Note note).id) (λ note. IsNote note × IsNameOrNone (out-Note note).id) (λ note is few. (is, few)) (notes doc) valid.each_note (short doc valid.limits).notes)

    pub paragraphs_readable : Each (IsReadablePar names false note_element) (body_paragraphs (unnumbered doc))
    paragraphs_readable =
        subst (Each (IsReadablePar names false note_element)) (sym (body_changed bare_par doc))
        (each_map (IsReadablePar names false note_element) (in_paragraph bare_par) (body_paragraphs doc)
        (each_joined (λ par. Each (IsSoundPar names) (with_notes par)) HasNotes (λ par. IsReadablePar names false note_element (in_paragraph bare_par par)) par_fits (body_paragraphs doc)
        (each_part (IsSoundPar names) with_notes (body_paragraphs doc) pars_sound) notes_fit))
