-- As many sections are met as the document has, and no table.
use Rattle.std.proofs.Common.{◌≡◌, ℕ, ◌≤◌, true, List, [], ◌∷◌, ◌++◌, length, map, filter, refl, ap, ◌∙◌, arith}
use Rattle.std.specs.List.{flat_map}
use Rattle.std.proofs.lemmas.List.{length-map}
use Rattle.doc_model.specs.declared.document.Document.{Document}
use Rattle.doc_model.specs.declared.field.Field.{Field}
use Rattle.doc_model.specs.declared.paragraph.Mark.{Mark as DocMark}
use Rattle.doc_model.specs.Limits.{counts_as_section}
use Rattle.doc_model.specs.Parts.{SectionHead, sections}
use Rattle.doc_model.specs.Valid.{IsSection, IsValid}
use Rattle.load_model.specs.Met.{Met, MetSection, Section, Mark, Note, Reference, Sequence, Variable, Table, kept_sections, sections_met, tables_met}
use Rattle.back_met.specs.Things.{block_things, AreMet, Counted, Headed, IsMet, Marked, Noted, Thing, note_items, things_of}
use Rattle.back_kept.proofs.Apart.{filter_all}
use Rattle.back_kept.proofs.Names.{section_names}
use Rattle.back_kept.proofs.Told.{Tells, all_body, body_told, inner_told, quiet_field, quiet_id}
use Rattle.back_valid.proofs.Lists.{each_also}
use Rattle.back_offences.proofs.Lists.{few_firsts}

-- of a table its place is told, and of nothing else anything
abbrev tell_table : Met → List ℕ
tell_table (Table place) = place ∷ []
tell_table _ = []

abbrev no_name : List ℕ → List ℕ
no_name name = []

abbrev no_mark : ℕ → DocMark → List ℕ
no_mark text mark = []

abbrev no_field : Field → List ℕ
no_field field = []

table_tells : Tells tell_table no_name no_mark no_field no_name
table_tells = record {
  heads = λ place name around. refl;
  marks = λ place text mark. refl;
  fields = quiet_field tell_table (λ one. refl) (λ one. refl) (λ one. refl);
  ids = quiet_id tell_table (λ one. refl);
}

tables_told : (met : List Met) → tables_met met ≡ flat_map tell_table met
tables_told [] = refl
tables_told (Table place ∷ met) = ap (λ (more : List ℕ). place ∷ more) (tables_told met)
tables_told (Section one ∷ met) = tables_told met
tables_told (Mark one ∷ met) = tables_told met
tables_told (Note one ∷ met) = tables_told met
tables_told (Reference one ∷ met) = tables_told met
tables_told (Sequence one ∷ met) = tables_told met
tables_told (Variable one ∷ met) = tables_told met

none_inner : (things : List Thing) → flat_map (inner_told tell_table no_name no_mark no_field no_name table_tells 0) things ≡ []
none_inner [] = refl
none_inner (Headed name ∷ things) = none_inner things
none_inner (Marked mark ∷ things) = none_inner things
none_inner (Counted field ∷ things) = none_inner things
none_inner (Noted note ∷ things) = none_inner things

none_told : (things : List Thing) → flat_map (body_told tell_table no_name no_mark no_field no_name table_tells (λ text mark. refl)) things ≡ []
none_told [] = refl
none_told (Headed name ∷ things) = none_told things
none_told (Marked mark ∷ things) = none_told things
none_told (Counted field ∷ things) = none_told things
none_told (Noted note ∷ things) = ap (λ (front : List ℕ). front ++ flat_map (body_told tell_table no_name no_mark no_field no_name table_tells (λ text mark. refl)) things) (none_inner (flat_map things_of (note_items note))) ∙ none_told things

pub no_tables : (things : List Thing) (met : List Met) → AreMet IsMet things met → tables_met met ≡ []
no_tables things met are = tables_told met ∙ all_body tell_table no_name no_mark no_field no_name table_tells (λ text mark. refl) things met are ∙ none_told things

-- each section counts
all_count : (doc : Document) → IsValid doc → filter (λ section. counts_as_section section.kind) (sections doc) ≡ sections doc
all_count doc valid =
    filter_all (λ (section : SectionHead). counts_as_section section.kind) (sections doc)
    (each_also (IsSection doc) (λ section. counts_as_section section.kind ≡ true) (λ section is. ap counts_as_section is.kind) (sections doc) valid.each_section)

pub sections_few : (doc : Document) (met : List Met) → IsValid doc → AreMet IsMet (flat_map block_things doc.body) met
    → length (map (λ section. section.place) (kept_sections met)) ≤ length (filter (λ section. counts_as_section section.kind) (sections doc))
sections_few doc met valid are =
    let places = length-map (kept_sections met) (λ (section : MetSection). section.place) in
    let few : length (kept_sections met) ≤ length (sections_met met) = few_firsts _ (sections_met met) in
    let names : length (map (λ (section : MetSection). section.name) (sections_met met)) ≡ length (map (λ (section : SectionHead). section.name) (sections doc)) = ap length (section_names doc met are) in
    let one = length-map (sections_met met) (λ (section : MetSection). section.name) in
    let two = length-map (sections doc) (λ (section : SectionHead). section.name) in
    let count : length (filter (λ (section : SectionHead). counts_as_section section.kind) (sections doc)) ≡ length (sections doc) = ap length (all_count doc valid) in
    omega (arith, places, few, names, one, two, count)
