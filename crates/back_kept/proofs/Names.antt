-- The names of sections, notes and reference names that are met are those of the document.
use Rattle.std.proofs.Common.{◌≡◌, ◌≢◌, ◌≤◌, ℕ, List, [], ◌∷◌, ◌++◌, map, length, refl, sym, ap, ap₂, ◌∙◌, subst, append-nil}
use Rattle.std.specs.List.{flat_map}
use Rattle.std.proofs.lemmas.Grind.{flat_map-append}
use Rattle.std.proofs.lemmas.List.{map-append}
use Rattle.std.proofs.lemmas.List.Folds.{flat_map-map}
use Rattle.doc_model.specs.declared.document.Document.{Document}
use Rattle.doc_model.specs.declared.field.Field.{Field}
use Rattle.doc_model.specs.declared.field.Field.TheVariants as fields
use Rattle.doc_model.specs.declared.paragraph.Item.{Item}
use Rattle.doc_model.specs.declared.paragraph.Mark.{Mark as DocMark}
use Rattle.doc_model.specs.declared.paragraph.Note.{Note as DocNote, out-Note}
use Rattle.doc_model.specs.declared.paragraph.Par.{Par}
use Rattle.doc_model.specs.declared.paragraph.What.{What}
use Rattle.doc_model.specs.declared.paragraph.What.TheOpen.{What-F}
use Rattle.doc_model.specs.Parts.{all_fields, all_items, field_of, notes, sections, what_of}
use Rattle.doc_model.specs.Reading.{note_of}
use Rattle.doc_model.specs.Valid.{IsSection, IsValid, refname_of}
use Rattle.load_model.specs.Met.{Met, Section, Mark, Note, Reference, Sequence, Variable, Table, named_at, notes_met, references_met, sections_met}
use Rattle.back_valid.proofs.Lists.{each_also, each_map}
use Rattle.back_kept.proofs.Apart.{AreApart, hit, once_apart, once_some, pairs_of, some, some_all, some_apart}
use Rattle.back_met.specs.Things.{block_things, AreMet, Counted, Headed, IsMet, Marked, Noted, Thing, field_met, if_any, note_items, things_in, things_of}
use Rattle.back_kept.proofs.Counts.{body_items, doc_counted, each_same, notes_are, twice}
use Rattle.back_kept.proofs.Told.{Tells, all_body, body_told, head_in, inner_told, quiet_field, quiet_id, told_heads, told_items}

abbrev Names : Type 0
Names = List (List ℕ)

-- what has nothing to do with a name
abbrev no_head : List ℕ → Names
no_head name = []

abbrev no_mark : ℕ → DocMark → Names
no_mark text mark = []

abbrev no_field : Field → Names
no_field field = []

-- sections
abbrev tell_section : Met → Names
tell_section (Section section) = section.name ∷ []
tell_section _ = []

abbrev own_head : List ℕ → Names
own_head name = name ∷ []

section_tells : Tells tell_section own_head no_mark no_field no_head
section_tells = record {
  heads = λ place name around. refl;
  marks = λ place text mark. refl;
  fields = quiet_field tell_section (λ one. refl) (λ one. refl) (λ one. refl);
  ids = quiet_id tell_section (λ one. refl);
}

section_names_met : (met : List Met) → flat_map tell_section met ≡ map (λ section. section.name) (sections_met met)
section_names_met [] = refl
section_names_met (Section section ∷ met) = ap (λ (more : Names). section.name ∷ more) (section_names_met met)
section_names_met (Mark one ∷ met) = section_names_met met
section_names_met (Note one ∷ met) = section_names_met met
section_names_met (Reference one ∷ met) = section_names_met met
section_names_met (Sequence one ∷ met) = section_names_met met
section_names_met (Variable one ∷ met) = section_names_met met
section_names_met (Table one ∷ met) = section_names_met met

section_told : (thing : Thing) → body_told tell_section own_head no_mark no_field no_head section_tells (λ text mark. refl) thing ≡ head_in thing
section_told (Headed name) = refl
section_told (Marked mark) = refl
section_told (Counted field) = refl
section_told (Noted note) = none_inner (flat_map things_of (note_items note)) where
  none_inner : (things : List Thing) → flat_map (inner_told tell_section own_head no_mark no_field no_head section_tells 0) things ≡ []
  none_inner [] = refl
  none_inner (Headed name ∷ things) = none_inner things
  none_inner (Marked mark ∷ things) = none_inner things
  none_inner (Counted field ∷ things) = none_inner things
  none_inner (Noted note ∷ things) = none_inner things

-- notes
abbrev tell_note : Met → Names
tell_note (Note note) = note.name ∷ []
tell_note _ = []

note_tells : Tells tell_note no_head no_mark no_field some
note_tells = record { heads = λ place name around. refl; marks = λ place text mark. refl; fields = quiet_field tell_note (λ one. refl) (λ one. refl) (λ one. refl); ids = of_id } where
  of_id : (place : ℕ) (id : List ℕ) → flat_map tell_note (map Note (named_at place (if_any id))) ≡ some id
  of_id place [] = refl
  of_id place (c ∷ cs) = refl

note_names_met : (met : List Met) → flat_map tell_note met ≡ map (λ note. note.name) (notes_met met)
note_names_met [] = refl
note_names_met (Note note ∷ met) = ap (λ (more : Names). note.name ∷ more) (note_names_met met)
note_names_met (Section one ∷ met) = note_names_met met
note_names_met (Mark one ∷ met) = note_names_met met
note_names_met (Reference one ∷ met) = note_names_met met
note_names_met (Sequence one ∷ met) = note_names_met met
note_names_met (Variable one ∷ met) = note_names_met met
note_names_met (Table one ∷ met) = note_names_met met

abbrev id_in : Thing → Names
id_in (Noted note) = some (out-Note note).id
id_in _ = []

note_told : (thing : Thing) → body_told tell_note no_head no_mark no_field some note_tells (λ text mark. refl) thing ≡ id_in thing
note_told (Headed name) = refl
note_told (Marked mark) = refl
note_told (Counted field) = refl
note_told (Noted note) = ap (λ (more : Names). some (out-Note note).id ++ more) (none_inner (flat_map things_of (note_items note))) ∙ append-nil (some (out-Note note).id) where
  none_inner : (things : List Thing) → flat_map (inner_told tell_note no_head no_mark no_field some note_tells 0) things ≡ []
  none_inner [] = refl
  none_inner (Headed name ∷ things) = none_inner things
  none_inner (Marked mark ∷ things) = none_inner things
  none_inner (Counted field ∷ things) = none_inner things
  none_inner (Noted note ∷ things) = none_inner things

abbrev notes_of_what : What-F What Item DocNote Par → List DocNote
notes_of_what (What-F.Note note) = note ∷ []
notes_of_what _ = []

abbrev fields_of_what : What-F What Item DocNote Par → List Field
fields_of_what (What-F.Field field) = field ∷ []
fields_of_what _ = []

what_ids : (what : What-F What Item DocNote Par) → flat_map id_in (things_in what) ≡ flat_map (λ (note : DocNote). some (out-Note note).id) (notes_of_what what)
what_ids (What-F.Char c) = refl
what_ids What-F.Tab = refl
what_ids What-F.Break = refl
what_ids (What-F.Field field) = refl
what_ids (What-F.Note note) = refl
what_ids (What-F.Mark mark) = refl

item_ids : (items : List Item) → flat_map id_in (flat_map things_of items) ≡ flat_map some (map (λ (note : DocNote). (out-Note note).id) (flat_map note_of items))
item_ids [] = refl
item_ids (item ∷ items) =
    flat_map-append id_in (things_of item) (flat_map things_of items)
    ∙ ap₂ (λ (a b : Names). a ++ b) (what_ids (what_of item) ∙ sym (flat_map-map some (λ (note : DocNote). (out-Note note).id) (note_of item))) (item_ids items)
    ∙ sym (ap (flat_map some) (map-append (λ (note : DocNote). (out-Note note).id) (note_of item) (flat_map note_of items))
    ∙ flat_map-append some (map (λ (note : DocNote). (out-Note note).id) (note_of item)) (map (λ (note : DocNote). (out-Note note).id) (flat_map note_of items)))

-- references: how often a name is given
module _ (wanted : List ℕ) where
  abbrev tell_reference : Met → Names
  tell_reference (Reference field) = hit wanted field.name
  tell_reference _ = []

  abbrev own_field : Field → Names
  own_field field = flat_map (hit wanted) (flat_map some (refname_of field))

  reference_tells : Tells tell_reference no_head no_mark own_field no_head
  reference_tells = record { heads = λ place name around. refl; marks = λ place text mark. refl; fields = of_field; ids = quiet_id tell_reference (λ one. refl) } where
    of_field : (place : ℕ) (field : Field) → flat_map tell_reference (field_met place field) ≡ own_field field
    of_field place (fields.Sequence name [] format) = refl
    of_field place (fields.Sequence name (c ∷ cs) format) = refl
    of_field place (fields.VarSet name value) = refl
    of_field place (fields.VarGet name) = refl
    of_field place (fields.Chapter display level) = refl
    of_field place (fields.PageNumber select adjust format) = refl
    of_field place (fields.PageCount format) = refl
    of_field place (fields.BookRef name form) = refl
    of_field place (fields.SeqRef name form) = refl
    of_field place (fields.NoteRef name class form) = refl

  reference_names_met : (met : List Met) → flat_map tell_reference met ≡ flat_map (hit wanted) (map (λ field. field.name) (references_met met))
  reference_names_met [] = refl
  reference_names_met (Reference field ∷ met) = ap (λ (more : Names). hit wanted field.name ++ more) (reference_names_met met)
  reference_names_met (Section one ∷ met) = reference_names_met met
  reference_names_met (Mark one ∷ met) = reference_names_met met
  reference_names_met (Note one ∷ met) = reference_names_met met
  reference_names_met (Sequence one ∷ met) = reference_names_met met
  reference_names_met (Variable one ∷ met) = reference_names_met met
  reference_names_met (Table one ∷ met) = reference_names_met met

  abbrev whole : Thing → Names
  whole = body_told tell_reference no_head no_mark own_field no_head reference_tells (λ text mark. refl)

  abbrev inner : Thing → Names
  inner = inner_told tell_reference no_head no_mark own_field no_head reference_tells 0

  what_fields : (what : What-F What Item DocNote Par) → flat_map inner (things_in what) ≡ flat_map own_field (fields_of_what what)
  what_fields (What-F.Char c) = refl
  what_fields What-F.Tab = refl
  what_fields What-F.Break = refl
  what_fields (What-F.Field field) = refl
  what_fields (What-F.Note note) = refl
  what_fields (What-F.Mark mark) = refl

  pub references_counted : (doc : Document) (met : List Met) → AreMet IsMet (flat_map block_things doc.body) met
      → length (flat_map (hit wanted) (map (λ field. field.name) (references_met met))) ≡ length (flat_map (hit wanted) (flat_map some (flat_map refname_of (all_fields doc))))
  references_counted doc met are =
      ap length (sym (reference_names_met met) ∙ all_body tell_reference no_head no_mark own_field no_head reference_tells (λ text mark. refl) (flat_map block_things doc.body) met are ∙ told_items whole (λ name. refl) doc)
      ∙ doc_counted whole inner (λ mark. refl) (λ field. refl) (λ note. refl) (λ note. refl) doc
      ∙ ap length (each_same (λ (item : Item). flat_map inner (things_of item)) (λ (item : Item). flat_map own_field (field_of item)) (λ item. what_fields (what_of item)) (all_items doc)
      ∙ sym (twice own_field field_of (all_items doc)) ∙ sym (twice (λ (name : List ℕ). flat_map (hit wanted) (some name)) refname_of (all_fields doc) ∙ each_same _ _ (λ field. sym (twice (hit wanted) some (refname_of field))) (all_fields doc))
      ∙ sym (twice (hit wanted) some (flat_map refname_of (all_fields doc))))

module _ (doc : Document) (met : List Met) (are : AreMet IsMet (flat_map block_things doc.body) met) where
  pub section_names : map (λ section. section.name) (sections_met met) ≡ map (λ section. section.name) (sections doc)
  section_names =
      sym (section_names_met met) ∙ all_body tell_section own_head no_mark no_field no_head section_tells (λ text mark. refl) (flat_map block_things doc.body) met are
      ∙ each_same (body_told tell_section own_head no_mark no_field no_head section_tells (λ text mark. refl)) head_in section_told (flat_map block_things doc.body) ∙ told_heads doc

  pub note_names : map (λ note. note.name) (notes_met met) ≡ flat_map some (map (λ (note : DocNote). (out-Note note).id) (notes doc))
  note_names =
      sym (note_names_met met) ∙ all_body tell_note no_head no_mark no_field some note_tells (λ text mark. refl) (flat_map block_things doc.body) met are
      ∙ each_same (body_told tell_note no_head no_mark no_field some note_tells (λ text mark. refl)) id_in note_told (flat_map block_things doc.body)
      ∙ told_items id_in (λ name. refl) doc ∙ item_ids (body_items doc) ∙ ap (λ (some_notes : List DocNote). flat_map some (map (λ (note : DocNote). (out-Note note).id) some_notes)) (sym (notes_are doc))

  module _ (valid : IsValid doc) where
    pub sections_apart : AreApart (map (λ section. section.name) (sections_met met))
    sections_apart =
        subst AreApart (some_all (map (λ section. section.name) (sections doc)) (each_map (λ name. name ≢ []) (λ section. section.name) (sections doc) (each_also (IsSection doc) (λ section. section.name ≢ []) (λ section is. is.name) (sections doc) valid.each_section)) ∙ sym section_names)
        (some_apart (map (λ section. section.name) (sections doc)) (pairs_of (map (λ section. section.name) (sections doc)) valid.section_names))

    pub notes_apart : AreApart (map (λ note. note.name) (notes_met met))
    notes_apart = subst AreApart (sym note_names) (some_apart (map (λ (note : DocNote). (out-Note note).id) (notes doc)) (pairs_of (map (λ (note : DocNote). (out-Note note).id) (notes doc)) valid.note_ids))

    no_more : (wanted : List ℕ) → length (flat_map (hit wanted) (flat_map some (flat_map refname_of (all_fields doc)))) ≤ 1
    no_more wanted = once_some wanted (flat_map refname_of (all_fields doc)) (pairs_of (flat_map refname_of (all_fields doc)) valid.reference_names)

    pub references_apart : AreApart (map (λ field. field.name) (references_met met))
    references_apart = once_apart (map (λ field. field.name) (references_met met)) (λ wanted. subst (λ (n : ℕ). n ≤ 1) (sym (references_counted wanted doc met are)) (no_more wanted))
