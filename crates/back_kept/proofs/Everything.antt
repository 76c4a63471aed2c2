-- In the text of a written valid document everything that is met is kept.
use Rattle.std.proofs.Common.{◌≡◌, ℕ, true, List, [], ◌∷◌, ◌++◌, map, refl, sym, ap, ◌∙◌, subst, append-nil}
use Rattle.std.specs.List.{flat_map, AllByRecursion as Each}
use Rattle.std.proofs.lemmas.Grind.{flat_map-append}
use Rattle.markup_nodes.specs.Node.{Element}
use Rattle.doc_model.specs.declared.document.Document.{Document}
use Rattle.doc_model.specs.declared.field.Field.{Field}
use Rattle.doc_model.specs.declared.paragraph.Item.{Item}
use Rattle.doc_model.specs.declared.paragraph.Mark.{Mark as DocMark}
use Rattle.doc_model.specs.declared.paragraph.Note.{Note as DocNote, out-Note}
use Rattle.doc_model.specs.declared.paragraph.Par.{Par}
use Rattle.doc_model.specs.declared.paragraph.What.{What}
use Rattle.doc_model.specs.declared.paragraph.What.TheOpen.{What-F}
use Rattle.doc_model.specs.Parts.{items_of, mark_name, mark_of, notes, sections, what_of}
use Rattle.doc_model.specs.Reading.{body_paragraphs, note_of}
use Rattle.doc_model.specs.Valid.{IsBookmark, IsValid}
use Rattle.load_model.specs.declared.element.Element.{Element as Read}
use Rattle.load_model.specs.Met.{Kept, Met, MetMark, MetName, MetSection, Section, Mark, Note, Reference, Sequence, Variable, Table, is_at, kept_of, marks_met, met_in, notes_met, references_met, sections_met}
use Rattle.written_model.specs.Written.{text_element}
use Rattle.back_names.specs.Named.{named_node, placeless}
use Rattle.back_valid.proofs.Lists.{each_also, each_joined, each_mapped, each_part}
use Rattle.back_kept.specs.Kept.{IsKept}
use Rattle.back_kept.proofs.Apart.{each_at, firsts_all}
use Rattle.back_met.specs.Things.{block_things, AreMet, IsMet, Thing, note_items, things_in, things_of}
use Rattle.back_kept.proofs.Bookmarks.{bookmark_seen}
use Rattle.back_kept.proofs.Counts.{body_items}
use Rattle.back_kept.proofs.Marks.{IsWhole, marks_kept, seen}
use Rattle.back_met.proofs.Readable.{AreInner, HoldsOf, IsFine, IsOfBookmark, marks_in, pars_fine, text_met}
use Rattle.back_kept.proofs.Names.{notes_apart, references_apart, sections_apart}
use Rattle.back_kept.proofs.Told.{Tells, all_body, body_told, inner_told, quiet_field, quiet_id, told_items}

each_append : {X : Type 0} (P : X → Type 0) (xs ys : List X) → Each P xs → Each P ys → Each P (xs ++ ys)
each_append P [] ys one other = other
each_append P (x ∷ xs) ys one other = (one.0, each_append P xs ys one.1 other)

each_flat : {X Y : Type 0} (P : Y → Type 0) (f : X → List Y) (xs : List X) → Each (λ x. Each P (f x)) xs → Each P (flat_map f xs)
each_flat P f [] each = tt
each_flat P f (x ∷ xs) each = each_append P (f x) (flat_map f xs) each.0 (each_flat P f xs each.1)

module _ (doc : Document) (valid : IsValid doc) where
  -- the names of marks that are met are those of bookmarks
  abbrev Names : Type 0
  Names = List (List ℕ)

  abbrev tell_mark : Met → Names
  tell_mark (Mark mark) = mark.name ∷ []
  tell_mark _ = []

  abbrev no_head : List ℕ → Names
  no_head name = []

  abbrev no_field : Field → Names
  no_field field = []

  abbrev own_name : ℕ → DocMark → Names
  own_name text mark = mark_name mark ∷ []

  mark_tells : Tells tell_mark no_head own_name no_field no_head
  mark_tells = record {
    heads = λ place name around. refl;
    marks = λ place text mark. refl;
    fields = quiet_field tell_mark (λ one. refl) (λ one. refl) (λ one. refl);
    ids = quiet_id tell_mark (λ one. refl);
  }

  mark_names_met : (met : List Met) → flat_map tell_mark met ≡ map (λ mark. mark.name) (marks_met met)
  mark_names_met [] = refl
  mark_names_met (Mark mark ∷ met) = ap (λ (more : Names). mark.name ∷ more) (mark_names_met met)
  mark_names_met (Section one ∷ met) = mark_names_met met
  mark_names_met (Note one ∷ met) = mark_names_met met
  mark_names_met (Reference one ∷ met) = mark_names_met met
  mark_names_met (Sequence one ∷ met) = mark_names_met met
  mark_names_met (Variable one ∷ met) = mark_names_met met
  mark_names_met (Table one ∷ met) = mark_names_met met

  abbrev whole : Thing → Names
  whole = body_told tell_mark no_head own_name no_field no_head mark_tells (λ text mark. refl)

  abbrev inner : Thing → Names
  inner = inner_told tell_mark no_head own_name no_field no_head mark_tells 0

  inner_bookmarks : (items : List Item) → Each (IsFine doc valid) items → Each (IsBookmark doc) (flat_map inner (flat_map things_of items))
  inner_bookmarks [] fine = tt
  inner_bookmarks (item ∷ items) fine =
      subst (Each (IsBookmark doc)) (sym (flat_map-append inner (things_of item) (flat_map things_of items)))
      (each_append (IsBookmark doc) (flat_map inner (things_of item)) (flat_map inner (flat_map things_of items)) (by_what (what_of item) fine.0.1) (inner_bookmarks items fine.1)) where
        by_what : (what : What-F What Item DocNote Par) → Each (IsOfBookmark doc valid) (marks_in what) → Each (IsBookmark doc) (flat_map inner (things_in what))
        by_what (What-F.Char c) marks = tt
        by_what What-F.Tab marks = tt
        by_what What-F.Break marks = tt
        by_what (What-F.Field field) marks = tt
        by_what (What-F.Note note) marks = tt
        by_what (What-F.Mark mark) marks = (marks.0.0, tt)

  abbrev notes_in : What-F What Item DocNote Par → List DocNote
  notes_in (What-F.Note note) = note ∷ []
  notes_in _ = []

  abbrev IsFineBody : Item → Type 0
  IsFineBody item = Each (IsOfBookmark doc valid) (mark_of item) × Each (AreInner doc valid) (note_of item)

  body_bookmarks : (items : List Item) → Each IsFineBody items → Each (IsBookmark doc) (flat_map whole (flat_map things_of items))
  body_bookmarks [] fine = tt
  body_bookmarks (item ∷ items) fine =
      subst (Each (IsBookmark doc)) (sym (flat_map-append whole (things_of item) (flat_map things_of items)))
      (each_append (IsBookmark doc) (flat_map whole (things_of item)) (flat_map whole (flat_map things_of items)) (by_what (what_of item) fine.0.0 fine.0.1) (body_bookmarks items fine.1)) where
        by_what : (what : What-F What Item DocNote Par) → Each (IsOfBookmark doc valid) (marks_in what) → Each (AreInner doc valid) (notes_in what) → Each (IsBookmark doc) (flat_map whole (things_in what))
        by_what (What-F.Char c) marks held = tt
        by_what What-F.Tab marks held = tt
        by_what What-F.Break marks held = tt
        by_what (What-F.Field field) marks held = tt
        by_what (What-F.Mark mark) marks held = (marks.0.0, tt)
        by_what (What-F.Note note) marks held =
            subst (Each (IsBookmark doc)) (sym (append-nil (flat_map inner (flat_map things_of (note_items note))))) (inner_bookmarks (note_items note) (each_flat (IsFine doc valid) items_of (out-Note note).pars held.0))

  body_fine : Each IsFineBody (body_items doc)
  body_fine =
      each_flat IsFineBody items_of (body_paragraphs doc)
      (each_also (HoldsOf (IsFine doc valid)) (λ par. Each IsFineBody (items_of par))
      (λ par is. each_joined (IsFine doc valid) (λ item. Each (AreInner doc valid) (note_of item)) IsFineBody (λ item one other. (one.1, other)) (items_of par) is.0 (each_part (AreInner doc valid) note_of (items_of par) is.1))
      (body_paragraphs doc) (pars_fine doc valid))

  module _ (met : List Met) (are : AreMet IsMet (flat_map block_things doc.body) met) where
    marks_of_bookmarks : Each (λ mark. IsBookmark doc mark.name) (marks_met met)
    marks_of_bookmarks =
        each_mapped (IsBookmark doc) (λ mark. mark.name) (marks_met met)
        (subst (Each (IsBookmark doc)) (sym (sym (mark_names_met met) ∙ all_body tell_mark no_head own_name no_field no_head mark_tells (λ text mark. refl) (flat_map block_things doc.body) met are ∙ told_items whole (λ name. refl) doc))
        (body_bookmarks (body_items doc) body_fine))

    sections_kept : Each (λ section. is_at (kept_of met).sections section.place ≡ true) (sections_met met)
    sections_kept =
        subst (λ (first_ones : List MetSection). Each (λ (section : MetSection). is_at (map (λ (one : MetSection). one.place) first_ones) section.place ≡ true) (sections_met met))
        (sym (firsts_all (λ (section : MetSection). section.name) (sections_met met) (sections_apart doc met are valid))) (each_at (λ (section : MetSection). section.place) (sections_met met))

    notes_kept : Each (λ note. is_at (kept_of met).notes note.place ≡ true) (notes_met met)
    notes_kept =
        subst (λ (first_ones : List MetName). Each (λ (note : MetName). is_at (map (λ (one : MetName). one.place) first_ones) note.place ≡ true) (notes_met met))
        (sym (firsts_all (λ (note : MetName). note.name) (notes_met met) (notes_apart doc met are valid))) (each_at (λ (note : MetName). note.place) (notes_met met))

    references_kept : Each (λ field. is_at (kept_of met).references field.place ≡ true) (references_met met)
    references_kept =
        subst (λ (first_ones : List MetName). Each (λ (field : MetName). is_at (map (λ (one : MetName). one.place) first_ones) field.place ≡ true) (references_met met))
        (sym (firsts_all (λ (field : MetName). field.name) (references_met met) (references_apart doc met are valid))) (each_at (λ (field : MetName). field.place) (references_met met))

    all_marks_kept : Each (λ mark. is_at (kept_of met).marks mark.place ≡ true) (marks_met met)
    all_marks_kept =
        subst (λ (some : List MetMark). Each (λ (mark : MetMark). is_at (map (λ (one : MetMark). one.place) some) mark.place ≡ true) (marks_met met))
        (sym (marks_kept met (each_also (λ mark. IsBookmark doc mark.name) (λ mark. IsWhole (seen mark.name (marks_met met))) (λ mark is. bookmark_seen mark.name doc met are is) (marks_met met) marks_of_bookmarks)))
        (each_at (λ (mark : MetMark). mark.place) (marks_met met))

-- each thing by its kind
each_kept : (kept : Kept) (met : List Met) → Each (λ section. is_at kept.sections section.place ≡ true) (sections_met met) → Each (λ mark. is_at kept.marks mark.place ≡ true) (marks_met met)
    → Each (λ note. is_at kept.notes note.place ≡ true) (notes_met met) → Each (λ field. is_at kept.references field.place ≡ true) (references_met met) → Each (IsKept kept) met
each_kept kept [] sections marks notes references = tt
each_kept kept (Section one ∷ met) sections marks notes references = (sections.0, each_kept kept met sections.1 marks notes references)
each_kept kept (Mark one ∷ met) sections marks notes references = (marks.0, each_kept kept met sections marks.1 notes references)
each_kept kept (Note one ∷ met) sections marks notes references = (notes.0, each_kept kept met sections marks notes.1 references)
each_kept kept (Reference one ∷ met) sections marks notes references = (references.0, each_kept kept met sections marks notes references.1)
each_kept kept (Sequence one ∷ met) sections marks notes references = (tt, each_kept kept met sections marks notes references)
each_kept kept (Variable one ∷ met) sections marks notes references = (tt, each_kept kept met sections marks notes references)
each_kept kept (Table one ∷ met) sections marks notes references = (tt, each_kept kept met sections marks notes references)

pub all_kept : (doc : Document) (text : Read) → IsValid doc → Element (placeless text) ≡ named_node (text_element doc) → Each (IsKept (kept_of (met_in text))) (met_in text)
all_kept doc text valid e =
    let met = met_in text in
    let are = text_met doc text valid e in
    each_kept (kept_of met) met (sections_kept doc valid met are) (all_marks_kept doc valid met are) (notes_kept doc valid met are) (references_kept doc valid met are)
