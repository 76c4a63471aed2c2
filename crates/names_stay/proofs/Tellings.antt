-- The names of each kind are told by what an item is, and stay where a change is made in its note.
use Rattle.std.proofs.Common.{◌≡◌, ℕ, List, [], ◌∷◌, map, refl, ap, sym, ◌∙◌}
use Rattle.std.specs.List.{flat_map}
use Rattle.doc_model.specs.declared.field.Field.{Field}
use Rattle.doc_model.specs.declared.field.Field.TheVariants as fields
use Rattle.doc_model.specs.declared.paragraph.Par.{Par}
use Rattle.doc_model.specs.declared.paragraph.Item.{Item, out-Item, roll-Item}
use Rattle.doc_model.specs.declared.paragraph.What.{What, out-What, roll-What}
use Rattle.doc_model.specs.declared.paragraph.What.TheOpen.{What-F, Item-F}
use Rattle.doc_model.specs.declared.paragraph.What.TheViews.{out-roll-What, out-roll-Item, out-roll-Note}
use Rattle.doc_model.specs.declared.paragraph.Note.{Note, out-Note}
use Rattle.doc_model.specs.Alike.{in_note}
use Rattle.doc_model.specs.Parts.{what_of, mark_of, mark_name, field_of}
use Rattle.doc_model.specs.Reading.{note_of}
use Rattle.doc_model.specs.Valid.{refname_of}
use Rattle.names_stay.specs.Blind.{IsNameless, IsBlind}
use Rattle.names_stay.proofs.Told.{what_within, within_known, note_within, changed_note, note_blind}

-- what is told of an item by what it is
record ByWhat {X : Type 0} (tell : Item → List X) : Type 0 where
  of_what : What-F What Item Note Par → List X
  known : (item : Item) → tell item ≡ of_what (what_of item)
  nameless : (what : What-F What Item Note Par) → IsNameless what → of_what what ≡ []
  within : (change : Par → Par) (what : What-F What Item Note Par) → of_what (what_within change what) ≡ of_what what

what_rolled : (spans : List (List ℕ)) (what : What) → what_of (roll-Item (record { spans = spans; what = what })) ≡ out-What what
what_rolled spans what = ap (λ (x : Item-F What Item Note Par). out-What x.what) (out-roll-Item (record { spans = spans; what = what }))

told_blind : {X : Type 0} (tell : Item → List X) → ByWhat tell → IsBlind tell
told_blind tell by = record {
  nameless = λ spans what none. by.known (roll-Item (record { spans = spans; what = roll-What what })) ∙ ap by.of_what (what_rolled spans (roll-What what) ∙ out-roll-What what) ∙ by.nameless what none;
  spans = λ item spans. by.known (roll-Item (record (out-Item item) { spans = spans })) ∙ ap by.of_what (what_rolled spans (out-Item item).what) ∙ sym (by.known item);
}

told_within : {X : Type 0} (tell : Item → List X) → ByWhat tell → (change : Par → Par) (item : Item) → tell (in_note change item) ≡ tell item
told_within tell by change item =
    by.known (in_note change item) ∙ ap by.of_what (within_known change item (what_of item) refl) ∙ by.within change (what_of item) ∙ sym (by.known item)

-- marks
abbrev mark_names_in : What-F What Item Note Par → List (List ℕ)
mark_names_in (What-F.Mark mark) = mark_name mark ∷ []
mark_names_in _ = []

abbrev pub mark_names : Item → List (List ℕ)
mark_names item = map mark_name (mark_of item)

marks_by : ByWhat mark_names
marks_by = record { of_what = mark_names_in; known = λ item. known item (what_of item) refl; nameless = nameless; within = within } where
  known : (item : Item) (x : What-F What Item Note Par) → what_of item ≡ x → mark_names item ≡ mark_names_in x
  known item (What-F.Char c) is = rw is refl
  known item What-F.Tab is = rw is refl
  known item What-F.Break is = rw is refl
  known item (What-F.Field field) is = rw is refl
  known item (What-F.Note note) is = rw is refl
  known item (What-F.Mark mark) is = rw is refl

  nameless : (what : What-F What Item Note Par) → IsNameless what → mark_names_in what ≡ []
  nameless (What-F.Mark mark) none = absurd none
  nameless (What-F.Char c) none = refl
  nameless What-F.Tab none = refl
  nameless What-F.Break none = refl
  nameless (What-F.Field field) none = refl
  nameless (What-F.Note note) none = refl

  within : (change : Par → Par) (what : What-F What Item Note Par) → mark_names_in (what_within change what) ≡ mark_names_in what
  within change (What-F.Char c) = refl
  within change What-F.Tab = refl
  within change What-F.Break = refl
  within change (What-F.Field field) = refl
  within change (What-F.Note note) = refl
  within change (What-F.Mark mark) = refl

-- sequence fields
abbrev refnames_in : What-F What Item Note Par → List (List ℕ)
refnames_in (What-F.Field field) = refname_of field
refnames_in _ = []

abbrev pub refnames : Item → List (List ℕ)
refnames item = flat_map refname_of (field_of item)

append_none : (xs : List (List ℕ)) → flat_map (λ (x : List ℕ). x ∷ []) xs ≡ xs
append_none [] = refl
append_none (x ∷ xs) = ap (λ (behind : List (List ℕ)). x ∷ behind) (append_none xs)

refname_alone : (field : Field) → flat_map refname_of (field ∷ []) ≡ refname_of field
refname_alone (fields.Sequence name refname format) = refl
refname_alone (fields.VarSet name value) = refl
refname_alone (fields.VarGet name) = refl
refname_alone (fields.Chapter display level) = refl
refname_alone (fields.PageNumber select adjust format) = refl
refname_alone (fields.PageCount format) = refl
refname_alone (fields.BookRef name form) = refl
refname_alone (fields.SeqRef name form) = refl
refname_alone (fields.NoteRef name class form) = refl

field_nameless : (field : Field) → IsNameless (What-F.Field field) → refname_of field ≡ []
field_nameless (fields.Sequence name refname format) none = absurd none
field_nameless (fields.VarSet name value) none = refl
field_nameless (fields.VarGet name) none = refl
field_nameless (fields.Chapter display level) none = refl
field_nameless (fields.PageNumber select adjust format) none = refl
field_nameless (fields.PageCount format) none = refl
field_nameless (fields.BookRef name form) none = refl
field_nameless (fields.SeqRef name form) none = refl
field_nameless (fields.NoteRef name class form) none = refl

references_by : ByWhat refnames
references_by = record { of_what = refnames_in; known = λ item. known item (what_of item) refl; nameless = nameless; within = within } where
  known : (item : Item) (x : What-F What Item Note Par) → what_of item ≡ x → refnames item ≡ refnames_in x
  known item (What-F.Char c) is = rw is refl
  known item What-F.Tab is = rw is refl
  known item What-F.Break is = rw is refl
  known item (What-F.Field field) is = rw is (refname_alone field)
  known item (What-F.Note note) is = rw is refl
  known item (What-F.Mark mark) is = rw is refl

  nameless : (what : What-F What Item Note Par) → IsNameless what → refnames_in what ≡ []
  nameless (What-F.Field field) none = field_nameless field none
  nameless (What-F.Char c) none = refl
  nameless What-F.Tab none = refl
  nameless What-F.Break none = refl
  nameless (What-F.Note note) none = refl
  nameless (What-F.Mark mark) none = refl

  within : (change : Par → Par) (what : What-F What Item Note Par) → refnames_in (what_within change what) ≡ refnames_in what
  within change (What-F.Char c) = refl
  within change What-F.Tab = refl
  within change What-F.Break = refl
  within change (What-F.Field field) = refl
  within change (What-F.Note note) = refl
  within change (What-F.Mark mark) = refl

pub mark_blind : IsBlind mark_names
mark_blind = told_blind mark_names marks_by

pub mark_within : (change : Par → Par) (item : Item) → mark_names (in_note change item) ≡ mark_names item
mark_within = told_within mark_names marks_by

pub reference_blind : IsBlind refnames
reference_blind = told_blind refnames references_by

pub reference_within : (change : Par → Par) (item : Item) → refnames (in_note change item) ≡ refnames item
reference_within = told_within refnames references_by

-- notes
abbrev pub ids : Item → List (List ℕ)
ids item = map (λ note. (out-Note note).id) (note_of item)

pub id_blind : IsBlind ids
id_blind = record {
  nameless = λ spans what none. ap (map (λ (note : Note). (out-Note note).id)) (note_blind.nameless spans what none);
  spans = λ item spans. ap (map (λ (note : Note). (out-Note note).id)) (note_blind.spans item spans);
}

id_changed : (change : Par → Par) (notes : List Note) → map (λ note. (out-Note note).id) (map (changed_note change) notes) ≡ map (λ note. (out-Note note).id) notes
id_changed change [] = refl
id_changed change (note ∷ notes) = ap (λ (name : List ℕ). name ∷ map (λ n. (out-Note n).id) (map (changed_note change) notes)) (simp out-roll-Note) ∙ ap (λ (names : List (List ℕ)). (out-Note note).id ∷ names) (id_changed change notes)

pub id_within : (change : Par → Par) (item : Item) → ids (in_note change item) ≡ ids item
id_within change item = ap (map (λ (note : Note). (out-Note note).id)) (note_within change item) ∙ id_changed change (note_of item)
