-- What is gathered of items leaves the number of the note that was gathered last, and adds a place for each note of the body.
use Rattle.std.proofs.Common.{◌≡◌, ℕ, ◌+◌, Bool, true, false, cond, List, [], ◌∷◌, length, refl, ap, ◌∙◌, arith, length-append}
use Rattle.std.specs.List.{flat_map}
use Rattle.doc_model.specs.declared.paragraph.Item.{Item}
use Rattle.doc_model.specs.declared.paragraph.What.{What}
use Rattle.doc_model.specs.declared.paragraph.What.TheOpen.{What-F}
use Rattle.doc_model.specs.declared.paragraph.Note.{Note, out-Note}
use Rattle.doc_model.specs.declared.paragraph.Par.{Par}
use Rattle.doc_model.specs.declared.field.Field.{Field}
use Rattle.doc_model.specs.declared.field.Field.TheVariants as fields
use Rattle.doc_model.specs.Reading.{note_of}
use Rattle.doc_model.specs.Parts.{what_of, mark_name}
use Rattle.field_model.specs.Gathered.{Event, Letter, Cited, Marked, field_event, item_event, with_items, in_note, note_number, note_places}

-- what an item is, one level deep
abbrev event_of : What-F What Item Note Par → Event
event_of (What-F.Char char) = Letter char
event_of What-F.Tab = Letter 32
event_of What-F.Break = Letter 32
event_of (What-F.Field field) = field_event field
event_of (What-F.Note note) = Cited (out-Note note).id (out-Note note).class
event_of (What-F.Mark mark) = Marked (mark_name mark)

abbrev notes_in : What-F What Item Note Par → List Note
notes_in (What-F.Char char) = []
notes_in What-F.Tab = []
notes_in What-F.Break = []
notes_in (What-F.Field field) = []
notes_in (What-F.Note note) = note ∷ []
notes_in (What-F.Mark mark) = []

-- the number of the note
field_number : (field : Field) (before : List Event) → note_number (field_event field ∷ before) ≡ note_number before
field_number (fields.Sequence name refname format) before = refl
field_number (fields.VarSet name value) before = refl
field_number (fields.VarGet name) before = refl
field_number (fields.Chapter display level) before = refl
field_number (fields.PageNumber select adjust format) before = refl
field_number (fields.PageCount format) before = refl
field_number (fields.BookRef name form) before = refl
field_number (fields.SeqRef name form) before = refl
field_number (fields.NoteRef name class form) before = refl

layer_number : (layer : What-F What Item Note Par) (before : List Event) → note_number (event_of layer ∷ before) ≡ note_number before
layer_number (What-F.Char char) before = refl
layer_number What-F.Tab before = refl
layer_number What-F.Break before = refl
layer_number (What-F.Field field) before = field_number field before
layer_number (What-F.Note note) before = refl
layer_number (What-F.Mark mark) before = refl

pub items_number : (items : List Item) (before : List Event) → note_number (with_items before items) ≡ note_number before
items_number [] before = refl
items_number (item ∷ items) before = items_number items (item_event item ∷ before) ∙ layer_number (what_of item) before

-- whether it stands in a note
field_in_note : (field : Field) (before : List Event) → in_note (field_event field ∷ before) ≡ in_note before
field_in_note (fields.Sequence name refname format) before = refl
field_in_note (fields.VarSet name value) before = refl
field_in_note (fields.VarGet name) before = refl
field_in_note (fields.Chapter display level) before = refl
field_in_note (fields.PageNumber select adjust format) before = refl
field_in_note (fields.PageCount format) before = refl
field_in_note (fields.BookRef name form) before = refl
field_in_note (fields.SeqRef name form) before = refl
field_in_note (fields.NoteRef name class form) before = refl

layer_in_note : (layer : What-F What Item Note Par) (before : List Event) → in_note (event_of layer ∷ before) ≡ in_note before
layer_in_note (What-F.Char char) before = refl
layer_in_note What-F.Tab before = refl
layer_in_note What-F.Break before = refl
layer_in_note (What-F.Field field) before = field_in_note field before
layer_in_note (What-F.Note note) before = refl
layer_in_note (What-F.Mark mark) before = refl

-- the places of notes
field_places : (field : Field) (before : List Event) → note_places (field_event field ∷ before) ≡ note_places before
field_places (fields.Sequence name refname format) before = refl
field_places (fields.VarSet name value) before = refl
field_places (fields.VarGet name) before = refl
field_places (fields.Chapter display level) before = refl
field_places (fields.PageNumber select adjust format) before = refl
field_places (fields.PageCount format) before = refl
field_places (fields.BookRef name form) before = refl
field_places (fields.SeqRef name form) before = refl
field_places (fields.NoteRef name class form) before = refl

kept_if : (noted : Bool) (places more : List ℕ) → noted ≡ true → cond noted places more ≡ places
kept_if noted places more e = ap (λ b. cond b places more) e

layer_kept : (layer : What-F What Item Note Par) (before : List Event) → in_note before ≡ true → note_places (event_of layer ∷ before) ≡ note_places before
layer_kept (What-F.Char char) before e = refl
layer_kept What-F.Tab before e = refl
layer_kept What-F.Break before e = refl
layer_kept (What-F.Field field) before e = field_places field before
layer_kept (What-F.Note note) before e = kept_if (in_note before) _ _ e
layer_kept (What-F.Mark mark) before e = refl

-- items of a note leave them
pub items_kept : (items : List Item) (before : List Event) → in_note before ≡ true → note_places (with_items before items) ≡ note_places before
items_kept [] before e = refl
items_kept (item ∷ items) before e =
    items_kept items (item_event item ∷ before) (layer_in_note (what_of item) before ∙ e) ∙ layer_kept (what_of item) before e

more_if : (noted : Bool) (places more : List ℕ) → noted ≡ false → cond noted places more ≡ more
more_if noted places more e = ap (λ b. cond b places more) e

layer_places : (layer : What-F What Item Note Par) (before : List Event) → in_note before ≡ false → length (note_places (event_of layer ∷ before)) ≡ length (note_places before) + length (notes_in layer)
layer_places (What-F.Char char) before e = omega arith
layer_places What-F.Tab before e = omega arith
layer_places What-F.Break before e = omega arith
layer_places (What-F.Field field) before e = ap length (field_places field before) ∙ omega arith
layer_places (What-F.Note note) before e = ap length (more_if (in_note before) _ _ e) ∙ length-append (note_places before) (length before ∷ [])
layer_places (What-F.Mark mark) before e = omega arith

-- items of the body add one for each note
pub items_places : (items : List Item) (before : List Event) → in_note before ≡ false → length (note_places (with_items before items)) ≡ length (note_places before) + length (flat_map note_of items)
items_places [] before e = omega arith
items_places (item ∷ items) before e =
    let rest = items_places items (item_event item ∷ before) (layer_in_note (what_of item) before ∙ e) in
    let own : length (note_places (item_event item ∷ before)) ≡ length (note_places before) + length (note_of item) = layer_places (what_of item) before e in
    let both : length (flat_map note_of (item ∷ items)) ≡ length (note_of item) + length (flat_map note_of items) = length-append (note_of item) (flat_map note_of items) in
    omega arith
