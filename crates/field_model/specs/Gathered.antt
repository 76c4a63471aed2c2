-- What is gathered of a document, for fields: the heads and the items of its paragraphs, in the order of rows: a note's paragraphs come behind the one that they are cited in. The order in which they are read is told by spots. A list of what is gathered has the last one in front, so that what stands before something is the rest of the list.
use Rattle.std.specs.Prelude.{ℕ, ◌-◌, ◌≤◌, ◌==◌, nat_lt, nat_le, ◌&&◌, ◌||◌, Bool, true, false, not, if◌then◌else◌, List, [], ◌∷◌, ◌++◌, fold, length, slice_index}
use Rattle.doc_model.specs.declared.paragraph.ParHead.{ParHead}
use Rattle.doc_model.specs.declared.paragraph.Item.{Item}
use Rattle.doc_model.specs.declared.paragraph.What.{What}
use Rattle.doc_model.specs.declared.paragraph.What.TheOpen.{What-F}
use Rattle.doc_model.specs.declared.paragraph.Note.{Note, out-Note}
use Rattle.doc_model.specs.declared.paragraph.Par.{Par}
use Rattle.doc_model.specs.declared.field.Field.{Field}
use Rattle.doc_model.specs.declared.field.Field.TheVariants as fields
use Rattle.doc_model.specs.declared.field.Format.{Format}
use Rattle.doc_model.specs.declared.field.NoteClass.{NoteClass}
use Rattle.doc_model.specs.declared.page.Label.{Label}
use Rattle.doc_model.specs.Parts.{what_of, mark_name}
use Rattle.field_model.specs.declared.gathered.Gathered.{Gathered}
use Rattle.field_model.specs.declared.gathered.Gathered.TheVariants as place
use Rattle.field_model.specs.declared.gathered.Spot.{Spot}

-- a gathered paragraph: where it stands, its head, its label and its items
pub record GatheredPar : Type 0 where
  pub place : Gathered
  pub head : ParHead
  pub label : Label
  pub items : List Item

-- what is gathered, one after another
pub data Event : Type 0 where
  -- a paragraph begins
  Head : (place : Gathered) (head : ParHead) (label : Label) → Event
  -- a character, or a tab or break, which are quoted as a space
  Letter : (char : ℕ) → Event
  -- a sequence field
  Counted : (name : List ℕ) (refname : List ℕ) (format : Format) → Event
  -- a field that sets a variable
  Assigned : (name : List ℕ) (value : List ℕ) → Event
  -- a field that shows a variable
  Asked : (name : List ℕ) → Event
  -- the item of a note
  Cited : (id : List ℕ) (class : NoteClass) → Event
  -- a mark of a bookmark
  Marked : (name : List ℕ) → Event
  -- any other field
  Other : Event

-- what a field is
abbrev pub field_event : Field → Event
field_event (fields.Sequence name refname format) = Counted name refname format
field_event (fields.VarSet name value) = Assigned name value
field_event (fields.VarGet name) = Asked name
field_event (fields.Chapter display level) = Other
field_event (fields.PageNumber select adjust format) = Other
field_event (fields.PageCount format) = Other
field_event (fields.BookRef name form) = Other
field_event (fields.SeqRef name form) = Other
field_event (fields.NoteRef name class form) = Other

-- what an item is
abbrev pub item_event : Item → Event
item_event item = of_what (what_of item) where
  of_what : What-F What Item Note Par → Event
  of_what (What-F.Char char) = Letter char
  of_what What-F.Tab = Letter 32
  of_what What-F.Break = Letter 32
  of_what (What-F.Field field) = field_event field
  of_what (What-F.Note note) = Cited (out-Note note).id (out-Note note).class
  of_what (What-F.Mark mark) = Marked (mark_name mark)

-- items, gathered behind what was
abbrev pub with_items : List Event → List Item → List Event
with_items before items = fold (λ gathered item. item_event item ∷ gathered) before items

-- a paragraph, gathered behind what was
abbrev pub with_par : GatheredPar → List Event → List Event
with_par par before = with_items (Head par.place par.head par.label ∷ before) par.items

-- all that the paragraphs have, the last one in front in both lists
abbrev pub events : List GatheredPar → List Event
events [] = []
events (par ∷ before) = with_par par (events before)

-- whether a paragraph stands in a note
abbrev pub is_in_note : Gathered → Bool
is_in_note place.Body = false
is_in_note (place.Note number) = true

-- whether what was gathered last stands in a note
abbrev pub in_note : List Event → Bool
in_note [] = false
in_note (Head place head label ∷ before) = is_in_note place
in_note (Letter char ∷ before) = in_note before
in_note (Counted name refname format ∷ before) = in_note before
in_note (Assigned name value ∷ before) = in_note before
in_note (Asked name ∷ before) = in_note before
in_note (Cited id class ∷ before) = in_note before
in_note (Marked name ∷ before) = in_note before
in_note (Other ∷ before) = in_note before

-- the places of the note items of the paragraph of the body that was gathered last
abbrev pub note_places : List Event → List ℕ
note_places [] = []
note_places (Head place.Body head label ∷ before) = []
note_places (Head (place.Note number) head label ∷ before) = note_places before
note_places (Letter char ∷ before) = note_places before
note_places (Counted name refname format ∷ before) = note_places before
note_places (Assigned name value ∷ before) = note_places before
note_places (Asked name ∷ before) = note_places before
note_places (Cited id class ∷ before) = if in_note before then note_places before else note_places before ++ length before ∷ []
note_places (Marked name ∷ before) = note_places before
note_places (Other ∷ before) = note_places before

-- the place of the item of a paragraph's note
abbrev pub anchor_of : Gathered → List Event → ℕ
anchor_of place.Body before = 0
anchor_of (place.Note number) before = slice_index (note_places before) (number - 1)

-- the place of the item of the note that the paragraph gathered last stands in
abbrev pub note_place : List Event → ℕ
note_place [] = 0
note_place (Head place head label ∷ before) = anchor_of place before
note_place (Letter char ∷ before) = note_place before
note_place (Counted name refname format ∷ before) = note_place before
note_place (Assigned name value ∷ before) = note_place before
note_place (Asked name ∷ before) = note_place before
note_place (Cited id class ∷ before) = note_place before
note_place (Marked name ∷ before) = note_place before
note_place (Other ∷ before) = note_place before

-- where an item of the body, or of a note whose item is given, is read
abbrev pub spot_of : Bool → ℕ → ℕ → Spot
spot_of noted anchor at = record { anchor = if noted then anchor else at; at = at }

-- where the item is read that comes behind what was gathered
abbrev pub spot : List Event → Spot
spot before = spot_of (in_note before) (note_place before) (length before)

-- whether something is read before something else: before the item that the other is read at; or both are read at one item, and it was gathered before
abbrev pub is_before : Spot → Spot → Bool
is_before one other = nat_lt one.anchor other.anchor || (one.anchor == other.anchor && nat_lt one.at other.at)

-- whether something is read before something else, or is it
abbrev pub is_up_to : Spot → Spot → Bool
is_up_to one other = nat_lt one.anchor other.anchor || (one.anchor == other.anchor && nat_le one.at other.at)

-- whether two are both in the body, or both in notes
abbrev pub same_text : Bool → Bool → Bool
same_text true noted = noted
same_text false noted = not noted

-- the number of the note that the paragraph gathered last stands in, or 0
abbrev pub note_number : List Event → ℕ
note_number [] = 0
note_number (Head place.Body head label ∷ before) = 0
note_number (Head (place.Note number) head label ∷ before) = number
note_number (Letter char ∷ before) = note_number before
note_number (Counted name refname format ∷ before) = note_number before
note_number (Assigned name value ∷ before) = note_number before
note_number (Asked name ∷ before) = note_number before
note_number (Cited id class ∷ before) = note_number before
note_number (Marked name ∷ before) = note_number before
note_number (Other ∷ before) = note_number before

-- a paragraph comes in the order of rows: one of a note behind the paragraph that has the note, and behind the paragraphs of notes before
abbrev pub IsNext : Gathered → List Event → Type 0
IsNext place.Body before = Unit {0}
IsNext (place.Note number) before = (1 ≤ number) × (number ≤ length (note_places before)) × (note_number before ≤ number)

-- all paragraphs came in the order of rows
abbrev pub AreInOrder : List Event → Type 0
AreInOrder [] = Unit {0}
AreInOrder (Head place head label ∷ before) = IsNext place before × AreInOrder before
AreInOrder (Letter char ∷ before) = AreInOrder before
AreInOrder (Counted name refname format ∷ before) = AreInOrder before
AreInOrder (Assigned name value ∷ before) = AreInOrder before
AreInOrder (Asked name ∷ before) = AreInOrder before
AreInOrder (Cited id class ∷ before) = AreInOrder before
AreInOrder (Marked name ∷ before) = AreInOrder before
AreInOrder (Other ∷ before) = AreInOrder before
