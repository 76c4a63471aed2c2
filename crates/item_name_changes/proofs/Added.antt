-- Fields and notes that are put in, and their names.
use Rattle.std.proofs.Common.{◌≡◌, ◌≢◌, ℕ, ◌<◌, Bool, true, false, ◌||◌, cond, List, [], ◌∷◌, ◌++◌, map, length, Some, None, refl, ap, ap₂, sym, ◌∙◌, subst, arith}
use Rattle.std.specs.List.{flat_map, list_any, AllByRecursion as Each}
use Rattle.std.specs.Str.{bytes_eq}
use Rattle.std.proofs.lemmas.Bool.{false≢true}
use Rattle.std.specs.Prelude.{◌==◌}
use Rattle.std.proofs.lemmas.Bool.Decides.{nat_tests, Decides-eqb}
use Rattle.std.proofs.lemmas.Slice.Eq.{bytes_eq-Decides}
use Rattle.doc_model.specs.declared.document.Document.{Document}
use Rattle.doc_model.specs.declared.edit.EditOp.TheVariants.{InsertField, InsertNote}
use Rattle.doc_model.specs.declared.field.Field.{Field}
use Rattle.doc_model.specs.declared.field.Field.TheVariants as fields
use Rattle.doc_model.specs.declared.field.Format.{Format}
use Rattle.doc_model.specs.declared.field.NoteClass.{NoteClass}
use Rattle.doc_model.specs.declared.paragraph.Par.{Par, out-Par}
use Rattle.doc_model.specs.declared.paragraph.ParHead.{ParHead}
use Rattle.doc_model.specs.declared.paragraph.ParId.{ParId}
use Rattle.doc_model.specs.declared.paragraph.Item.{Item}
use Rattle.doc_model.specs.declared.paragraph.What.{What}
use Rattle.doc_model.specs.declared.paragraph.What.TheOpen.{What-F, Note-F, Par-F}
use Rattle.doc_model.specs.declared.paragraph.What.TheViews.{out-roll-What, out-roll-Note, out-roll-Par}
use Rattle.doc_model.specs.declared.paragraph.Note.{Note, out-Note, roll-Note}
use Rattle.doc_model.specs.Reading.{note_of}
use Rattle.edit_rules.specs.Edited.{Edited, edited, edited_document, empty_paragraph, new_note}
use Rattle.name_index.specs.declared.names.NameKind.{NameKind}
use Rattle.name_index.specs.declared.names.NameKind.TheVariants as kinds
use Rattle.name_index.specs.Names.{is_same_kind, found, Agree, Sets}
use Rattle.name_index.proofs.Found.{or_else}
use Rattle.name_index.specs.Scan.{names_of_kind, names_of}
use Rattle.node_array.specs.declared.row.Row.{Row}
use Rattle.node_array.specs.declared.row.Row.TheVariants as row
use Rattle.node_array.specs.Places.{is_par}
use Rattle.node_array.specs.Rows.{par_rows, rows_of}
use Rattle.paragraph_rows.specs.NoteRows.{new_rows}
use Rattle.paragraph_rows.specs.OwnRow.{bare, text_rows}
use Rattle.paragraph_rows.specs.Standing.{Stands}
use Rattle.paragraph_rows.proofs.Lists.{each_behind}
use Rattle.paragraph_rows.proofs.NoteEdits.{fresh_note, fresh_rows}
use Rattle.paragraph_rows.proofs.Opened.{par_open}
use Rattle.rows_stay_sound.proofs.Neutral.{numbers, numbers_both}
use Rattle.row_edits.specs.Sound.{IsSound, is_note_open}
use Rattle.row_edits.proofs.Kept.{field_kept}
use Rattle.row_edits.proofs.NoteKept.{note_kept}
use Rattle.names_change.specs.ItemNames.{item_names}
use Rattle.names_change.proofs.Places.{item_places, par_places, read_places}
use Rattle.names_change.proofs.Lead.{Pairs, lead, lead_both, none_found, found_leads, put_lead}
use Rattle.names_change.proofs.Reading.{IsOfItems}
use Rattle.names_change.proofs.ByKind.{kind_sets, kind_sets_lead}
use Rattle.item_name_changes.proofs.Placed.{Among, Placing, placing, new_item}

-- names with nothing among them
none_among : (old new more : Pairs) → Among old new more → more ≡ [] → new ≡ old
none_among old new more it none = it.is ∙ ap (λ (some : Pairs). it.front ++ (some ++ it.behind)) none ∙ sym it.was

-- names with one name among them
one_among : (old new more : Pairs) (name other : List ℕ) (id : ParId) → Among old new more → more ≡ (name, id) ∷ [] → lead name old ≡ None → lead other new ≡ cond (bytes_eq name other) (Some id) (lead other old)
one_among old new more name other id it one none =
    ap (lead other) (it.is ∙ ap (λ (some : Pairs). it.front ++ (some ++ it.behind)) one)
    ∙ put_lead name other id it.front it.behind (ap (lead name) (sym it.was) ∙ none)
    ∙ ap (λ (pairs : Pairs). cond (bytes_eq name other) (Some id) (lead other pairs)) (sym it.was)

-- the empty name is none
unnamed_among : (old new more : Pairs) (id : ParId) → Among old new more → more ≡ ([], id) ∷ [] → (letter : ℕ) (letters : List ℕ) → lead (letter ∷ letters) new ≡ lead (letter ∷ letters) old
unnamed_among old new more id it one letter letters =
    ap (lead (letter ∷ letters)) (it.is ∙ ap (λ (some : Pairs). it.front ++ (some ++ it.behind)) one)
    ∙ lead_both (letter ∷ letters) it.front (([], id) ∷ it.behind)
    ∙ ap (λ (b : Bool). or_else (lead (letter ∷ letters) it.front) (cond b (Some id) (lead (letter ∷ letters) it.behind))) (differs (bytes_eq (letter ∷ letters) []) refl)
    ∙ sym (lead_both (letter ∷ letters) it.front it.behind) ∙ ap (lead (letter ∷ letters)) (sym it.was) where
      differs : (test : Bool) → bytes_eq (letter ∷ letters) [] ≡ test → bytes_eq (letter ∷ letters) [] ≡ false
      differs true is = let same : letter ∷ letters ≡ [] = (bytes_eq-Decides (letter ∷ letters) []).0 is in absurd (let long = ap (length {A = ℕ}) same in omega (arith, long))
      differs false is = is

-- names that agree, kind by kind
kinds_agree : (old new : Document) (of : NameKind) → ((kind : NameKind) → is_same_kind of kind ≡ false → names_of_kind new kind ≡ names_of_kind old kind)
    → ((letter : ℕ) (letters : List ℕ) → lead (letter ∷ letters) (names_of_kind new of) ≡ lead (letter ∷ letters) (names_of_kind old of)) → Agree (names_of old) (names_of new)
kinds_agree old new of others own kind [] = none_found old kind ∙ sym (none_found new kind)
kinds_agree old new of others own kind (letter ∷ letters) =
    found_leads old kind letter letters
    ∙ sym (kind_sets_lead old new of others letter letters (own letter letters) kind) ∙ sym (found_leads new kind letter letters)

not_led : (doc : Document) (kind : NameKind) (name : List ℕ) → name ≢ [] → found (names_of doc) kind name ≡ None → lead name (names_of_kind doc kind) ≡ None
not_led doc kind [] given none = absurd (given refl)
not_led doc kind (letter ∷ letters) given none = sym (found_leads doc kind letter letters) ∙ none

-- a sequence field
field_notes : (at : ℕ) (field : Field) (par : Par) → note_of (new_item at (What-F.Field field) par) ≡ []
field_notes at field par = simp out-roll-What

field_names : (kind : NameKind) (at : ℕ) (name refname : List ℕ) (format : Format) (par : Par) → is_same_kind kinds.Reference kind ≡ false → item_names kind (new_item at (What-F.Field (fields.Sequence name refname format)) par) ≡ []
field_names kinds.Bookmark at name refname format par other = simp out-roll-What
field_names kinds.Section at name refname format par other = refl
field_names kinds.Reference at name refname format par other = absurd (false≢true (sym other))
field_names kinds.Note at name refname format par other = simp out-roll-What

reference_name : (at : ℕ) (name refname : List ℕ) (format : Format) (par : Par) → item_names kinds.Reference (new_item at (What-F.Field (fields.Sequence name refname format)) par) ≡ refname ∷ []
reference_name at name refname format par = simp out-roll-What

-- the places of an item by its names and notes
places_by : (kind : NameKind) (id : ParId) (item : Item) (names : List (List ℕ)) (notes : List Note) → item_names kind item ≡ names → note_of item ≡ notes
    → read_places kind id item ≡ map (λ name. (name, id)) names ++ flat_map (λ note. flat_map (par_places kind) (out-Note note).pars) notes
places_by kind id item names notes names_are notes_are =
    ap₂ (λ (some : List (List ℕ)) (more : List Note). map (λ name. (name, id)) some ++ flat_map (λ note. flat_map (par_places kind) (out-Note note).pars) more) names_are notes_are

-- a document with a sequence field more
abbrev with_field : Edited → ParId → ℕ → List ℕ → List ℕ → Format → Edited
with_field old par at name refname format = edited old (InsertField par at (fields.Sequence name refname format))

abbrev Field-Placing : Edited → ParId → ℕ → List ℕ → List ℕ → Format → Type 0
Field-Placing old par at name refname format = Placing old.document (with_field old par at name refname format).document at (What-F.Field (fields.Sequence name refname format)) par

field_placing : (old : Edited) (par : ParId) (before : List Row) (head : ParHead) (items : List Item) (behind : List Row) → Stands par (rows_of old.document.body) before (row.Par head items) behind → IsSound old
    → (at : ℕ) (name refname : List ℕ) (format : Format) → Field-Placing old par at name refname format
field_placing old par before head items behind stands sound at name refname format =
    placing old (with_field old par at name refname format) at (What-F.Field (fields.Sequence name refname format)) par before (row.Par head items) behind refl stands sound
    (field_kept old par at (fields.Sequence name refname format) sound)
    (λ p. ap (λ (notes : List Note). list_any (is_par par) (flat_map text_rows notes)) (field_notes at (fields.Sequence name refname format) p))

-- names of other kinds stay, and there is one reference more
field_others : (old : Edited) (par : ParId) (at : ℕ) (name refname : List ℕ) (format : Format) (it : Field-Placing old par at name refname format) (kind : NameKind) → is_same_kind kinds.Reference kind ≡ false
    → names_of_kind (with_field old par at name refname format).document kind ≡ names_of_kind old.document kind
field_others old par at name refname format it kind other = by_kind kind other where
  unchanged : (kind : NameKind) → IsOfItems kind → is_same_kind kinds.Reference kind ≡ false → names_of_kind (with_field old par at name refname format).document kind ≡ names_of_kind old.document kind
  unchanged kind of_items other =
      none_among (names_of_kind old.document kind) (names_of_kind (with_field old par at name refname format).document kind)
      (read_places kind (out-Par it.par).id (new_item at (What-F.Field (fields.Sequence name refname format)) it.par)) (it.names kind of_items)
      (places_by kind (out-Par it.par).id (new_item at (What-F.Field (fields.Sequence name refname format)) it.par) [] [] (field_names kind at name refname format it.par other) (field_notes at (fields.Sequence name refname format) it.par))

  by_kind : (kind : NameKind) → is_same_kind kinds.Reference kind ≡ false → names_of_kind (with_field old par at name refname format).document kind ≡ names_of_kind old.document kind
  by_kind kinds.Bookmark other = unchanged kinds.Bookmark tt other
  by_kind kinds.Section other = it.sections
  by_kind kinds.Reference other = absurd (false≢true (sym other))
  by_kind kinds.Note other = unchanged kinds.Note tt other

field_places : (old : Edited) (par : ParId) (at : ℕ) (name refname : List ℕ) (format : Format) (it : Field-Placing old par at name refname format)
    → read_places kinds.Reference (out-Par it.par).id (new_item at (What-F.Field (fields.Sequence name refname format)) it.par) ≡ (refname, par) ∷ []
field_places old par at name refname format it =
    places_by kinds.Reference (out-Par it.par).id (new_item at (What-F.Field (fields.Sequence name refname format)) it.par) (refname ∷ []) [] (reference_name at name refname format it.par)
    (field_notes at (fields.Sequence name refname format) it.par)
    ∙ ap (λ (id : ParId). (refname, id) ∷ []) it.number_is

pub field_follows : (old : Edited) (par : ParId) (before : List Row) (head : ParHead) (items : List Item) (behind : List Row) → Stands par (rows_of old.document.body) before (row.Par head items) behind → IsSound old
    → (at : ℕ) (name refname : List ℕ) (format : Format) → refname ≢ [] → found (names_of old.document) kinds.Reference refname ≡ None
    → Sets (names_of old.document) (names_of (edited_document old.next (InsertField par at (fields.Sequence name refname format)) old.document)) kinds.Reference refname (Some par)
field_follows old par before head items behind stands sound at name refname format given none =
    let it : Field-Placing old par at name refname format = field_placing old par before head items behind stands sound at name refname format in
    let new : Document = (with_field old par at name refname format).document in
    kind_sets old.document new kinds.Reference refname (Some par) (field_others old par at name refname format it) (λ empty. absurd (given ((bytes_eq-Decides refname []).0 empty)))
    (λ other.
    one_among (names_of_kind old.document kinds.Reference) (names_of_kind new kinds.Reference)
    (read_places kinds.Reference (out-Par it.par).id (new_item at (What-F.Field (fields.Sequence name refname format)) it.par)) refname other par (it.names kinds.Reference tt)
    (field_places old par at name refname format it) (not_led old.document kinds.Reference refname given none))

pub field_unnamed : (old : Edited) (par : ParId) (before : List Row) (head : ParHead) (items : List Item) (behind : List Row) → Stands par (rows_of old.document.body) before (row.Par head items) behind → IsSound old
    → (at : ℕ) (name : List ℕ) (format : Format) → Agree (names_of old.document) (names_of (edited_document old.next (InsertField par at (fields.Sequence name [] format)) old.document))
field_unnamed old par before head items behind stands sound at name format =
    let it : Field-Placing old par at name [] format = field_placing old par before head items behind stands sound at name [] format in
    let new : Document = (with_field old par at name [] format).document in
    kinds_agree old.document new kinds.Reference (field_others old par at name [] format it)
    (unnamed_among (names_of_kind old.document kinds.Reference) (names_of_kind new kinds.Reference)
    (read_places kinds.Reference (out-Par it.par).id (new_item at (What-F.Field (fields.Sequence name [] format)) it.par)) par (it.names kinds.Reference tt) (field_places old par at name [] format it))

note_notes : (at : ℕ) (class : NoteClass) (id : List ℕ) (number : ℕ) (par : Par) → note_of (new_item at (new_note class id number) par) ≡ fresh_note class id number ∷ []
note_notes at class id number par = simp out-roll-What

note_names : (kind : NameKind) (at : ℕ) (class : NoteClass) (id : List ℕ) (number : ℕ) (par : Par) → is_same_kind kinds.Note kind ≡ false → item_names kind (new_item at (new_note class id number) par) ≡ []
note_names kinds.Bookmark at class id number par other = simp out-roll-What
note_names kinds.Section at class id number par other = refl
note_names kinds.Reference at class id number par other = simp out-roll-What
note_names kinds.Note at class id number par other = absurd (false≢true (sym other))

note_name : (at : ℕ) (class : NoteClass) (id : List ℕ) (number : ℕ) (par : Par) → item_names kinds.Note (new_item at (new_note class id number) par) ≡ id ∷ []
note_name at class id number par =
    ap (map (λ (note : Note). (out-Note note).id)) (note_notes at class id number par)
    ∙ ap (λ (note : Note-F What Item Note Par). note.id ∷ []) (out-roll-Note (record { id = id; class = class; pars = empty_paragraph number ∷ [] }))

-- it has no names in it
note_texts : (kind : NameKind) (class : NoteClass) (id : List ℕ) (number : ℕ) → flat_map (λ note. flat_map (par_places kind) (out-Note note).pars) (fresh_note class id number ∷ []) ≡ []
note_texts kind class id number =
    ap (λ (note : Note-F What Item Note Par). flat_map (par_places kind) note.pars ++ []) (out-roll-Note (record { id = id; class = class; pars = empty_paragraph number ∷ [] }))
    ∙ ap (λ (par : Par-F What Item Note Par). (flat_map (item_places kind par.id) par.items ++ []) ++ []) (out-roll-Par (record { id = record { 0 = number }; style = []; level = 0; list = None; items = [] }))

-- another number than that of its paragraph
note_rows_other : (number : ParId) (next : ℕ) (class : NoteClass) (id : List ℕ) → (number.0 == next) ≡ false → list_any (is_par number) (flat_map text_rows (fresh_note class id next ∷ [])) ≡ false
note_rows_other number next class id other =
    ap (λ (rows : List Row). list_any (is_par number) (rows ++ [])) (fresh_rows class id next) ∙ ap (λ (b : Bool). b || false) other

below_differs : (number next : ℕ) → number < next → (number == next) ≡ false
below_differs number next below = grind (arith, nat_tests)

number_below : (old : Edited) (par : ParId) (before : List Row) (head : ParHead) (items : List Item) (behind : List Row) → Stands par (rows_of old.document.body) before (row.Par head items) behind → IsSound old → (par.0 == old.next) ≡ false
number_below old par before head items behind stands sound =
    let all : Each (λ number. number < old.next) (numbers before ++ numbers (row.Par head items ∷ behind)) =
    subst (Each (λ number. number < old.next)) (ap numbers stands.rows_are ∙ numbers_both before (row.Par head items ∷ behind)) sound.below
    in
    let own = each_behind (λ number. number < old.next) (numbers before) (numbers (row.Par head items ∷ behind)) all in
    ap (λ (n : ℕ). n == old.next) ((Decides-eqb par.0 head.id.0).0 stands.own) ∙ below_differs head.id.0 old.next own.0

-- a document with a note more
abbrev with_note : Edited → ParId → ℕ → NoteClass → List ℕ → Edited
with_note old par at class id = edited old (InsertNote par at class id)

abbrev Note-Placing : Edited → ParId → ℕ → NoteClass → List ℕ → Type 0
Note-Placing old par at class id = Placing old.document (with_note old par at class id).document at (new_note class id old.next) par

note_placing : (old : Edited) (par : ParId) (before : List Row) (head : ParHead) (items : List Item) (behind : List Row) → Stands par (rows_of old.document.body) before (row.Par head items) behind
    → is_note_open false before ≡ false → IsSound old → (at : ℕ) (class : NoteClass) (id : List ℕ) → Note-Placing old par at class id
note_placing old par before head items behind stands outside sound at class id =
    placing old (with_note old par at class id) at (new_note class id old.next) par before (row.Par head items) behind refl stands sound
    (note_kept old par before head items behind stands sound outside at class id)
    (λ p.
    ap (λ (notes : List Note). list_any (is_par par) (flat_map text_rows notes)) (note_notes at class id old.next p)
    ∙ note_rows_other par old.next class id (number_below old par before head items behind stands sound))

-- names of other kinds stay, and there is one note more
note_others : (old : Edited) (par : ParId) (at : ℕ) (class : NoteClass) (id : List ℕ) (it : Note-Placing old par at class id) (kind : NameKind) → is_same_kind kinds.Note kind ≡ false
    → names_of_kind (with_note old par at class id).document kind ≡ names_of_kind old.document kind
note_others old par at class id it kind other = by_kind kind other where
  unchanged : (kind : NameKind) → IsOfItems kind → is_same_kind kinds.Note kind ≡ false → names_of_kind (with_note old par at class id).document kind ≡ names_of_kind old.document kind
  unchanged kind of_items other =
      none_among (names_of_kind old.document kind) (names_of_kind (with_note old par at class id).document kind) (read_places kind (out-Par it.par).id (new_item at (new_note class id old.next) it.par)) (it.names kind of_items)
      (places_by kind (out-Par it.par).id (new_item at (new_note class id old.next) it.par) [] (fresh_note class id old.next ∷ []) (note_names kind at class id old.next it.par other) (note_notes at class id old.next it.par)
      ∙ note_texts kind class id old.next)

  by_kind : (kind : NameKind) → is_same_kind kinds.Note kind ≡ false → names_of_kind (with_note old par at class id).document kind ≡ names_of_kind old.document kind
  by_kind kinds.Bookmark other = unchanged kinds.Bookmark tt other
  by_kind kinds.Section other = it.sections
  by_kind kinds.Reference other = unchanged kinds.Reference tt other
  by_kind kinds.Note other = absurd (false≢true (sym other))

note_places : (old : Edited) (par : ParId) (at : ℕ) (class : NoteClass) (id : List ℕ) (it : Note-Placing old par at class id)
    → read_places kinds.Note (out-Par it.par).id (new_item at (new_note class id old.next) it.par) ≡ (id, par) ∷ []
note_places old par at class id it =
    places_by kinds.Note (out-Par it.par).id (new_item at (new_note class id old.next) it.par) (id ∷ []) (fresh_note class id old.next ∷ []) (note_name at class id old.next it.par) (note_notes at class id old.next it.par)
    ∙ ap₂ (λ (number : ParId) (some : Pairs). (id, number) ∷ some) it.number_is (note_texts kinds.Note class id old.next)

pub note_follows : (old : Edited) (par : ParId) (before : List Row) (head : ParHead) (items : List Item) (behind : List Row) → Stands par (rows_of old.document.body) before (row.Par head items) behind
    → is_note_open false before ≡ false → IsSound old → (at : ℕ) (class : NoteClass) (id : List ℕ) → id ≢ [] → found (names_of old.document) kinds.Note id ≡ None
    → Sets (names_of old.document) (names_of (edited_document old.next (InsertNote par at class id) old.document)) kinds.Note id (Some par)
note_follows old par before head items behind stands outside sound at class id given none =
    let it : Note-Placing old par at class id = note_placing old par before head items behind stands outside sound at class id in
    let new : Document = (with_note old par at class id).document in
    kind_sets old.document new kinds.Note id (Some par) (note_others old par at class id it) (λ empty. absurd (given ((bytes_eq-Decides id []).0 empty)))
    (λ other.
    one_among (names_of_kind old.document kinds.Note) (names_of_kind new kinds.Note) (read_places kinds.Note (out-Par it.par).id (new_item at (new_note class id old.next) it.par)) id other par (it.names kinds.Note tt)
    (note_places old par at class id it) (not_led old.document kinds.Note id given none))

pub note_unnamed : (old : Edited) (par : ParId) (before : List Row) (head : ParHead) (items : List Item) (behind : List Row) → Stands par (rows_of old.document.body) before (row.Par head items) behind
    → is_note_open false before ≡ false → IsSound old → (at : ℕ) (class : NoteClass) → Agree (names_of old.document) (names_of (edited_document old.next (InsertNote par at class []) old.document))
note_unnamed old par before head items behind stands outside sound at class =
    let it : Note-Placing old par at class [] = note_placing old par before head items behind stands outside sound at class [] in
    let new : Document = (with_note old par at class []).document in
    kinds_agree old.document new kinds.Note (note_others old par at class [] it)
    (unnamed_among (names_of_kind old.document kinds.Note) (names_of_kind new kinds.Note) (read_places kinds.Note (out-Par it.par).id (new_item at (new_note class [] old.next) it.par)) par (it.names kinds.Note tt)
    (note_places old par at class [] it))
