-- The rows of notes, counted by their End rows.
use Rattle.std.proofs.Common.{◌≡◌, ℕ, zero, suc, ◌+◌, Bool, true, false, List, [], ◌∷◌, ◌++◌, map, take, length, refl, ap, ap₂, sym, ◌∙◌, subst, append_assoc, length-append}
use Rattle.std.specs.List.{flat_map, between, AllByRecursion as Each}
use Rattle.std.proofs.lemmas.Bool.{false≢true}
use Rattle.std.proofs.lemmas.List.{take-map}
use Rattle.doc_model.specs.declared.paragraph.Par.{Par}
use Rattle.doc_model.specs.declared.paragraph.Item.{Item, out-Item}
use Rattle.doc_model.specs.declared.paragraph.What.{What, out-What}
use Rattle.doc_model.specs.declared.paragraph.What.TheOpen.{What-F}
use Rattle.doc_model.specs.declared.paragraph.What.TheViews.{out-roll-What}
use Rattle.doc_model.specs.declared.paragraph.Note.{Note, out-Note}
use Rattle.doc_model.specs.Reading.{note_of, notes_of}
use Rattle.node_array.specs.declared.row.Row.{Row}
use Rattle.node_array.specs.declared.row.Row.TheVariants as row
use Rattle.node_array.specs.Rows.{par_rows}
use Rattle.paragraph_rows.specs.OwnRow.{bare, own_row, text_rows, rows_of_notes}
use Rattle.paragraph_rows.specs.Flat.{has_flat_notes}
use Rattle.paragraph_rows.specs.NoteRows.{note_count, through_notes, behind_notes}
use Rattle.paragraph_rows.proofs.Lists.{between_map}
use Rattle.paragraph_rows.proofs.Opened.{item_of, item_is, bare_what, bare_item_is, par_open}
use Rattle.paragraph_rows.proofs.FlatPars.{IsFlatNote, IsFlatPar, no_note_within, notes_flat}

-- how many notes there are among items as they stand in rows
count_what : (spans : List (List ℕ)) (what : What-F What Item Note Par) → length (note_of (item_of spans (bare_what what))) ≡ length (note_of (item_of spans what))
count_what spans (What-F.Char c) = refl
count_what spans What-F.Tab = refl
count_what spans What-F.Break = refl
count_what spans (What-F.Field field) = refl
count_what spans (What-F.Note note) = simp out-roll-What
count_what spans (What-F.Mark mark) = refl

count_one : (item : Item) → length (note_of (bare item)) ≡ length (note_of item)
count_one item =
    ap (λ (i : Item). length (note_of (bare i))) (sym (item_is item)) ∙ ap (λ (i : Item). length (note_of i)) (bare_item_is (out-Item item).spans (out-What (out-Item item).what))
    ∙ count_what (out-Item item).spans (out-What (out-Item item).what) ∙ ap (λ (i : Item). length (note_of i)) (item_is item)

pub count_bare : (items : List Item) → note_count (map bare items) ≡ note_count items
count_bare [] = refl
count_bare (item ∷ items) =
    length-append (note_of (bare item)) (flat_map note_of (map bare items)) ∙ ap₂ (λ (m n : ℕ). m + n) (count_one item) (count_bare items)
    ∙ sym (length-append (note_of item) (flat_map note_of items))

pub count_taken : (at : ℕ) (items : List Item) → note_count (take at (map bare items)) ≡ note_count (take at items)
count_taken at items = ap note_count (take-map bare at items) ∙ count_bare (take at items)

pub count_between : (from to : ℕ) (items : List Item) → note_count (between from to (map bare items)) ≡ note_count (between from to items)
count_between from to items = ap note_count (between_map bare from to items) ∙ count_bare (between from to items)

pub alone_rows : (one : Par) → notes_of one ≡ [] → par_rows one ≡ own_row one ∷ []
alone_rows one none = par_open one ∙ ap (λ (notes : List Note). own_row one ∷ flat_map text_rows notes) none

-- the paragraphs of a note, and its end
through_pars : (count : ℕ) (pars : List Par) (more : List Row) → Each (λ one. notes_of one ≡ []) pars
    → through_notes (suc count) (flat_map par_rows pars ++ (row.End ∷ more)) ≡ flat_map par_rows pars ++ (row.End ∷ through_notes count more)
through_pars count [] more none = refl
through_pars count (one ∷ pars) more none =
    ap (λ (rows : List Row). through_notes (suc count) ((rows ++ flat_map par_rows pars) ++ (row.End ∷ more))) (alone_rows one none.0)
    ∙ ap (λ (rows : List Row). own_row one ∷ rows) (through_pars count pars more none.1)
    ∙ ap (λ (rows : List Row). (rows ++ flat_map par_rows pars) ++ (row.End ∷ through_notes count more)) (sym (alone_rows one none.0))

behind_pars : (count : ℕ) (pars : List Par) (more : List Row) → Each (λ one. notes_of one ≡ []) pars
    → behind_notes (suc count) (flat_map par_rows pars ++ (row.End ∷ more)) ≡ behind_notes count more
behind_pars count [] more none = refl
behind_pars count (one ∷ pars) more none =
    ap (λ (rows : List Row). behind_notes (suc count) ((rows ++ flat_map par_rows pars) ++ (row.End ∷ more))) (alone_rows one none.0) ∙ behind_pars count pars more none.1

-- a note in front of others
pub grouped : (note : Note) (notes : List Note) (more : List Row)
    → flat_map text_rows (note ∷ notes) ++ more ≡ row.NoteText ∷ (flat_map par_rows (out-Note note).pars ++ (row.End ∷ (flat_map text_rows notes ++ more)))
grouped note notes more =
    let pars : List Row = flat_map par_rows (out-Note note).pars in
    ap (λ (rows : List Row). row.NoteText ∷ rows) (append_assoc (pars ++ row.End ∷ []) (flat_map text_rows notes) more ∙ append_assoc pars (row.End ∷ []) (flat_map text_rows notes ++ more))

pub through_all : (notes : List Note) (more : List Row) → Each IsFlatNote notes → through_notes (length notes) (flat_map text_rows notes ++ more) ≡ flat_map text_rows notes
through_all [] more flat = refl
through_all (note ∷ notes) more flat =
    let pars : List Row = flat_map par_rows (out-Note note).pars in
    ap (through_notes (suc (length notes))) (grouped note notes more)
    ∙ ap (λ (rows : List Row). row.NoteText ∷ rows) (through_pars (length notes) (out-Note note).pars (flat_map text_rows notes ++ more) flat.0)
    ∙ ap (λ (rows : List Row). row.NoteText ∷ (pars ++ (row.End ∷ rows))) (through_all notes more flat.1)
    ∙ ap (λ (rows : List Row). row.NoteText ∷ rows) (sym (append_assoc pars (row.End ∷ []) (flat_map text_rows notes)))

pub behind_all : (notes : List Note) (more : List Row) → Each IsFlatNote notes → behind_notes (length notes) (flat_map text_rows notes ++ more) ≡ more
behind_all [] more flat = refl
behind_all (note ∷ notes) more flat =
    ap (behind_notes (suc (length notes))) (grouped note notes more)
    ∙ behind_pars (length notes) (out-Note note).pars (flat_map text_rows notes ++ more) flat.0 ∙ behind_all notes more flat.1

-- the parts of rows by notes
pub parts_by_notes : (count : ℕ) (rows : List Row) → through_notes count rows ++ behind_notes count rows ≡ rows
parts_by_notes zero rows = refl
parts_by_notes (suc count) [] = refl
parts_by_notes (suc count) (row.Start head ∷ rows) = ap (λ more. row.Start head ∷ more) (parts_by_notes (suc count) rows)
parts_by_notes (suc count) (row.End ∷ rows) = ap (λ more. row.End ∷ more) (parts_by_notes count rows)
parts_by_notes (suc count) (row.Par head items ∷ rows) = ap (λ more. row.Par head items ∷ more) (parts_by_notes (suc count) rows)
parts_by_notes (suc count) (row.NoteText ∷ rows) = ap (λ more. row.NoteText ∷ more) (parts_by_notes (suc count) rows)

-- rows behind others, in a note or not
flat_behind : (within : Bool) (front behind : List Row) → has_flat_notes within (front ++ behind) ≡ true → (now : Bool) × (has_flat_notes now behind ≡ true)
flat_behind within [] behind flat = (within, flat)
flat_behind within (row.Start head ∷ front) behind flat = flat_behind within front behind flat
flat_behind within (row.End ∷ front) behind flat = flat_behind false front behind flat
flat_behind within (row.Par head items ∷ front) behind flat = flat_behind within front behind flat
flat_behind true (row.NoteText ∷ front) behind flat = absurd (false≢true flat)
flat_behind false (row.NoteText ∷ front) behind flat = flat_behind true front behind flat

notes_flat_here : (now : Bool) (notes : List Note) (more : List Row) → has_flat_notes now (flat_map text_rows notes ++ more) ≡ true → Each IsFlatNote notes
notes_flat_here true notes more flat = subst (Each IsFlatNote) (sym (no_note_within notes more flat).0) tt
notes_flat_here false notes more flat = (notes_flat notes more flat).0

-- the notes of a paragraph among flat rows hold no notes
pub flat_old : (before : List Row) (old : Par) (after : List Row) → has_flat_notes false (before ++ (own_row old ∷ (rows_of_notes old ++ after))) ≡ true → IsFlatPar old
flat_old before old after flat =
    let there = flat_behind false before (own_row old ∷ (rows_of_notes old ++ after)) flat in
    notes_flat_here there.0 (notes_of old) after there.1
