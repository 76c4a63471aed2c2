-- Edits of one paragraph as splices.
use Rattle.std.proofs.Common.{◌≡◌, ◌≢◌, ℕ, ◌+◌, ◌≤◌, List, [], ◌∷◌, ◌++◌, map, take, drop, length, ap, sym, ◌∙◌, subst, append_assoc, Some}
use Rattle.std.specs.Prelude.{slice_get, position}
use Rattle.std.specs.List.{splice, between}
use Rattle.std.proofs.Math.Seq.{drop-append_seam}
use Rattle.std.proofs.lemmas.List.{drop-drop}
use Rattle.doc_model.specs.declared.document.Document.{Document}
use Rattle.doc_model.specs.declared.edit.EditOp.TheVariants.{InsertNote, DeleteRange}
use Rattle.doc_model.specs.declared.field.NoteClass.{NoteClass}
use Rattle.doc_model.specs.declared.paragraph.Item.{Item}
use Rattle.doc_model.specs.declared.paragraph.ParHead.{ParHead}
use Rattle.doc_model.specs.declared.paragraph.ParId.{ParId}
use Rattle.edit_rules.specs.Edited.{edited_document}
use Rattle.edit_rules.specs.Texts.{with_item, without_range}
use Rattle.node_array.specs.declared.row.Row.{Row}
use Rattle.node_array.specs.declared.row.Row.TheVariants as row
use Rattle.node_array.specs.Places.{is_par}
use Rattle.node_array.specs.Rows.{rows_of}
use Rattle.paragraph_rows.specs.Changes.{at_par}
use Rattle.paragraph_rows.specs.Flat.{AreFlat}
use Rattle.paragraph_rows.specs.NoteRows.{note_count, through_notes, behind_notes, note_in_row, new_rows}
use Rattle.paragraph_rows.specs.Standing.{AreApart}
use Rattle.paragraph_rows.proofs.Standing.{row_found, row_changed}
use Rattle.paragraph_rows.proofs.NoteRows.{parts_by_notes}
use Rattle.paragraph_rows.proofs.NoteEdits.{note_inserted, range_deleted}
use Rattle.row_edits.specs.Spliced.{rows_before, rows_between}

pub row_spliced : (par : ParId) (rows : List Row) (at : ℕ) (one : Row) (later : Row → Row) → position (is_par par) rows ≡ Some at → slice_get rows at ≡ Some one
    → AreApart rows → map (at_par par later) rows ≡ splice rows at (at + 1) (later one ∷ [])
row_spliced par rows at one later found there apart = row_changed par later rows (take at rows) one (drop (at + 1) rows) (row_found par rows at one found there apart)

-- what is behind the first notes
dropped : (count : ℕ) (rows : List Row) → drop (length (through_notes count rows)) rows ≡ behind_notes count rows
dropped count rows =
    ap (drop (length (through_notes count rows))) (sym (parts_by_notes count rows)) ∙ drop-append_seam (through_notes count rows) (behind_notes count rows)

pub note_spliced : (doc : Document) (par : ParId) (at : ℕ) (head : ParHead) (items : List Item) → position (is_par par) (rows_of doc.body) ≡ Some at
    → slice_get (rows_of doc.body) at ≡ Some (row.Par head items) → AreApart (rows_of doc.body) → AreFlat (rows_of doc.body)
    → (next place : ℕ) (class : NoteClass) (id : List ℕ) (front : List Row) → par.0 ≢ next → front ≡ rows_before place items (drop (at + 1) (rows_of doc.body))
    → rows_of (edited_document next (InsertNote par place class id) doc).body
    ≡ splice (rows_of doc.body) at (at + 1 + length front) (row.Par head (with_item place (note_in_row class id) items) ∷ (front ++ new_rows next))
note_spliced doc par at head items found there apart flat next place class id front other is =
    let rows : List Row = rows_of doc.body in
    let behind : List Row = drop (at + 1) rows in
    let count : ℕ = note_count (take place items) in
    let through : List Row = through_notes count behind in
    let one : Row = row.Par head (with_item place (note_in_row class id) items) in
    let left : behind_notes count behind ≡ drop (at + 1 + length through) rows = sym (dropped count behind) ∙ drop-drop (length through) (at + 1) rows in
    subst (λ (f : List Row). rows_of (edited_document next (InsertNote par place class id) doc).body ≡ splice rows at (at + 1 + length f) (one ∷ (f ++ new_rows next))) (sym is)
    (note_inserted doc par (take at rows) head items behind (row_found par rows at (row.Par head items) found there apart) flat next place class id other
    ∙ ap (λ (more : List Row). take at rows ++ (one ∷ (through ++ (new_rows next ++ more)))) left
    ∙ ap (λ (more : List Row). take at rows ++ (one ∷ more)) (sym (append_assoc through (new_rows next) (drop (at + 1 + length through) rows))))

pub range_spliced : (doc : Document) (par : ParId) (at : ℕ) (head : ParHead) (items : List Item) → position (is_par par) (rows_of doc.body) ≡ Some at
    → slice_get (rows_of doc.body) at ≡ Some (row.Par head items) → AreApart (rows_of doc.body) → AreFlat (rows_of doc.body)
    → (next from to : ℕ) (front gone : List Row) → from ≤ to → front ≡ rows_before from items (drop (at + 1) (rows_of doc.body))
    → gone ≡ rows_between from to items (drop (at + 1) (rows_of doc.body))
    → rows_of (edited_document next (DeleteRange par from to) doc).body
    ≡ splice (rows_of doc.body) at (at + 1 + (length front + length gone)) (row.Par head (without_range from to items) ∷ front)
range_spliced doc par at head items found there apart flat next from to front gone order is was =
    let rows : List Row = rows_of doc.body in
    let behind : List Row = drop (at + 1) rows in
    let first : ℕ = note_count (take from items) in
    let second : ℕ = note_count (between from to items) in
    let through : List Row = through_notes first behind in
    let taken : List Row = through_notes second (behind_notes first behind) in
    let one : Row = row.Par head (without_range from to items) in
    let left : behind_notes second (behind_notes first behind) ≡ drop (at + 1 + (length through + length taken)) rows =
    sym (dropped second (behind_notes first behind)) ∙ ap (drop (length taken)) (sym (dropped first behind)) ∙ drop-drop (length taken) (length through) behind
    ∙ drop-drop (length through + length taken) (at + 1) rows in
    subst (λ (f : List Row). rows_of (edited_document next (DeleteRange par from to) doc).body ≡ splice rows at (at + 1 + (length f + length gone)) (one ∷ f)) (sym is)
    (subst (λ (g : List Row). rows_of (edited_document next (DeleteRange par from to) doc).body ≡ splice rows at (at + 1 + (length through + length g)) (one ∷ through)) (sym was)
    (range_deleted doc par (take at rows) head items behind (row_found par rows at (row.Par head items) found there apart) flat next from to order
    ∙ ap (λ (more : List Row). take at rows ++ (one ∷ (through ++ more))) left))
