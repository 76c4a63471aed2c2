-- What edits that leave notes keep of rows.
use Rattle.std.proofs.Common.{◌≡◌, ◌≢◌, ℕ, ◌+◌, ◌<◌, ◌≤◌, Bool, true, false, List, [], ◌∷◌, map, refl, arith, ap, sym, ◌∙◌, subst, Option}
use Rattle.std.specs.Prelude.{if◌then◌else◌, AllPairs}
use Rattle.std.specs.List.{flat_map, AllByRecursion as Each}
use Rattle.doc_model.specs.declared.document.Document.{Document}
use Rattle.doc_model.specs.declared.edit.EditOp.{EditOp}
use Rattle.doc_model.specs.declared.edit.EditOp.TheVariants.{InsertText, SetParStyle, SetSpan, SetHeading, SetList, InsertField, AddBookmark, RemoveBookmark}
use Rattle.doc_model.specs.declared.edit.Pos.{Pos}
use Rattle.doc_model.specs.declared.field.Field.{Field}
use Rattle.doc_model.specs.declared.paragraph.Item.{Item}
use Rattle.doc_model.specs.declared.paragraph.ListPos.{ListPos}
use Rattle.doc_model.specs.declared.paragraph.Mark.{Mark}
use Rattle.doc_model.specs.declared.paragraph.Mark.TheVariants.{Point, Start, End}
use Rattle.doc_model.specs.declared.paragraph.ParHead.{ParHead}
use Rattle.doc_model.specs.declared.paragraph.ParId.{ParId}
use Rattle.doc_model.specs.declared.paragraph.What.TheOpen.{What-F}
use Rattle.doc_model.specs.Limits.{greatest}
use Rattle.doc_model.specs.Parts.{notes}
use Rattle.doc_model.specs.Reading.{number_of, paragraphs}
use Rattle.doc_model.specs.Valid.{IsNote}
use Rattle.edit_rules.specs.Edited.{Edited, edited, edited_document, numbers_given}
use Rattle.edit_rules.specs.Texts.{with_text, with_item, with_spans, spans_of, without_marks, is_same_place}
use Rattle.node_array.specs.declared.row.Row.{Row}
use Rattle.node_array.specs.declared.row.Row.TheVariants as row
use Rattle.node_array.specs.Places.{is_par}
use Rattle.node_array.specs.Rows.{rows_of}
use Rattle.paragraph_rows.specs.Changes.{in_head, in_items, at_par, rows_with_mark, rows_with_bookmark}
use Rattle.paragraph_rows.specs.Flat.{has_flat_notes, AreFlat}
use Rattle.paragraph_rows.specs.Standing.{number_in}
use Rattle.paragraph_rows.proofs.Lists.{joined_map, same_joined}
use Rattle.paragraph_rows.proofs.Instances.{style_set, level_set, list_set, text_inserted, span_set, field_inserted, bookmark_added, bookmark_removed, flat_head, flat_items}
use Rattle.paragraph_rows.proofs.ValidRows.{flat_rows, apart_rows}
use Rattle.row_edits.specs.Sound.{AreSound, IsSound}
use Rattle.row_edits.proofs.Distinct.{below_greatest}

-- rows of the same numbers
same_numbers : (next : ℕ) (rows others : List Row) → flat_map number_in others ≡ flat_map number_in rows → AreFlat others → AreSound next rows → AreSound next others
same_numbers next rows others same flat sound = record {
  flat = flat;
  apart = subst (AllPairs (λ left right. left ≢ right)) (sym same) sound.apart;
  below = subst (Each (λ number. number < next)) (sym same) sound.below;
}

numbers_stay : (later : Row → Row) → ((one : Row) → number_in (later one) ≡ number_in one) → (rows : List Row) → flat_map number_in (map later rows) ≡ flat_map number_in rows
numbers_stay later same rows = joined_map number_in later rows ∙ same_joined (λ one. number_in (later one)) number_in same rows

number_at : (par : ParId) (later : Row → Row) → ((one : Row) → number_in (later one) ≡ number_in one) → (one : Row) → number_in (at_par par later one) ≡ number_in one
number_at par later same one = by_test (is_par par one) where
  by_test : (test : Bool) → number_in (if test then later one else one) ≡ number_in one
  by_test true = same one
  by_test false = refl

number_items : (change : List Item → List Item) (one : Row) → number_in (in_items change one) ≡ number_in one
number_items change (row.Start head) = refl
number_items change row.End = refl
number_items change (row.Par head items) = refl
number_items change row.NoteText = refl

number_head : (change : ParHead → ParHead) → ((head : ParHead) → (change head).id ≡ head.id) → (one : Row) → number_in (in_head change one) ≡ number_in one
number_head change same (row.Start head) = refl
number_head change same row.End = refl
number_head change same (row.Par head items) = ap (λ (id : ParId). id.0 ∷ []) (same head)
number_head change same row.NoteText = refl

sound_head : (next : ℕ) (par : ParId) (change : ParHead → ParHead) → ((head : ParHead) → (change head).id ≡ head.id) → (rows : List Row) → AreSound next rows
    → AreSound next (map (at_par par (in_head change)) rows)
sound_head next par change same rows sound =
    same_numbers next rows (map (at_par par (in_head change)) rows) (numbers_stay (at_par par (in_head change)) (number_at par (in_head change) (number_head change same)) rows)
    (flat_head par change rows sound.flat) sound

sound_items : (next : ℕ) (par : ParId) (change : List Item → List Item) (rows : List Row) → AreSound next rows → AreSound next (map (at_par par (in_items change)) rows)
sound_items next par change rows sound =
    same_numbers next rows (map (at_par par (in_items change)) rows) (numbers_stay (at_par par (in_items change)) (number_at par (in_items change) (number_items change)) rows)
    (flat_items par change rows sound.flat) sound

-- items everywhere
flat_each : (within : Bool) (change : List Item → List Item) (rows : List Row) → has_flat_notes within (map (in_items change) rows) ≡ has_flat_notes within rows
flat_each within change [] = refl
flat_each within change (row.Start head ∷ rows) = flat_each within change rows
flat_each within change (row.End ∷ rows) = flat_each false change rows
flat_each within change (row.Par head items ∷ rows) = flat_each within change rows
flat_each true change (row.NoteText ∷ rows) = refl
flat_each false change (row.NoteText ∷ rows) = flat_each true change rows

sound_each : (next : ℕ) (change : List Item → List Item) (rows : List Row) → AreSound next rows → AreSound next (map (in_items change) rows)
sound_each next change rows sound =
    same_numbers next rows (map (in_items change) rows) (numbers_stay (in_items change) (number_items change) rows) (flat_each false change rows ∙ sound.flat) sound

-- an operation that gives no number
kept : (old : Edited) (op : EditOp) (rows : List Row) → numbers_given op ≡ 0 → rows_of (edited_document old.next op old.document).body ≡ rows → AreSound old.next rows → IsSound (edited old op)
kept old op rows none is sound =
    let next : old.next ≡ old.next + numbers_given op = omega (arith, none) in
    subst (λ (n : ℕ). AreSound n (rows_of (edited_document old.next op old.document).body)) next (subst (AreSound old.next) (sym is) sound)

abbrev rows_in : Edited → List Row
rows_in old = rows_of old.document.body

pub style_kept : (old : Edited) (par : ParId) (style : List ℕ) → IsSound old → IsSound (edited old (SetParStyle par style))
style_kept old par style sound =
    kept old (SetParStyle par style) (map (at_par par (in_head (λ head. record head { style = style }))) (rows_in old)) refl (style_set old.next old.document par style sound.flat)
    (sound_head old.next par (λ head. record head { style = style }) (λ head. refl) (rows_in old) sound)

pub level_kept : (old : Edited) (par : ParId) (level : ℕ) → IsSound old → IsSound (edited old (SetHeading par level))
level_kept old par level sound =
    kept old (SetHeading par level) (map (at_par par (in_head (λ head. record head { level = level }))) (rows_in old)) refl (level_set old.next old.document par level sound.flat)
    (sound_head old.next par (λ head. record head { level = level }) (λ head. refl) (rows_in old) sound)

pub list_kept : (old : Edited) (par : ParId) (list : Option ListPos) → IsSound old → IsSound (edited old (SetList par list))
list_kept old par list sound =
    kept old (SetList par list) (map (at_par par (in_head (λ head. record head { list = list }))) (rows_in old)) refl (list_set old.next old.document par list sound.flat)
    (sound_head old.next par (λ head. record head { list = list }) (λ head. refl) (rows_in old) sound)

pub text_kept : (old : Edited) (par : ParId) (at : ℕ) (text : List ℕ) → IsSound old → IsSound (edited old (InsertText par at text))
text_kept old par at text sound =
    kept old (InsertText par at text) (map (at_par par (in_items (with_text at text))) (rows_in old)) refl (text_inserted old.next old.document par at text sound.flat)
    (sound_items old.next par (with_text at text) (rows_in old) sound)

pub span_kept : (old : Edited) (par : ParId) (from to : ℕ) (style : List ℕ) → from ≤ to → IsSound old → IsSound (edited old (SetSpan par from to style))
span_kept old par from to style order sound =
    kept old (SetSpan par from to style) (map (at_par par (in_items (with_spans from to (spans_of style)))) (rows_in old)) refl (span_set old.next old.document par from to style order sound.flat)
    (sound_items old.next par (with_spans from to (spans_of style)) (rows_in old) sound)

pub field_kept : (old : Edited) (par : ParId) (at : ℕ) (field : Field) → IsSound old → IsSound (edited old (InsertField par at field))
field_kept old par at field sound =
    kept old (InsertField par at field) (map (at_par par (in_items (with_item at (What-F.Field field)))) (rows_in old)) refl (field_inserted old.next old.document par at field sound.flat)
    (sound_items old.next par (with_item at (What-F.Field field)) (rows_in old) sound)

sound_mark : (next : ℕ) (place : Pos) (mark : Mark) (rows : List Row) → AreSound next rows → AreSound next (rows_with_mark place mark rows)
sound_mark next place mark rows sound = sound_items next place.par (with_item place.at (What-F.Mark mark)) rows sound

sound_bookmark : (next : ℕ) (name : List ℕ) (from to : Pos) (rows : List Row) → AreSound next rows → AreSound next (rows_with_bookmark name from to rows)
sound_bookmark next name from to rows sound = by_test (is_same_place from to) where
  by_test : (same : Bool) → AreSound next (if same then rows_with_mark from (Point name) rows else rows_with_mark from (Start name) (rows_with_mark to (End name) rows))
  by_test true = sound_mark next from (Point name) rows sound
  by_test false = sound_mark next from (Start name) (rows_with_mark to (End name) rows) (sound_mark next to (End name) rows sound)

pub bookmark_kept : (old : Edited) (name : List ℕ) (from to : Pos) → IsSound old → IsSound (edited old (AddBookmark name from to))
bookmark_kept old name from to sound =
    kept old (AddBookmark name from to) (rows_with_bookmark name from to (rows_in old)) refl (bookmark_added old.next old.document name from to sound.flat)
    (sound_bookmark old.next name from to (rows_in old) sound)

pub removal_kept : (old : Edited) (name : List ℕ) → IsSound old → IsSound (edited old (RemoveBookmark name))
removal_kept old name sound =
    kept old (RemoveBookmark name) (map (in_items (without_marks name)) (rows_in old)) refl (bookmark_removed old.next old.document name sound.flat)
    (sound_each old.next (without_marks name) (rows_in old) sound)

-- the rows of a valid document
pub valid_sound : (doc : Document) → Each IsNote (notes doc) → AllPairs (λ left right. left ≢ right) (map number_of (paragraphs doc))
    → AreSound (greatest (flat_map number_in (rows_of doc.body)) + 1) (rows_of doc.body)
valid_sound doc each apart =
    let flat : AreFlat (rows_of doc.body) = flat_rows doc each in
    record { flat = flat; apart = apart_rows doc flat apart; below = below_greatest (flat_map number_in (rows_of doc.body)) }
