-- Rows that are put among others, and whether a note begins within a note.
use Rattle.std.proofs.Common.{◌≡◌, ℕ, ◌+◌, Bool, true, false, not, List, [], ◌∷◌, ◌++◌, refl, arith, ap, sym, subst}
use Rattle.std.specs.Prelude.{◌&&◌}
use Rattle.std.specs.List.{flat_map}
use Rattle.std.proofs.lemmas.Bool.{false≢true}
use Rattle.std.proofs.lemmas.List.Concat.{flat_map-append}
use Rattle.doc_model.specs.declared.edit.EditOp.{EditOp}
use Rattle.doc_model.specs.declared.paragraph.Item.{Item}
use Rattle.doc_model.specs.declared.paragraph.ParHead.{ParHead}
use Rattle.edit_rules.specs.Edited.{Edited, edited, edited_document, numbers_given}
use Rattle.node_array.specs.declared.row.Row.{Row}
use Rattle.node_array.specs.declared.row.SectionHead.{SectionHead}
use Rattle.node_array.specs.declared.row.Row.TheVariants as row
use Rattle.node_array.specs.Rows.{rows_of}
use Rattle.paragraph_rows.specs.Flat.{has_flat_notes, AreFlat}
use Rattle.paragraph_rows.specs.Standing.{number_in}
use Rattle.row_edits.specs.Sound.{AreSound, IsSound}
use Rattle.row_edits.proofs.Distinct.{Apart, Below}

-- the numbers of rows
abbrev pub numbers : List Row → List ℕ
numbers rows = flat_map number_in rows

pub numbers_both : (front behind : List Row) → numbers (front ++ behind) ≡ numbers front ++ numbers behind
numbers_both front behind = flat_map-append number_in front behind

-- the row of a paragraph
pub par_neutral : (within : Bool) (before : List Row) (head : ParHead) (items : List Item) (behind : List Row)
    → has_flat_notes within (before ++ row.Par head items ∷ behind) ≡ has_flat_notes within (before ++ behind)
par_neutral within [] head items behind = refl
par_neutral within (row.Start other ∷ before) head items behind = par_neutral within before head items behind
par_neutral within (row.End ∷ before) head items behind = par_neutral false before head items behind
par_neutral within (row.Par other others ∷ before) head items behind = par_neutral within before head items behind
par_neutral within (row.NoteText ∷ before) head items behind = ap (λ (b : Bool). not within && b) (par_neutral true before head items behind)

-- the Start row of a section
pub start_neutral : (within : Bool) (before : List Row) (head : SectionHead) (behind : List Row)
    → has_flat_notes within (before ++ row.Start head ∷ behind) ≡ has_flat_notes within (before ++ behind)
start_neutral within [] head behind = refl
start_neutral within (row.Start other ∷ before) head behind = start_neutral within before head behind
start_neutral within (row.End ∷ before) head behind = start_neutral false before head behind
start_neutral within (row.Par other others ∷ before) head behind = start_neutral within before head behind
start_neutral within (row.NoteText ∷ before) head behind = ap (λ (b : Bool). not within && b) (start_neutral true before head behind)

-- what is flat in a note is flat outside
eased : (rows : List Row) → has_flat_notes true rows ≡ true → has_flat_notes false rows ≡ true
eased [] flat = refl
eased (row.Start head ∷ rows) flat = eased rows flat
eased (row.End ∷ rows) flat = flat
eased (row.Par head items ∷ rows) flat = eased rows flat
eased (row.NoteText ∷ rows) flat = absurd (false≢true flat)

outside : (within : Bool) (rows : List Row) → has_flat_notes within rows ≡ true → has_flat_notes false rows ≡ true
outside true rows flat = eased rows flat
outside false rows flat = flat

-- an End row more
pub end_put : (within : Bool) (before behind : List Row) → has_flat_notes within (before ++ behind) ≡ true → has_flat_notes within (before ++ row.End ∷ behind) ≡ true
end_put within [] behind flat = outside within behind flat
end_put within (row.Start head ∷ before) behind flat = end_put within before behind flat
end_put within (row.End ∷ before) behind flat = end_put false before behind flat
end_put within (row.Par head items ∷ before) behind flat = end_put within before behind flat
end_put true (row.NoteText ∷ before) behind flat = absurd (false≢true flat)
end_put false (row.NoteText ∷ before) behind flat = end_put true before behind flat

-- rows of the same numbers
pub sound_as : (next : ℕ) (rows others : List Row) → numbers others ≡ numbers rows → AreFlat others → AreSound next rows → AreSound next others
sound_as next rows others same flat sound = record { flat = flat; apart = subst Apart (sym same) sound.apart; below = subst (Below next) (sym same) sound.below }

-- an operation that gives no number
pub kept : (old : Edited) (op : EditOp) → numbers_given op ≡ 0 → AreSound old.next (rows_of (edited_document old.next op old.document).body) → IsSound (edited old op)
kept old op none sound =
    let next : old.next ≡ old.next + numbers_given op = omega (arith, none) in
    subst (λ (n : ℕ). AreSound n (rows_of (edited_document old.next op old.document).body)) next sound
