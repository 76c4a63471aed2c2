-- Sections that are wrapped round blocks, and set.
use Rattle.std.proofs.Common.{◌≡◌, ℕ, Bool, true, false, not, List, [], ◌∷◌, ◌++◌, map, take, drop, refl, ap, sym, ◌∙◌, subst, append_assoc}
use Rattle.std.specs.Prelude.{◌&&◌}
use Rattle.std.proofs.lemmas.List.{take-append-drop}
use Rattle.doc_model.specs.declared.edit.EditOp.TheVariants.{WrapSection, SetSection}
use Rattle.doc_model.specs.declared.paragraph.Item.{Item}
use Rattle.doc_model.specs.declared.paragraph.ParHead.{ParHead}
use Rattle.edit_rules.specs.Edited.{Edited, edited, edited_document}
use Rattle.edit_rules.specs.Places.{is_in_note, are_in_order}
use Rattle.node_array.specs.declared.row.Row.{Row}
use Rattle.node_array.specs.declared.row.SectionHead.{SectionHead}
use Rattle.node_array.specs.declared.row.Row.TheVariants as row
use Rattle.node_array.specs.Rows.{rows_of}
use Rattle.container_rows.specs.Standing.{IsApart}
use Rattle.container_rows.specs.Texts.{note_count, through_ends}
use Rattle.section_rows.specs.Starts.{with_head_set}
use Rattle.section_rows.proofs.Set.{set_among}
use Rattle.held_rows.specs.Wrapping.{wrapping}
use Rattle.held_rows.proofs.Wrap.{wrap_among}
use Rattle.paragraph_rows.specs.Flat.{has_flat_notes}
use Rattle.row_edits.specs.Sound.{AreSound, IsSound}
use Rattle.rows_stay_sound.proofs.Neutral.{numbers, numbers_both, start_neutral, end_put, sound_as, kept}

pub wrap_kept : (old : Edited) (before : List Row) (head : ParHead) (items : List Item) (rest inside : List Row) (other : ParHead) (others : List Item) (more : List Row) (name style : List ℕ)
    → IsApart old.document → is_in_note old.document head.id ≡ false → are_in_order old.document head.id other.id ≡ true
    → rows_of old.document.body ≡ before ++ row.Par head items ∷ rest → row.Par head items ∷ rest ≡ inside ++ row.Par other others ∷ more
    → IsSound old → IsSound (edited old (WrapSection head.id other.id name style))
wrap_kept old before head items rest inside other others more name style apart in_body ordered is to sound =
    let next : ℕ = old.next in
    let count : ℕ = through_ends (note_count others) more in
    let notes : List Row = take count more in
    let behind : List Row = drop count more in
    let held : List Row = inside ++ row.Par other others ∷ notes in
    let start : SectionHead = wrapping name style in
    let parts : (some : List Row) → inside ++ row.Par other others ∷ (notes ++ some) ≡ held ++ some = λ some. sym (append_assoc inside (row.Par other others ∷ notes) some) in
    let was : rows_of old.document.body ≡ before ++ (held ++ behind) =
    is ∙ ap (λ (rows : List Row). before ++ rows) (to ∙ ap (λ (rows : List Row). inside ++ row.Par other others ∷ rows) (sym (take-append-drop count more)) ∙ parts behind)
    in
    let now : rows_of (edited_document next (WrapSection head.id other.id name style) old.document).body ≡ before ++ row.Start start ∷ (held ++ row.End ∷ behind) =
    wrap_among next old.document before head items rest inside other others more name style apart in_body ordered is to ∙ ap (λ (rows : List Row). before ++ row.Start start ∷ rows) (parts (row.End ∷ behind))
    in
    let whole : AreSound next (before ++ (held ++ behind)) = subst (AreSound next) was sound in
    let flat : has_flat_notes false ((before ++ held) ++ row.End ∷ behind) ≡ true =
    end_put false (before ++ held) behind (ap (has_flat_notes false) (append_assoc before held behind) ∙ whole.flat)
    in
    kept old (WrapSection head.id other.id name style) refl
    (subst (AreSound next) (sym now)
    (sound_as next (before ++ (held ++ behind)) (before ++ row.Start start ∷ (held ++ row.End ∷ behind))
    (numbers_both before (row.Start start ∷ (held ++ row.End ∷ behind))
    ∙ ap (λ (some : List ℕ). numbers before ++ some) (numbers_both held (row.End ∷ behind) ∙ sym (numbers_both held behind))
    ∙ sym (numbers_both before (held ++ behind)))
    (start_neutral false before start (held ++ row.End ∷ behind) ∙ ap (has_flat_notes false) (sym (append_assoc before held (row.End ∷ behind))) ∙ flat)
    whole))

-- a section that is set
set_flat : (name : List ℕ) (protected hidden within : Bool) (rows : List Row) → has_flat_notes within (map (with_head_set name protected hidden) rows) ≡ has_flat_notes within rows
set_flat name protected hidden within [] = refl
set_flat name protected hidden within (row.Start head ∷ rows) = set_flat name protected hidden within rows
set_flat name protected hidden within (row.End ∷ rows) = set_flat name protected hidden false rows
set_flat name protected hidden within (row.Par head items ∷ rows) = set_flat name protected hidden within rows
set_flat name protected hidden within (row.NoteText ∷ rows) = ap (λ (b : Bool). not within && b) (set_flat name protected hidden true rows)

set_numbers : (name : List ℕ) (protected hidden : Bool) (rows : List Row) → numbers (map (with_head_set name protected hidden) rows) ≡ numbers rows
set_numbers name protected hidden [] = refl
set_numbers name protected hidden (row.Start head ∷ rows) = set_numbers name protected hidden rows
set_numbers name protected hidden (row.End ∷ rows) = set_numbers name protected hidden rows
set_numbers name protected hidden (row.Par head items ∷ rows) = ap (λ (some : List ℕ). head.id.0 ∷ some) (set_numbers name protected hidden rows)
set_numbers name protected hidden (row.NoteText ∷ rows) = set_numbers name protected hidden rows

pub set_kept : (old : Edited) (name : List ℕ) (protected hidden : Bool) → IsSound old → IsSound (edited old (SetSection name protected hidden))
set_kept old name protected hidden sound =
    let rows : List Row = rows_of old.document.body in
    let new : List Row = map (with_head_set name protected hidden) rows in
    kept old (SetSection name protected hidden) refl
    (subst (AreSound old.next) (sym (set_among name protected hidden old.document.body))
    (sound_as old.next rows new (set_numbers name protected hidden rows) (set_flat name protected hidden false rows ∙ sound.flat) sound))
