-- Which paragraph may be gathered next.
use Rattle.std.proofs.Common.{◌≡◌, ℕ, ◌+◌, ◌≤◌, List, [], ◌∷◌, map, length, refl, sym, ap, subst, ◌∙◌, arith}
use Rattle.std.specs.List.{flat_map}
use Rattle.doc_model.specs.declared.paragraph.Par.{Par}
use Rattle.doc_model.specs.declared.paragraph.Note.{Note, out-Note}
use Rattle.doc_model.specs.declared.list_style.ListStyle.{ListStyle}
use Rattle.doc_model.specs.Reading.{notes_of}
use Rattle.doc_model.specs.Parts.{items_of}
use Rattle.field_model.specs.declared.gathered.Gathered.TheVariants as place
use Rattle.field_model.specs.Gathered.{Head, GatheredPar, events, note_number, note_places}
use Rattle.doc_texts.specs.Places.{placed_at, in_note, in_notes, with_notes}
use Rattle.doc_texts.specs.Behind.{all_behind, gathered_behind}
use Rattle.doc_texts.specs.Order.{AreNext}
use Rattle.doc_texts.proofs.Events.{items_number, items_kept, items_places}
use Rattle.doc_texts.proofs.Parts.{all_behind-append}

-- paragraphs behind others: they are in order, the notes have as many places as before, and none of a later number was gathered
pub record Follows (most : ℕ) (old new : List GatheredPar) : Type 0 where
  pub ordered : AreNext new
  pub places : length (note_places (events new)) ≡ length (note_places (events old))
  pub number : note_number (events new) ≤ most

-- behind a paragraph of a note
note_par_number : (lists : List ListStyle) (outline : ListStyle) (before : List GatheredPar) (number : ℕ) (par : Par) → note_number (events (gathered_behind lists outline before (placed_at (place.Note number) par) ∷ before)) ≡ number
note_par_number lists outline before number par = items_number (items_of par) (Head (place.Note number) _ _ ∷ events before)

note_par_places : (lists : List ListStyle) (outline : ListStyle) (before : List GatheredPar) (number : ℕ) (par : Par) → note_places (events (gathered_behind lists outline before (placed_at (place.Note number) par) ∷ before)) ≡ note_places (events before)
note_par_places lists outline before number par = items_kept (items_of par) (Head (place.Note number) _ _ ∷ events before) refl

note_follows : (lists : List ListStyle) (outline : ListStyle) (number : ℕ) (pars : List Par) (before : List GatheredPar) → AreNext before → 1 ≤ number → number ≤ length (note_places (events before)) → note_number (events before) ≤ number
    → Follows number before (all_behind lists outline before (map (placed_at (place.Note number)) pars))
note_follows lists outline number [] before ordered least there most = record { ordered = ordered; places = refl; number = most }
note_follows lists outline number (par ∷ pars) before ordered least there most =
    let one = gathered_behind lists outline before (placed_at (place.Note number) par) ∷ before in
    let is : note_number (events one) ≡ number = note_par_number lists outline before number par in
    let same : length (note_places (events one)) ≡ length (note_places (events before)) = ap length (note_par_places lists outline before number par) in
    let rest = note_follows lists outline number pars one ((least, there, most), ordered) least (omega arith) (omega arith) in
    record { ordered = rest.ordered; places = rest.places ∙ same; number = rest.number }

notes_follow : (lists : List ListStyle) (outline : ListStyle) (number : ℕ) (notes : List Note) (before : List GatheredPar) → AreNext before → number + length notes ≤ length (note_places (events before)) → note_number (events before) ≤ number
    → Follows (number + length notes) before (all_behind lists outline before (in_notes (number + 1) notes))
notes_follow lists outline number [] before ordered there most = record { ordered = ordered; places = refl; number = omega arith }
notes_follow lists outline number (note ∷ notes) before ordered there most =
    let first = note_follows lists outline (number + 1) (out-Note note).pars before ordered (omega arith) (omega arith) (omega arith) in
    let behind = all_behind lists outline before (in_note (number + 1) note) in
    let same : length (note_places (events behind)) ≡ length (note_places (events before)) = first.places in
    let rest = notes_follow lists outline (number + 1) notes behind first.ordered (omega arith) first.number in
    let split = all_behind-append lists outline before (in_note (number + 1) note) (in_notes (number + 1 + 1) notes) in
    subst (λ (new : List GatheredPar). Follows (number + length (note ∷ notes)) before new) (sym split)
    (record { ordered = rest.ordered; places = rest.places ∙ same; number = omega (arith, rest.number) })

-- a paragraph of the body and those of its notes are in order behind others that are
body_ordered : (lists : List ListStyle) (outline : ListStyle) (before : List GatheredPar) (par : Par) → AreNext before → AreNext (all_behind lists outline before (with_notes par))
body_ordered lists outline before par ordered =
    let one = gathered_behind lists outline before (placed_at place.Body par) ∷ before in
    let number : note_number (events one) ≡ 0 = items_number (items_of par) (Head place.Body _ _ ∷ events before) in
    let found : length (note_places (events one)) ≡ 0 + length (notes_of par) = items_places (items_of par) (Head place.Body _ _ ∷ events before) refl in
    let places : length (note_places (events one)) ≡ length (notes_of par) = omega arith in
    (notes_follow lists outline 0 (notes_of par) one (tt, ordered) (omega arith) (omega arith)).ordered

-- and so are all
pub all_ordered : (lists : List ListStyle) (outline : ListStyle) (pars : List Par) (before : List GatheredPar) → AreNext before → AreNext (all_behind lists outline before (flat_map with_notes pars))
all_ordered lists outline [] before ordered = ordered
all_ordered lists outline (par ∷ pars) before ordered =
    subst AreNext (sym (all_behind-append lists outline before (with_notes par) (flat_map with_notes pars)))
    (all_ordered lists outline pars (all_behind lists outline before (with_notes par)) (body_ordered lists outline before par ordered))
