-- Why an operation is refused. Of the causes that hold the first in their order is answered.
use Rattle.std.specs.Prelude.{ℕ, ◌==◌, ◌&&◌, ◌||◌, if◌then◌else◌, nat_lt, not, Bool, true, false, List, [], ◌∷◌, map, length, filter, find, Option, Some, None, is_none, is_some, option_map}
use Rattle.std.specs.List.{list_all}
use Rattle.std.specs.Str.{bytes_eq}
use Rattle.doc_model.specs.declared.paragraph.ParId.{ParId}
use Rattle.doc_model.specs.declared.field.Field.TheVariants.{Chapter}
use Rattle.doc_model.specs.declared.edit.EditOp.{EditOp}
use Rattle.doc_model.specs.declared.edit.EditOp.TheVariants.{InsertText, DeleteRange, Split, Join, MovePars, SetParStyle, SetSpan, SetHeading, SetList, InsertField, InsertNote, AddBookmark, RemoveBookmark, WrapSection, UnwrapSection, DefineStyle, RemoveStyle, SetParent}
use Rattle.doc_model.specs.declared.refusal.Refusal.{Refusal}
use Rattle.doc_model.specs.declared.refusal.Refusal.TheVariants.{NoPar, PastEnd, BadRange, NoName, NameTaken, Protected, StyleLoop, InUse, NotTogether, BadChar, Level, LastPar}
use Rattle.doc_model.specs.declared.refusal.Refusal.TheVariants as refusal
use Rattle.doc_model.specs.declared.refusal.Limit.{Limit}
use Rattle.doc_model.specs.declared.refusal.Limit.TheVariants.{Identifiers}
use Rattle.doc_model.specs.declared.document.Document.{Document}
use Rattle.doc_model.specs.Reading.{number_of}
use Rattle.doc_model.specs.Parts.{SectionHead}
use Rattle.doc_model.specs.Limits.{first_passed, limit_number}
use Rattle.edit_rules.specs.Places.{Held, live_paragraph, item_count, is_one_of, holds, container_of, held_from, held_between, are_in_order, is_in_note, are_in_one_text, placed_paragraphs, nested_sections, stands_after}
use Rattle.edit_rules.specs.Texts.{marked_paragraphs}
use Rattle.style_model.specs.Lineage.{would_loop}
use Rattle.edit_rules.specs.Styles.{first_user}
use Rattle.edit_rules.specs.Names.{needs, brought, is_there, texts_of, first_not_brought}
use Rattle.edit_rules.specs.Edited.{Edited, edited, numbers_given}

-- a refusal where a test holds
abbrev pub refused_if : Bool → Refusal → Option Refusal
refused_if test why = if test then Some why else None

-- the first of some refusals that is there
abbrev pub first_refusal_of : List (Option Refusal) → Option Refusal
first_refusal_of [] = None
first_refusal_of (None ∷ more) = first_refusal_of more
first_refusal_of (Some why ∷ more) = Some why

-- the places that an operation has, in the order of its fields
abbrev pub places : EditOp → List (ParId × ℕ)
places (InsertText par at text) = (par, at) ∷ []
places (DeleteRange par from to) = (par, from) ∷ (par, to) ∷ []
places (Split par at) = (par, at) ∷ []
places (SetSpan par from to style) = (par, from) ∷ (par, to) ∷ []
places (InsertField par at field) = (par, at) ∷ []
places (InsertNote par at class id) = (par, at) ∷ []
places (AddBookmark name from to) = (from.par, from.at) ∷ (to.par, to.at) ∷ []
places _ = []

-- the paragraphs that an operation names, in the order of its fields
abbrev pub named_paragraphs : EditOp → List ParId
named_paragraphs (Join par) = par ∷ []
named_paragraphs (MovePars first last after) = first ∷ last ∷ after ∷ []
named_paragraphs (SetParStyle par style) = par ∷ []
named_paragraphs (SetHeading par level) = par ∷ []
named_paragraphs (SetList par list) = par ∷ []
named_paragraphs (WrapSection first last name style) = first ∷ last ∷ []
named_paragraphs op = map (λ place. place.0) (places op)

-- the first named paragraph that isn't live
abbrev pub no_paragraph : Document → EditOp → Option Refusal
no_paragraph doc op = option_map NoPar (find (λ par. is_none (live_paragraph doc par)) (named_paragraphs op))

-- the first place that is above its paragraph's item count
abbrev pub past_end : Document → EditOp → Option Refusal
past_end doc op = option_map (λ place. PastEnd place.0 (item_count doc place.0)) (find (λ place. nat_lt (item_count doc place.0) place.1) (places op))

-- a range that ends before it begins. The places of a bookmark are compared in reading order
abbrev pub bad_range : Document → EditOp → Option Refusal
bad_range doc (DeleteRange par from to) = refused_if (nat_lt to from) (BadRange from to)
bad_range doc (SetSpan par from to style) = refused_if (nat_lt to from) (BadRange from to)
bad_range doc (AddBookmark name from to) = refused_if (stands_after doc from to) (BadRange from.at to.at)
bad_range doc _ = None

-- the first name or property that an operation needs and that isn't there
abbrev pub no_name : Document → EditOp → Option Refusal
no_name doc op = option_map (λ need. NoName need.sort need.name) (find (λ need. not need.is_met) (needs doc op))

-- the first new name that is there already
abbrev pub name_taken : Document → EditOp → Option Refusal
name_taken doc op = option_map (λ new. NameTaken new.sort new.name) (find (λ new. is_there new.given new.name) (brought doc op))

-- the paragraphs whose protection counts, by number. Those between the first and the last one moved stand in their container
abbrev pub guarded_paragraphs : Document → EditOp → List ℕ
guarded_paragraphs doc (RemoveBookmark name) = marked_paragraphs name doc
guarded_paragraphs doc op = map (λ par. par.0) (named_paragraphs op)

-- the innermost protected one of some sections, the innermost of which stands first
abbrev pub protected_by : List SectionHead → Option Refusal
protected_by around = option_map (λ section. Protected section.name) (find (λ section. section.protected) around)

-- whether sections within each other begin with the one of this name
abbrev pub begins_with : List ℕ → List SectionHead → Bool
begins_with name [] = false
begins_with name (section ∷ around) = bytes_eq section.name name

-- the innermost protected section around the first guarded paragraph in reading order that has one. For a section that is unwrapped it is that one or the innermost one around it
abbrev pub protected : Document → EditOp → Option Refusal
protected doc (UnwrapSection name) = first_refusal_of (map protected_by (filter (begins_with name) (nested_sections doc)))
protected doc op = first_refusal_of (map (λ placed. protected_by placed.around) (filter (λ placed. is_one_of (guarded_paragraphs doc op) (number_of placed.par)) (placed_paragraphs doc)))

-- a style that would be its own ancestor
abbrev pub style_loop : Document → EditOp → Option Refusal
style_loop doc (SetParent family name parent) = refused_if (would_loop doc.styles family name parent) (StyleLoop name)
style_loop doc _ = None

-- a style that is named, with its first user
abbrev pub in_use : Document → EditOp → Option Refusal
in_use doc (RemoveStyle family name) = option_map (λ number. InUse name (record { 0 = number })) (first_user doc family name)
in_use doc _ = None

-- whether what a container holds from a paragraph on begins with two paragraphs
abbrev pub begins_with_two : Held → Bool
begins_with_two (Some par ∷ Some next ∷ rest) = true
begins_with_two _ = false

-- whether two paragraphs and all between them are paragraphs of one container, in this order
abbrev pub are_paragraphs_in_order : Document → ParId → ParId → Bool
are_paragraphs_in_order doc first last = are_in_order doc first last && list_all is_some (held_between doc first last)

-- whether paragraphs can't be moved behind another: it is among them, or they would leave or enter a note
abbrev pub is_bad_target : Document → ParId → ParId → ParId → Bool
is_bad_target doc first last after = holds after.0 (held_between doc first last) || (is_in_note doc after || is_in_note doc first) && not (holds after.0 (container_of doc first))

-- two paragraphs that don't stand together as the operation wants it; the second is 0 where there is none
abbrev pub not_together : Document → EditOp → Option Refusal
not_together doc (Join par) = refused_if (not (begins_with_two (held_from doc par))) (NotTogether par (record { 0 = 0 }))
not_together doc (MovePars first last after) = first_refusal_of
    (refused_if (not (are_paragraphs_in_order doc first last)) (NotTogether first last)
    ∷ refused_if (is_bad_target doc first last after) (NotTogether first after) ∷ [])
not_together doc (InsertNote par at class id) = refused_if (is_in_note doc par) (NotTogether par par)
not_together doc (AddBookmark name from to) = refused_if (not (are_in_one_text doc from.par to.par)) (NotTogether from.par to.par)
not_together doc (WrapSection first last name style) = refused_if (not (are_in_order doc first last) || is_in_note doc first) (NotTogether first last)
not_together doc _ = None

-- the first character that isn't allowed, by how many stand before it in its text
abbrev pub bad_char : EditOp → Option Refusal
bad_char op = first_refusal_of (map (λ text. option_map BadChar (first_not_brought op text)) (texts_of op))

-- a level that isn't 1 to 10
abbrev pub is_no_level : ℕ → Bool
is_no_level level = level == 0 || nat_lt 10 level

-- a level that is above 10, or 0 where it has to be 1 to 10
abbrev pub bad_level : EditOp → Option Refusal
bad_level (SetHeading par level) = refused_if (nat_lt 10 level) (Level level)
bad_level (SetList par (Some place)) = refused_if (is_no_level place.level) (Level place.level)
bad_level (InsertField par at (Chapter display level)) = refused_if (is_no_level level) (Level level)
bad_level (DefineStyle style) = refused_if (nat_lt 10 style.outline) (Level style.outline)
bad_level _ = None

-- a container that would lose all that it holds
abbrev pub last_paragraph : Document → EditOp → Option Refusal
last_paragraph doc (MovePars first last after) =
    refused_if (length (held_between doc first last) == length (container_of doc first) && not (holds after.0 (container_of doc first))) (LastPar first)
last_paragraph doc _ = None

-- the first limit that the result would pass: one of a document, or the greatest number that can be given
abbrev pub limit_passed : Edited → EditOp → Option Refusal
limit_passed old op = option_map (λ limit. refusal.Limit limit (limit_number limit)) (first_limit (first_passed (edited old op).document)) where
  first_limit : Option Limit → Option Limit
  first_limit (Some limit) = Some limit
  first_limit None = if nat_lt 0 (numbers_given op) && nat_lt (limit_number Identifiers) old.next then Some Identifiers else None

-- the checks of an operation in their order
abbrev pub checks : Edited → EditOp → List (Option Refusal)
checks old op =
    no_paragraph old.document op ∷ past_end old.document op ∷ bad_range old.document op ∷ no_name old.document op ∷ name_taken old.document op
    ∷ protected old.document op ∷ style_loop old.document op ∷ in_use old.document op ∷ not_together old.document op
    ∷ bad_char op ∷ bad_level op ∷ last_paragraph old.document op ∷ limit_passed old op ∷ []

-- the first refusal of an operation, if there is one
abbrev pub first_refusal : Edited → EditOp → Option Refusal
first_refusal old op = first_refusal_of (checks old op)
