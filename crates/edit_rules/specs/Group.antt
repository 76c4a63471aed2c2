-- Groups of operations: their edited document or first refusal, the paragraphs that they touch, and whether they change styles.
use Rattle.std.specs.Prelude.{ℕ, ◌+◌, if◌then◌else◌, nat_lt, Bool, true, false, List, [], ◌∷◌, ◌++◌, length, Result, Ok, Err}
use Rattle.std.specs.List.{list_any}
use Rattle.std.specs.Option.{option_map_or}
use Rattle.doc_model.specs.declared.edit.EditOp.{EditOp}
use Rattle.doc_model.specs.declared.edit.EditOp.TheVariants.{InsertText, DeleteRange, Split, Join, SetParStyle, SetSpan, SetHeading, SetList, InsertField, InsertNote, AddBookmark, RemoveBookmark, DefineStyle, RemoveStyle, SetParent, SetProp}
use Rattle.doc_model.specs.declared.refusal.Refusal.{Refusal}
use Rattle.doc_model.specs.declared.refusal.Refusal.TheVariants as refusal
use Rattle.doc_model.specs.declared.refusal.Limit.TheVariants.{Operations}
use Rattle.doc_model.specs.Limits.{limit_number}
use Rattle.edit_rules.specs.Texts.{marked_paragraphs}
use Rattle.edit_rules.specs.Edited.{Edited, edited}
use Rattle.edit_rules.specs.Refusals.{first_refusal}

-- the paragraphs that an operation touches in a document, by number: those whose lines it may change
abbrev pub touched : Edited → EditOp → List ℕ
touched old (InsertText par at text) = par.0 ∷ []
touched old (DeleteRange par from to) = par.0 ∷ []
touched old (Split par at) = par.0 ∷ old.next ∷ []
touched old (Join par) = par.0 ∷ []
touched old (SetParStyle par style) = par.0 ∷ []
touched old (SetSpan par from to style) = par.0 ∷ []
touched old (SetHeading par level) = par.0 ∷ []
touched old (SetList par list) = par.0 ∷ []
touched old (InsertField par at field) = par.0 ∷ []
touched old (InsertNote par at class id) = par.0 ∷ []
touched old (AddBookmark name from to) = from.par.0 ∷ to.par.0 ∷ []
touched old (RemoveBookmark name) = marked_paragraphs name old.document
touched old _ = []

-- the paragraphs that operations touch, done one after another
abbrev pub touched_by : Edited → List EditOp → List ℕ
touched_by old [] = []
touched_by old (op ∷ ops) = touched old op ++ touched_by (edited old op) ops

-- whether an operation changes styles
abbrev pub is_restyling : EditOp → Bool
is_restyling (DefineStyle style) = true
is_restyling (RemoveStyle family name) = true
is_restyling (SetParent family name parent) = true
is_restyling (SetProp family name prop) = true
is_restyling _ = false

-- whether one of some operations changes styles
abbrev pub is_restyling_group : List EditOp → Bool
is_restyling_group ops = list_any is_restyling ops

-- operations one after another, the first of this index: the edited document, or the index and refusal of the first one that is refused
abbrev pub edited_by : Edited → ℕ → List EditOp → Result Edited (ℕ × Refusal)
edited_by old index [] = Ok old
edited_by old index (op ∷ ops) = option_map_or (λ why. Err (index, why)) (first_refusal old op) (edited_by (edited old op) (index + 1) ops)

-- a group is its operations one after another; one of more than 1024 is refused before them
abbrev pub edited_by_group : Edited → List EditOp → Result Edited (ℕ × Refusal)
edited_by_group old ops = if nat_lt (limit_number Operations) (length ops) then Err (1024, refusal.Limit Operations 1024) else edited_by old 0 ops
