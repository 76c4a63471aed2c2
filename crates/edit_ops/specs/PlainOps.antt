-- Groups of plain operations, and what is told of one that is refused.
use Rattle.std.specs.Prelude.{◌≡◌, ℕ, List, length, Option, Err}
use Rattle.std.specs.List.{AllByRecursion as Each}
use Rattle.doc_model.specs.declared.edit.EditOp.{EditOp}
use Rattle.doc_model.specs.declared.edit.EditOp.TheVariants.{InsertText, DeleteRange}
use Rattle.doc_model.specs.declared.document.Document.{Document}
use Rattle.doc_model.specs.declared.paragraph.ParId.{ParId}
use Rattle.doc_model.specs.declared.refusal.Refusal.{Refusal}
use Rattle.doc_model.specs.Chars.{IsPlainChar}
use Rattle.edit_model.specs.Edit.{first_refusal, edited_by_group}
use Rattle.edit_ops.specs.declared.fault.EditFault.{EditFault}
use Rattle.edit_ops.specs.declared.fault.EditFault.TheVariants.{Refused, NoMemory}

-- a plain operation is an insert of characters U+20 to U+7E, or a delete
abbrev pub IsPlainOp : EditOp → Type 0
IsPlainOp (InsertText par at text) = Each IsPlainChar text
IsPlainOp (DeleteRange par from to) = Unit {0}
IsPlainOp _ = ⊥

-- a fault tells the first refused operation of a group by the number of those before it, and its refusal. Want of memory tells nothing
abbrev pub IsFirstRefusal : Document → List EditOp → EditFault → Type 0
IsFirstRefusal doc ops (Refused index why) = (next : ℕ) → edited_by_group (record { document = doc; next = next }) ops ≡ Err (index, why)
IsFirstRefusal doc ops NoMemory = Unit {0}

-- why so many characters can't take the place of the items of a paragraph between two places: as an insert where the places are one, and as a delete where there are none
pub record RefusesChange (doc : Document) (par : ParId) (from to added : ℕ) (why : Option Refusal) : Type 0 where
  pub insert : (text : List ℕ) (next : ℕ) → Each IsPlainChar text → length text ≡ added → from ≡ to → why ≡ first_refusal (record { document = doc; next = next }) (InsertText par from text)
  pub delete : (next : ℕ) → added ≡ 0 → why ≡ first_refusal (record { document = doc; next = next }) (DeleteRange par from to)
