-- Where a paragraph stands among the rows of a body, and what a change to the blocks of its container makes of them.
use Rattle.std.specs.Prelude.{◌≡◌, ◌≢◌, true, List, [], ◌∷◌, ◌++◌, map, AllPairs}
use Rattle.std.specs.List.{AllByRecursion as Each}
use Rattle.doc_model.specs.declared.block.Block.{Block}
use Rattle.doc_model.specs.declared.paragraph.Par.{Par}
use Rattle.doc_model.specs.declared.paragraph.Note.{Note, out-Note}
use Rattle.doc_model.specs.declared.paragraph.ParId.{ParId}
use Rattle.doc_model.specs.declared.document.Document.{Document}
use Rattle.doc_model.specs.Reading.{paragraphs, number_of, notes_of}
use Rattle.doc_model.specs.Parts.{notes}
use Rattle.edit_rules.specs.Places.{as_block, is_in_note}
use Rattle.edit_rules.specs.Blocks.{of_paragraphs}
use Rattle.node_array.specs.declared.row.Row.{Row}
use Rattle.node_array.specs.declared.row.Row.TheVariants as row
use Rattle.node_array.specs.Rows.{par_rows, rows_of}

-- the paragraphs of a note hold no notes
abbrev pub HoldsNoNotes : Note → Type 0
HoldsNoNotes note = Each (λ par. notes_of par ≡ []) (out-Note note).pars

-- no two paragraphs of a document have one number, and no note holds a note
pub record IsApart (doc : Document) : Type 0 where
  pub numbers : AllPairs (λ left right. left ≢ right) (map number_of (paragraphs doc))
  pub notes : Each HoldsNoNotes (notes doc)

-- a change of blocks makes paragraphs of paragraphs alone
abbrev pub KeepsParagraphs : (List Block → List Block) → Type 0
KeepsParagraphs change = (pars : List Par) → change (map as_block pars) ≡ map as_block (of_paragraphs change pars)

-- a change of blocks can be made round a paragraph: where it stands in a note, the change makes paragraphs of paragraphs
abbrev pub CanBeMade : (List Block → List Block) → Document → ParId → Type 0
CanBeMade change doc par = is_in_note doc par ≡ true → KeepsParagraphs change

-- rows behind the last block of a container: none, or its End row and those behind it
abbrev pub AreBehindAll : List Row → Type 0
AreBehindAll [] = Unit {0}
AreBehindAll (row.End ∷ rows) = Unit {0}
AreBehindAll (r ∷ rows) = ⊥

-- rows that begin with a paragraph's, and what there is after a change to its container from it on, where these rows stand
-- behind others: the blocks from the paragraph on are changed, and the rows before them and behind their container's last stay
pub record IsChangedFrom (change : List Block → List Block) (before from changed : List Row) : Type 0 where
  pub par : Par
  pub blocks : List Block
  pub behind : List Row
  pub old : from ≡ par_rows par ++ (rows_of blocks ++ behind)
  pub new : changed ≡ before ++ (rows_of (change (as_block par ∷ blocks)) ++ behind)
  pub ends : AreBehindAll behind
  pub notes : Each HoldsNoNotes (notes_of par)
