-- Edits as they are printed.
use Rattle.std.specs.Prelude.{ℕ, List, [], ◌++◌, codes, decimal}
use Rattle.doc_model.specs.declared.edit.EditOp.{EditOp}
use Rattle.doc_model.specs.declared.edit.EditOp.TheVariants.{InsertText, DeleteRange}
use Rattle.desk_model.specs.Replies.{quoted}
use Rattle.desk_model.specs.Script.{IsLineText}

-- the line that inserts a text
abbrev pub insertion_words : ℕ → ℕ → List ℕ → List ℕ
insertion_words par at text = codes "insert " ++ (decimal par ++ (codes " " ++ (decimal at ++ (codes " " ++ quoted text))))

-- the line that deletes a range
abbrev pub deletion_words : ℕ → ℕ → ℕ → List ℕ
deletion_words par from to = codes "delete " ++ (decimal par ++ (codes " " ++ (decimal from ++ (codes " " ++ decimal to))))

-- the line of an edit that has one
abbrev pub edit_words : EditOp → List ℕ
edit_words (InsertText par at text) = insertion_words par.0 at text
edit_words (DeleteRange par from to) = deletion_words par.0 from to
edit_words _ = []

-- a line can ask for this edit: it deletes a range, or inserts a text that a line can insert
abbrev pub HasLine : EditOp → Type 0
HasLine (InsertText par at text) = IsLineText text
HasLine (DeleteRange par from to) = Unit {0}
HasLine _ = ⊥
