-- A line is one command at most.
use Rattle.std.proofs.Common.{◌≡◌, ℕ, ◌+◌, ◌*◌, List, ◌++◌, get_or, refl, ap, sym, ◌∙◌, arith, inl, inr}
use Rattle.std.specs.Prelude.{codes, ◌==◌, if◌then◌else◌}
use Rattle.std.proofs.lemmas.List.{append_cancel_left}
use Rattle.doc_model.specs.declared.edit.EditOp.{EditOp}
use Rattle.desk_model.specs.declared.script.ScriptCommand.{ScriptCommand}
use Rattle.desk_model.specs.declared.script.ScriptCommand.TheVariants as command
use Rattle.desk_model.specs.Script.{IsEditLine, IsCommandLine, IsNumberLine, IsNameLine}
use Rattle.script_lang.specs.Parts.{IsWordLine, IsNumberCommand, IsNameCommand}
use Rattle.script_lang.proofs.CutLemmas.{number_same}
use Rattle.script_lang.proofs.LineLemmas.{edit_forms, group_forms, group_same}

-- a number that tells the first words of lines apart: of their first three letters, but one for all edits
abbrev key : List ℕ → ℕ
key line = if get_or line 0 0 == 0x69 then 0 else if get_or line 2 0 == 0x6c then 0 else get_or line 0 0 * 65536 + (get_or line 1 0 * 256 + get_or line 2 0)

-- the key of a command's lines
abbrev key_of : ScriptCommand → ℕ
key_of (command.Edit group) = 0
key_of command.Undo = 0x756e64
key_of command.Redo = 0x726564
key_of (command.Take name) = 0x74616b
key_of (command.Publish name) = 0x707562
key_of command.Turn = 0x747572
key_of command.Settle = 0x736574
key_of (command.Page index) = 0x706167
key_of (command.Text par) = 0x746578
key_of command.Save = 0x736176
key_of command.Debt = 0x646562
key_of command.Version = 0x766572

edit_key : (line : List ℕ) (edit : EditOp) → IsEditLine line edit → key line ≡ 0
edit_key line edit h = elim (edit_forms line edit h) [ inl a ↦ ap key a.spelled | inr a ↦ ap key a.spelled ]

line_key : (line : List ℕ) (command : ScriptCommand) → IsCommandLine line command → key line ≡ key_of command
line_key line (command.Edit group) h = let a = group_forms line group.0 h in edit_key line a.0 a.2
line_key line command.Undo h = ap key h
line_key line command.Redo h = ap key h
line_key line (command.Take name) h = ap key h.1
line_key line (command.Publish name) h = ap key h.1
line_key line command.Turn h = ap key h
line_key line command.Settle h = ap key h
line_key line (command.Page index) h = ap key h.2
line_key line (command.Text par) h = ap key h.2
line_key line command.Save h = ap key h
line_key line command.Debt h = ap key h
line_key line command.Version h = ap key h

number_line_same : (line word : List ℕ) (m n : ℕ) → IsNumberLine line word m → IsNumberLine line word n → n ≡ m
number_line_same line word m n p q =
    let same = append_cancel_left word (codes " " ++ q.0) (codes " " ++ p.0) (sym q.2 ∙ p.2) in
    number_same q.0 p.0 n m (append_cancel_left (codes " ") q.0 p.0 same) q.1 p.1

name_line_same : (line word name other : List ℕ) → IsNameLine line word name → IsNameLine line word other → other ≡ name
name_line_same line word name other p q =
    append_cancel_left (codes " ") other name (append_cancel_left word (codes " " ++ other) (codes " " ++ name) (sym q.1 ∙ p.1))

-- a line is one command at most
pub command_same : (line : List ℕ) (command other : ScriptCommand) → IsCommandLine line command → IsCommandLine line other → other ≡ command
command_same line (command.Edit group) (command.Edit others) p q = ap (λ (edits : List EditOp). command.Edit (record { 0 = edits })) (group_same line group.0 others.0 p q)
command_same line command.Undo command.Undo p q = refl
command_same line command.Redo command.Redo p q = refl
command_same line (command.Take name) (command.Take other) p q = ap (λ (n : List ℕ). command.Take n) (name_line_same line (codes "take") name other p q)
command_same line (command.Publish name) (command.Publish other) p q = ap (λ (n : List ℕ). command.Publish n) (name_line_same line (codes "publish") name other p q)
command_same line command.Turn command.Turn p q = refl
command_same line command.Settle command.Settle p q = refl
command_same line (command.Page index) (command.Page other) p q = ap (λ (n : ℕ). command.Page n) (number_line_same line (codes "page") index other p q)
command_same line (command.Text par) (command.Text other) p q = ap (λ (n : ℕ). command.Text (record { 0 = n })) (number_line_same line (codes "text") par.0 other.0 p q)
command_same line command.Save command.Save p q = refl
command_same line command.Debt command.Debt p q = refl
command_same line command.Version command.Version p q = refl
command_same line command other p q = absurd (omega (arith, sym (line_key line command p) ∙ line_key line other q))

-- a line that is neither words nor an edit is no command
pub no_command : (line : List ℕ) → ((command : ScriptCommand) → IsWordLine line command → ⊥) → ((command : ScriptCommand) → IsNumberCommand line command → ⊥)
    → ((command : ScriptCommand) → IsNameCommand line command → ⊥) → ((edit : EditOp) → IsEditLine line edit → ⊥) → (command : ScriptCommand) → IsCommandLine line command → ⊥
no_command line words numbers names edits (command.Edit group) h = let a = group_forms line group.0 h in edits a.0 a.2
no_command line words numbers names edits command.Undo h = words command.Undo h
no_command line words numbers names edits command.Redo h = words command.Redo h
no_command line words numbers names edits (command.Take name) h = names (command.Take name) h
no_command line words numbers names edits (command.Publish name) h = names (command.Publish name) h
no_command line words numbers names edits command.Turn h = words command.Turn h
no_command line words numbers names edits command.Settle h = words command.Settle h
no_command line words numbers names edits (command.Page index) h = numbers (command.Page index) h
no_command line words numbers names edits (command.Text par) h = numbers (command.Text par) h
no_command line words numbers names edits command.Save h = words command.Save h
no_command line words numbers names edits command.Debt h = words command.Debt h
no_command line words numbers names edits command.Version h = words command.Version h

pub word_is : (line : List ℕ) (command : ScriptCommand) → IsWordLine line command → IsCommandLine line command
word_is line command.Undo h = h
word_is line command.Redo h = h
word_is line command.Turn h = h
word_is line command.Settle h = h
word_is line command.Save h = h
word_is line command.Debt h = h
word_is line command.Version h = h
word_is line _ h = absurd h

pub number_is : (line : List ℕ) (command : ScriptCommand) → IsNumberCommand line command → IsCommandLine line command
number_is line (command.Page index) h = h
number_is line (command.Text par) h = h
number_is line _ h = absurd h

pub name_is : (line : List ℕ) (command : ScriptCommand) → IsNameCommand line command → IsCommandLine line command
name_is line (command.Take name) h = h
name_is line (command.Publish name) h = h
name_is line _ h = absurd h
