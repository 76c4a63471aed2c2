use Rattle.std.proofs.Common.{ap, sym, ◌∙◌}
use Rattle.doc_model.specs.declared.edit.EditOp.TheVariants.{InsertField}
use Rattle.doc_model.specs.declared.field.Field.{Field}
use Rattle.edit_rules.specs.Refusals.{bad_char}
use Rattle.edit_checks.proofs.typed.bad_char.Goals as goal

pub returns-in-InsertText : goal.returns-in-InsertText
returns-in-InsertText c = c.not_typed.ensures ∙ ap bad_char (sym c.in-InsertText.is)

pub returns-in-InsertNote : goal.returns-in-InsertNote
returns-in-InsertNote c = c.not_printed_name-in-InsertNote.ensures ∙ ap bad_char (sym c.in-InsertNote.is)

pub returns-in-AddBookmark : goal.returns-in-AddBookmark
returns-in-AddBookmark c = c.not_printed_name-in-AddBookmark.ensures ∙ ap bad_char (sym c.in-AddBookmark.is)

pub returns-in-WrapSection : goal.returns-in-WrapSection
returns-in-WrapSection c = c.not_printed_name-in-WrapSection.ensures ∙ ap bad_char (sym c.in-WrapSection.is)

pub returns-in-DefineStyle : goal.returns-in-DefineStyle
returns-in-DefineStyle c = c.not_printed_name-in-DefineStyle.ensures ∙ ap bad_char (sym c.in-DefineStyle.is)

pub returns-in-AddDecl : goal.returns-in-AddDecl
returns-in-AddDecl c = c.not_printed_name-in-AddDecl.ensures ∙ ap bad_char (sym c.in-AddDecl.is)

pub returns-in-Sequence : goal.returns-in-Sequence
returns-in-Sequence c =
    c.not_printed_name.ensures ∙ ap (λ (field : Field). bad_char (InsertField c.in-InsertField.par c.in-InsertField.at field)) (sym c.in-Sequence.is) ∙ ap bad_char (sym c.in-InsertField.is)

pub returns-in-VarSet : goal.returns-in-VarSet
returns-in-VarSet c =
    c.not_printed.ensures ∙ ap (λ (field : Field). bad_char (InsertField c.in-InsertField.par c.in-InsertField.at field)) (sym c.in-VarSet.is) ∙ ap bad_char (sym c.in-InsertField.is)

pub returns-in-BookRef : goal.returns-in-BookRef
returns-in-BookRef c =
    c.not_printed_name-in-BookRef.ensures ∙ ap (λ (field : Field). bad_char (InsertField c.in-InsertField.par c.in-InsertField.at field)) (sym c.in-BookRef.is) ∙ ap bad_char (sym c.in-InsertField.is)

pub returns-in-SeqRef : goal.returns-in-SeqRef
returns-in-SeqRef c =
    c.not_printed_name-in-SeqRef.ensures ∙ ap (λ (field : Field). bad_char (InsertField c.in-InsertField.par c.in-InsertField.at field)) (sym c.in-SeqRef.is) ∙ ap bad_char (sym c.in-InsertField.is)

pub returns-in-NoteRef : goal.returns-in-NoteRef
returns-in-NoteRef c =
    c.not_printed_name-in-NoteRef.ensures ∙ ap (λ (field : Field). bad_char (InsertField c.in-InsertField.par c.in-InsertField.at field)) (sym c.in-NoteRef.is) ∙ ap bad_char (sym c.in-InsertField.is)
