use Rattle.std.proofs.Common.{◌∙◌, ap, sym, subst, refl, length, ℕ}
use Rattle.edit_model.specs.Edit.{first_refusal}
use Rattle.edit_ops.specs.PlainOps.{IsPlainOp}
use Rattle.edit_ops.proofs.draft.Draft.refusal.Goals as goal

pub returns-in-InsertText : goal.returns-in-InsertText
returns-in-InsertText c = λ next.
    c.change_refusal.ensures.insert c.in-InsertText.text next (subst IsPlainOp c.in-InsertText.is c.requires.plain_op)
    (sym (c.char_count.ensures ∙ ap (length {A = ℕ}) c.get.ensures)) refl
    ∙ ap (first_refusal (record { document = c.args.self.now.document; next = next })) (sym c.in-InsertText.is)

pub returns-in-DeleteRange : goal.returns-in-DeleteRange
returns-in-DeleteRange c = λ next.
    c.change_refusal-in-DeleteRange.ensures.delete next refl
    ∙ ap (first_refusal (record { document = c.args.self.now.document; next = next })) (sym c.in-DeleteRange.is)
