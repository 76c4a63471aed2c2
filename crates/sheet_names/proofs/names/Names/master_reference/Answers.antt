use Rattle.std.proofs.Common.{◌∙◌, ap, sym, chars}
use Rattle.load_model.specs.Styles.{reference}
use Rattle.sheet_names.proofs.SheetLemmas.{master_empty, master_other}
use Rattle.sheet_names.proofs.names.Names.master_reference.Goals as goal

pub returns-then-is_empty : goal.returns-then-is_empty
returns-then-is_empty c = λ names knows. master_empty names (chars c.args.text.now) (sym c.is_empty.ensures ∙ c.if-is_empty.true)

pub returns : goal.returns
returns c = λ names knows.
    c.reference.ensures ∙ ap (λ masters. reference masters (chars c.args.text.now)) knows.masters_are ∙ master_other names (chars c.args.text.now) (sym c.is_empty.ensures ∙ c.if-is_empty.false)
