use Rattle.std.proofs.Common.{◌∙◌, sym, chars, arith}
use Rattle.doc_model.specs.Plain.{plain_paragraph}
use Rattle.edit_ops.proofs.Blocks.{items_in, changed-par, no_section}
use Rattle.edit_ops.proofs.draft.changed_block.Goals as goal

pub replace_range-requires-clause-within : goal.replace_range-requires-clause-within
replace_range-requires-clause-within c =
    let there = c.requires.plain in
    omega (arith, there.2, items_in c.in-Par.par there.0 there.1 (sym c.in-Par.is ∙ there.3))

pub returns-in_ok-replace_range-in-Par : goal.returns-in_ok-replace_range-in-Par
returns-in_ok-replace_range-in-Par c = λ number old e.
    changed-par c.in-Par.par c.replace_range.new.items number c.args.from c.args.to old (chars c.args.text.now) (sym c.in-Par.is ∙ e) c.in_ok-replace_range-in-Par.ensures

pub returns-in-Section : goal.returns-in-Section
returns-in-Section c = λ number old e. absurd (no_section c.in-Section.section (plain_paragraph number old) (sym c.in-Section.is ∙ e))
