use Rattle.std.proofs.Common.{◌∙◌, sym}
use Rattle.doc_model.specs.Plain.{plain_paragraph}
use Rattle.edit_ops.proofs.Blocks.{items_in, no_section}
use Rattle.edit_ops.proofs.draft.block_items.Goals as goal

pub returns-in-Par : goal.returns-in-Par
returns-in-Par c = λ number text e. c.len.ensures ∙ items_in c.in-Par.par number text (sym c.in-Par.is ∙ e)

pub returns-in-Section : goal.returns-in-Section
returns-in-Section c = λ number text e. absurd (no_section c.in-Section.field-0 (plain_paragraph number text) (sym c.in-Section.is ∙ e))
