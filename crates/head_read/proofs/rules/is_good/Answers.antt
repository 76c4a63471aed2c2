use Rattle.std.proofs.Common.{◌∙◌, ap, sym}
use Rattle.load_model.specs.Left.{is_one_of}
use Rattle.head_read.proofs.RuleLemmas.{read_layout, read_next, read_plain}
use Rattle.head_read.proofs.rules.is_good.Goals as goal

pub returns-in-Layout : goal.returns-in-Layout
returns-in-Layout c = c.has.ensures ∙ ap (is_one_of c.args.layouts.now) c.get.ensures ∙ sym (read_layout c.args.layouts.now c.args.masters.now c.args.attribute.now c.in-Layout.is)

pub returns-in-Next : goal.returns-in-Next
returns-in-Next c = c.has-in-Next.ensures ∙ ap (is_one_of c.args.masters.now) c.get-in-Next.ensures ∙ sym (read_next c.args.layouts.now c.args.masters.now c.args.attribute.now c.in-Next.is)

pub returns-in_default : goal.returns-in_default
returns-in_default c = c.is_read.ensures ∙ read_plain c.args.layouts.now c.args.masters.now c.args.attribute.now.key c.args.attribute.now.text c.in_default.not-Layout c.in_default.not-Next
