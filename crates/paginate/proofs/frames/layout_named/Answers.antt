use Rattle.std.proofs.Common.{sym, ◌∙◌}
use Rattle.paginate.proofs.RowLemmas.{layout-none, layout-found}
use Rattle.paginate.proofs.frames.layout_named.Goals as goal

pub returns-then-is_nameless : goal.returns-then-is_nameless
returns-then-is_nameless c = layout-none c.args.layouts.now c.args.name.now (sym c.is_nameless.ensures ∙ c.if-is_nameless.true)

pub returns : goal.returns
returns c = c.first_layout.ensures ∙ layout-found c.args.layouts.now c.args.name.now (sym c.is_nameless.ensures ∙ c.if-is_nameless.false)
