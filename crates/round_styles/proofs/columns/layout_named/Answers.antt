use Rattle.std.proofs.Common.{sym, ◌∙◌}
use Rattle.round_styles.proofs.Named.{layout_none, layout_found}
use Rattle.round_styles.proofs.columns.layout_named.Goals as goal

pub returns-then-is_nameless : goal.returns-then-is_nameless
returns-then-is_nameless c = layout_none c.args.layouts.now c.args.name.now (sym c.is_nameless.ensures ∙ c.if-is_nameless.true)

pub returns : goal.returns
returns c = c.first_layout.ensures ∙ layout_found c.args.layouts.now c.args.name.now (sym c.is_nameless.ensures ∙ c.if-is_nameless.false)
