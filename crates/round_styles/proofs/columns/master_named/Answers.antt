use Rattle.std.proofs.Common.{sym, ◌∙◌}
use Rattle.round_styles.proofs.Named.{master_none, master_found}
use Rattle.round_styles.proofs.columns.master_named.Goals as goal

pub returns-then-is_nameless : goal.returns-then-is_nameless
returns-then-is_nameless c = master_none c.args.masters.now c.args.name.now (sym c.is_nameless.ensures ∙ c.if-is_nameless.true)

pub returns : goal.returns
returns c = c.place_named.ensures ∙ master_found c.args.masters.now c.args.name.now (sym c.is_nameless.ensures ∙ c.if-is_nameless.false)
