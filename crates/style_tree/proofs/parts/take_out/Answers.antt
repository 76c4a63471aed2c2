use Rattle.std.proofs.Common.{sym, subst}
use Rattle.style_tree.specs.Index.{Says}
use Rattle.style_tree.proofs.Saying.{says_closed}
use Rattle.style_tree.proofs.parts.take_out.Goals as goal

pub returns-clause-says : goal.returns-clause-says
returns-clause-says c = subst (Says c.shift.new.self) (sym c.in_ok-remove.ensures.ok) (says_closed c.args.index.now c.args.index.now c.forget.new.self c.shift.new.self c.args.styles.now c.args.at c.args.style.now c.requires.there c.requires.says c.forget.ensures c.shift.ensures)
