use Rattle.std.proofs.Common.{sym, ◌∙◌}
use Rattle.field_walk.proofs.TextLemmas.{says_above, says_below}
use Rattle.field_walk.proofs.refs.push_direction.Goals as goal

pub returns-then-is_before : goal.returns-then-is_before
returns-then-is_before c = says_above c.args.target c.args.here c.args.out.now c.push_str.new.self (sym c.is_before.ensures ∙ c.if-is_before.true) c.in_ok-push_str.ensures

pub returns : goal.returns
returns c = says_below c.args.target c.args.here c.args.out.now c.push_str-2.new.self (sym c.is_before.ensures ∙ c.if-is_before.false) c.in_ok-push_str-2.ensures
