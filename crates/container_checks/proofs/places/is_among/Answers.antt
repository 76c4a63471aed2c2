use Rattle.std.proofs.Common.{Bool, ◌&&◌, ap, sym, ◌∙◌}
use Rattle.edit_rules.specs.Places.{are_in_order}
use Rattle.container_facts.proofs.Shared.{stands_among}
use Rattle.container_checks.proofs.places.is_among.Goals as goal

pub returns-then-are_in_order : goal.returns-then-are_in_order
returns-then-are_in_order c = λ doc same apart live live_too order.
    c.are_in_order-then-are_in_order.ensures doc same apart live_too
    ∙ sym (stands_among doc apart c.args.first c.args.last c.args.other order
    ∙ ap (λ (b : Bool). b && are_in_order doc c.args.other c.args.last) (sym (c.are_in_order.ensures doc same apart live) ∙ c.if-are_in_order.true))

pub returns-else-are_in_order : goal.returns-else-are_in_order
returns-else-are_in_order c = λ doc same apart live live_too order.
    c.if-are_in_order.false
    ∙ sym (stands_among doc apart c.args.first c.args.last c.args.other order
    ∙ ap (λ (b : Bool). b && are_in_order doc c.args.other c.args.last) (sym (c.are_in_order.ensures doc same apart live) ∙ c.if-are_in_order.false))
