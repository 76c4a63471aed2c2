use Rattle.std.proofs.Common.{Bool, ◌||◌, ap, sym, ◌∙◌}
use Rattle.edit_rules.specs.Places.{are_in_order}
use Rattle.container_facts.proofs.Shared.{one_container}
use Rattle.container_checks.proofs.places.are_in_one_container.Goals as goal

pub returns-then-are_in_order : goal.returns-then-are_in_order
returns-then-are_in_order c = λ doc same apart live live_too.
    c.if-are_in_order.true
    ∙ sym (one_container doc apart c.args.first c.args.other live
    ∙ ap (λ (b : Bool). b || are_in_order doc c.args.other c.args.first) (sym (c.are_in_order.ensures doc same apart live) ∙ c.if-are_in_order.true))

pub returns-else-are_in_order : goal.returns-else-are_in_order
returns-else-are_in_order c = λ doc same apart live live_too.
    c.are_in_order-else-are_in_order.ensures doc same apart live_too
    ∙ sym (one_container doc apart c.args.first c.args.other live
    ∙ ap (λ (b : Bool). b || are_in_order doc c.args.other c.args.first) (sym (c.are_in_order.ensures doc same apart live) ∙ c.if-are_in_order.false))
