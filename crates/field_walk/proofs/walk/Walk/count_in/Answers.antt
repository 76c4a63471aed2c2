use Rattle.std.proofs.Common.{List, sym, ap, subst, ◌∙◌}
use Rattle.std.specs.List.{count_by}
use Rattle.field_model.specs.declared.gathered.Spot.{Spot}
use Rattle.field_model.specs.Gathered.{is_up_to}
use Rattle.field_walk.specs.Order.{IsRising}
use Rattle.field_walk.proofs.OrderLemmas.{counted_rising}
use Rattle.field_walk.proofs.walk.Walk.count_in.Goals as goal

pub returns : goal.returns
returns c = λ all h.
    let e = c.get.ensures ∙ h.counted c.args.in_note c.args.name.now in
    c.count_up_to.ensures (subst (λ (spots : List Spot). IsRising (λ spot. spot) spots) (sym e) (counted_rising c.args.in_note c.args.name.now all h.in_order))
    ∙ ap (λ (spots : List Spot). count_by (λ spot. is_up_to spot c.args.here) spots) e
