use Rattle.std.proofs.Common.{List, sym, ap, subst, ◌∙◌}
use Rattle.std.specs.Prelude.{filter}
use Rattle.field_model.specs.declared.gathered.VariableSet.{VariableSet}
use Rattle.field_model.specs.Gathered.{is_before}
use Rattle.field_model.specs.Shown.{last_of}
use Rattle.field_walk.specs.Order.{IsRising}
use Rattle.field_walk.proofs.OrderLemmas.{assigned_rising}
use Rattle.field_walk.proofs.walk.Walk.set_in.Goals as goal

pub returns : goal.returns
returns c = λ all h.
    let e = c.get.ensures ∙ h.assigned c.args.in_note c.args.name.now in
    c.last_before.ensures (subst (λ (sets : List VariableSet). IsRising (λ set. set.spot) sets) (sym e) (assigned_rising c.args.in_note c.args.name.now all h.in_order))
    ∙ ap (λ (sets : List VariableSet). last_of (filter (λ set. is_before set.spot c.args.here) sets)) e
