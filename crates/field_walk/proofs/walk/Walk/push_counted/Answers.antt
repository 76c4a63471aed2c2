use Rattle.std.proofs.Common.{◌++◌, ℕ, ap, ◌∙◌}
use Rattle.field_model.specs.Numbers.{shown_number}
use Rattle.field_model.specs.Cut.{cut}
use Rattle.field_walk.proofs.walk.Walk.push_counted.Goals as goal

pub returns : goal.returns
returns c = λ all h. c.in_ok-push_number.ensures ∙ ap (λ (n : ℕ). cut (c.args.out.now ++ shown_number c.args.format n)) (c.in_ok-number.ensures all h)
