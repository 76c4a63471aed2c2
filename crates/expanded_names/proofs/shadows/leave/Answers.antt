use Rattle.std.proofs.Common.{◌∙◌, ap, sym}
use Rattle.expanded_names.specs.Scope.{in_force}
use Rattle.expanded_names.specs.Shadows.{without, without_all}
use Rattle.expanded_names.proofs.Declared.{without_alike, without_last}
use Rattle.expanded_names.proofs.shadows.leave.Goals as goal

pub shadows-preserved : goal.shadows-preserved
shadows-preserved c = λ prefix.
    without_alike c.pop.new.self.items (in_force c.bind.new.self) (without c.in-Some.shadow (in_force c.shadows.scope)) c.in_ok-bind.ensures.bound prefix
    ∙ sym (without_last c.pop.new.self.items c.in-Some.shadow (in_force c.shadows.scope) prefix)
    ∙ ap (λ items. without_all items (in_force c.shadows.scope) prefix) (sym c.in-Some.ensures.items) ∙ c.shadows.invariant prefix
