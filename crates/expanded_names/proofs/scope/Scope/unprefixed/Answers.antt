use Rattle.std.proofs.Common.{◌∙◌, [], ap, unwrap_or}
use Rattle.std.proofs.lemmas.Str.{chars-nil}
use Rattle.expanded_names.specs.Scope.{in_force}
use Rattle.expanded_names.proofs.scope.Scope.unprefixed.Goals as goal

pub returns-in-Some : goal.returns-in-Some
returns-in-Some c = λ bindings holds. ap (λ said. unwrap_or said []) (c.in-Some.ensures ∙ ap (in_force c.args.self.now) chars-nil ∙ holds.unprefixed)

pub returns-in-None : goal.returns-in-None
returns-in-None c = λ bindings holds. chars-nil ∙ ap (λ said. unwrap_or said []) (c.in-None.ensures ∙ ap (in_force c.args.self.now) chars-nil ∙ holds.unprefixed)
