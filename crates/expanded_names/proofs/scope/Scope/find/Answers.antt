use Rattle.std.proofs.Common.{◌∙◌, sym, ap}
use Rattle.std.specs.Str.{chars}
use Rattle.expanded_names.specs.Scope.{unless_empty}
use Rattle.expanded_names.proofs.Scopes.{force_some, force_none}
use Rattle.expanded_names.proofs.scope.Scope.find.Goals as goal

pub returns-in-Some : goal.returns-in-Some
returns-in-Some c =
    force_some c.self.inside.bound.entries c.args.self.now c.args.prefix.now _ c.in-Some.namespace.now c.self.view_is c.utf8.prefix (sym c.in-Some.ensures.value)
    (c.unless_empty.ensures ∙ ap (λ text. unless_empty (chars text)) c.as_str.ensures.value)

pub returns-in-None : goal.returns-in-None
returns-in-None c = force_none c.self.inside.bound.entries c.args.self.now c.args.prefix.now c.self.view_is c.utf8.prefix (sym c.in-None.ensures.value)
