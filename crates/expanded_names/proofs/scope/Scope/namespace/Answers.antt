use Rattle.std.proofs.Common.{sym, ap, Some}
use Rattle.expanded_names.proofs.Texts.{xml_characters}
use Rattle.expanded_names.proofs.scope.Scope.namespace.Goals as goal

pub returns-then-is : goal.returns-then-is
returns-then-is c = λ bindings holds. rw (sym c.if-is.ensures) (ap (λ text. Some text) xml_characters)
