use Rattle.std.proofs.Common.{refl}
use Rattle.std.proofs.lemmas.Str.{chars-nil}
use Rattle.expanded_names.proofs.names.attribute_namespace.Goals as goal

pub returns-in-None : goal.returns-in-None
returns-in-None c = λ bindings holds. rw (c.in-None.is, chars-nil) refl
