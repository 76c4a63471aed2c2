use Rattle.std.proofs.Common.{refl, sym}
use Rattle.std.proofs.lemmas.Str.{chars-nil}
use Rattle.expanded_names.proofs.parts.declared.Goals as goal

pub returns-then-is : goal.returns-then-is
returns-then-is c = λ value. rw (sym c.if-is.ensures, chars-nil) refl
