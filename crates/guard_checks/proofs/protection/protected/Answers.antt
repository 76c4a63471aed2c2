use Rattle.std.proofs.Common.{ap, sym, ◌∙◌}
use Rattle.edit_rules.specs.Refusals.{protected}
use Rattle.guard_checks.proofs.Firsts.{nothing_refuses}
use Rattle.guard_checks.proofs.protection.protected.Goals as goal

pub returns-in-SetSection : goal.returns-in-SetSection
returns-in-SetSection c = λ doc same named. nothing_refuses doc ∙ ap (protected doc) (sym c.in-SetSection.is)

pub returns-in-DefineStyle : goal.returns-in-DefineStyle
returns-in-DefineStyle c = λ doc same named. nothing_refuses doc ∙ ap (protected doc) (sym c.in-DefineStyle.is)

pub returns-in-RemoveStyle : goal.returns-in-RemoveStyle
returns-in-RemoveStyle c = λ doc same named. nothing_refuses doc ∙ ap (protected doc) (sym c.in-RemoveStyle.is)

pub returns-in-SetParent : goal.returns-in-SetParent
returns-in-SetParent c = λ doc same named. nothing_refuses doc ∙ ap (protected doc) (sym c.in-SetParent.is)

pub returns-in-SetProp : goal.returns-in-SetProp
returns-in-SetProp c = λ doc same named. nothing_refuses doc ∙ ap (protected doc) (sym c.in-SetProp.is)

pub returns-in-AddDecl : goal.returns-in-AddDecl
returns-in-AddDecl c = λ doc same named. nothing_refuses doc ∙ ap (protected doc) (sym c.in-AddDecl.is)
