use Rattle.std.proofs.Common.{◌∙◌, ap}
use Rattle.std.specs.Str.{chars}
use Rattle.load_model.specs.Left.{is_one_of}
use Rattle.element_parts.proofs.Names.{found}
use Rattle.element_parts.proofs.name_set.NameSet.has.Goals as goal

pub returns : goal.returns
returns c = c.contains.ensures ∙ found c.self.inside.names.keys c.args.text.now c.utf8.text ∙ ap (λ names. is_one_of names (chars c.args.text.now)) c.self.view_is
