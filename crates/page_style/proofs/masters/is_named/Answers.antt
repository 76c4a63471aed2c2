use Rattle.std.proofs.Common.{◌∙◌, ap}
use Rattle.std.specs.Str.{bytes_eq, chars}
use Rattle.page_style.proofs.Names.{same_as_characters}
use Rattle.page_style.proofs.masters.is_named.Goals as goal

pub returns : goal.returns
returns c = c.eq.ensures ∙ same_as_characters c.get.result.now c.args.text.now c.get.utf8 c.utf8.text ∙ ap (λ name. bytes_eq name (chars c.args.text.now)) c.get.ensures
