use Rattle.std.proofs.Common.{◌∙◌}
use Rattle.expanded_names.proofs.Texts.{is_word}
use Rattle.expanded_names.proofs.parts.is.Goals as goal

pub returns : goal.returns
returns c = c.eq.ensures ∙ is_word c.args.text.now c.args.word.now c.utf8.text c.requires
