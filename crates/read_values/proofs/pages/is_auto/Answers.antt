use Rattle.std.proofs.Common.{◌∙◌, codes, refl}
use Rattle.read_values.proofs.Words.{same_text}
use Rattle.read_values.proofs.pages.is_auto.Goals as goal

pub returns : goal.returns
returns c = c.eq.ensures ∙ same_text c.args.text.now (codes "auto") refl c.utf8.text
