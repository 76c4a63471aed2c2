use Rattle.std.proofs.Common.{◌∙◌, [], refl}
use Rattle.read_values.proofs.Words.{same_text}
use Rattle.sheet_names.proofs.names.is_empty.Goals as goal

pub returns : goal.returns
returns c = c.eq.ensures ∙ same_text c.args.text.now [] refl c.utf8.text
