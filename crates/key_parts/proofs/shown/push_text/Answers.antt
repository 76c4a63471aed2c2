use Rattle.key_parts.proofs.Texts.{appended}
use Rattle.key_parts.proofs.shown.push_text.Goals as goal

pub returns : goal.returns
returns c = appended c.push_str.result _ _ c.get.result.now c.args.text.now c.push_str.ensures.bytes c.get.utf8 c.get.ensures
