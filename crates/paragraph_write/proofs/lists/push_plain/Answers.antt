use Rattle.element_text.proofs.AddedLemmas.{added}
use Rattle.paragraph_write.proofs.lists.push_plain.Goals as goal

pub returns : goal.returns
returns c = added c.push_str.result c.args.out.now _ c.args.text.now c.push_str.ensures.bytes
