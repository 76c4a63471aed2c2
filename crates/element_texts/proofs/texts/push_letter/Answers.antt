use Rattle.markup_nodes.proofs.WordLemmas.{grown, char_alone}
use Rattle.element_texts.proofs.texts.push_letter.Goals as goal

pub returns : goal.returns
returns c = grown c.push.result c.args.text.now _ _ _ c.push.ensures.bytes (char_alone c.args.c c.ranges.c.0)
