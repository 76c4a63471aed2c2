-- Two texts are the same by their bytes where they are by their characters.
use Rattle.markup_parts.proofs.BytesLemmas.{texts_test}
use Rattle.markup_parts.proofs.text.is_word.Goals as goal

pub returns : goal.returns
returns c = cc (texts_test c.args.text.now c.args.word.now c.utf8.text c.utf8.word)
