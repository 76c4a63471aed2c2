use Rattle.read_values.proofs.LengthTexts.{length_same}
use Rattle.read_values.proofs.lengths.length.Goals as goal

pub returns : goal.returns
returns c = length_same c.args.text.now c.length.result c.utf8.text c.length.ensures.said c.length.ensures.read c.length.ensures.beyond
