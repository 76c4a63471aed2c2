use Rattle.number_text.proofs.CutLemmas.{cut_none}
use Rattle.field_walk.proofs.texts.push_nothing.Goals as goal

pub returns : goal.returns
returns c = cut_none c.args.out.now c.is_full-full.ensures.short
