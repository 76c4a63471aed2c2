use Rattle.number_text.proofs.CutLemmas.{cut_none}
use Rattle.page_print.proofs.fields.push_nothing.Goals as goal

pub returns : goal.returns
returns c = cut_none c.args.out.now c.is_full-full.ensures.short
