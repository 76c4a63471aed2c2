use Rattle.back_paragraphs.proofs.Lists.{pars_read}
use Rattle.back_paragraphs.proofs.laws.paragraphs_are_read_back.Goals as goal

pub returns : goal.returns
returns c = pars_read
