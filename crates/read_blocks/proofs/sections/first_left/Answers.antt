use Rattle.load_model.specs.Left.{nothing}
use Rattle.read_blocks.proofs.SectionLemmas.{first_shown}
use Rattle.read_blocks.proofs.sections.first_left.Goals as goal

pub returns-in-len1-up : goal.returns-in-len1-up
returns-in-len1-up c = λ all e. first_shown all c.args.sources.now c.first-item.result c.both.result e c.in-len1-up.len_at_least c.first-item.is (λ two is. c.both.ensures nothing two c.nothing-in-len1-up.ensures is)
