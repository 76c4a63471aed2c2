use Rattle.std.proofs.Common.{[], ◌∙◌}
use Rattle.doc_load.proofs.FaultLemmas.{first_is}
use Rattle.doc_load.proofs.loading.first_names.Goals as goal

pub returns : goal.returns
returns c = λ places first rise. c.add_rising.ensures [] places c.none-first.ensures rise (first ∙ first_is places)
