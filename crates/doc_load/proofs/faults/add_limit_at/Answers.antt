use Rattle.std.proofs.Common.{◌++◌, ◌∙◌, List, ap}
use Rattle.load_model.specs.declared.offence.TreeOffence.{TreeOffence}
use Rattle.load_model.specs.Offences.{least}
use Rattle.doc_load.proofs.FaultLemmas.{one_limit}
use Rattle.doc_load.proofs.faults.add_limit_at.Goals as goal

pub returns : goal.returns
returns c = λ before root here known.
    c.add_all.ensures before known ∙ ap (λ (more : List TreeOffence). least (before ++ more)) (one_limit root c.args.limit c.args.places.now here)
