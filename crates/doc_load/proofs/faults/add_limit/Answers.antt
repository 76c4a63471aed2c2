use Rattle.std.proofs.Common.{◌++◌, ◌∙◌, List, ap}
use Rattle.std.specs.Prelude.{option_to_list}
use Rattle.load_model.specs.declared.offence.TreeOffence.{TreeOffence}
use Rattle.load_model.specs.Offences.{least}
use Rattle.doc_load.proofs.FaultLemmas.{one_limit}
use Rattle.doc_load.proofs.faults.add_limit.Goals as goal

pub returns : goal.returns
returns c = λ before root here known.
    c.add_at.ensures before known ∙ ap (λ (more : List TreeOffence). least (before ++ more)) (one_limit root c.args.limit (option_to_list c.args.place) here)
