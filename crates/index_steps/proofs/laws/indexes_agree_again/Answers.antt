use Rattle.index_steps.proofs.Steps.{agree_again}
use Rattle.index_steps.proofs.NewNumbers.{none_lead}
use Rattle.index_steps.proofs.laws.indexes_agree_again.Goals as goal

pub returns : goal.returns
returns c = record { redirected = agree_again; new = none_lead }
