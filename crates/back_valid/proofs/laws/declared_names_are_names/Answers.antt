use Rattle.back_valid.proofs.Assembled.{sequences_named, variables_named}
use Rattle.back_valid.proofs.laws.declared_names_are_names.Goals as goal

pub returns : goal.returns
returns c = record { variables = variables_named; sequences = sequences_named }
