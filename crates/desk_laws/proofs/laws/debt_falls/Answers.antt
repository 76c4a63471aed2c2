use Rattle.desk_laws.proofs.Runs.{IsKept-other}
use Rattle.desk_laws.proofs.Settles.{turn_lowers}
use Rattle.desk_laws.proofs.laws.debt_falls.Goals as goal

pub returns-clause-other : goal.returns-clause-other
returns-clause-other c = λ state command told. (IsKept-other state command told).debt

pub returns-clause-turned : goal.returns-clause-turned
returns-clause-turned c = turn_lowers
