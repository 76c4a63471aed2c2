use Rattle.desk_laws.proofs.Runs.{OwesAtMost-reached}
use Rattle.desk_laws.proofs.Settles.{settled, turns_made}
use Rattle.desk_laws.proofs.SettleCommands.{settle_commands}
use Rattle.desk_laws.proofs.laws.settling_ends.Goals as goal

pub returns-clause-settled : goal.returns-clause-settled
returns-clause-settled c = settled

pub returns-clause-turns : goal.returns-clause-turns
returns-clause-turns c = turns_made

pub returns-clause-bound : goal.returns-clause-bound
returns-clause-bound c = OwesAtMost-reached

pub returns-clause-commands : goal.returns-clause-commands
returns-clause-commands c = settle_commands
