use Rattle.desk_laws.proofs.Runs.{next-all}
use Rattle.desk_laws.proofs.laws.next_number_never_falls.Goals as goal

pub returns : goal.returns
returns c = next-all
