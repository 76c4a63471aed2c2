use Rattle.desk_laws.proofs.Asked.{asked}
use Rattle.desk_laws.proofs.LastRound.{keys_stay, last_round_kept}
use Rattle.desk_laws.proofs.laws.kept_lines_stay.Goals as goal

pub returns-clause-change : goal.returns-clause-change
returns-clause-change c = keys_stay

pub returns-clause-job : goal.returns-clause-job
returns-clause-job c = λ state job told. let is = asked state job told in (is.live, is.found, is.fresh)

pub returns-clause-done : goal.returns-clause-done
returns-clause-done c = last_round_kept
