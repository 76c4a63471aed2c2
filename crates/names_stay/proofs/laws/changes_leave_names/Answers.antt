use Rattle.names_stay.proofs.Stay.{names_left}
use Rattle.names_stay.proofs.laws.changes_leave_names.Goals as goal

pub returns : goal.returns
returns c = λ doc change keeps. names_left change keeps doc
