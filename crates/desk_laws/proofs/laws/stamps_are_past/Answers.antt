use Rattle.desk_laws.proofs.Stamps.{AreStampsPast-reached}
use Rattle.desk_laws.proofs.laws.stamps_are_past.Goals as goal

pub returns : goal.returns
returns c = AreStampsPast-reached
