use Rattle.section_rows.proofs.Set.{set_among}
use Rattle.section_rows.proofs.SetOne.{set_at}
use Rattle.section_rows.proofs.laws.set_rows.Goals as goal

pub returns : goal.returns
returns c = record { all = λ next name protected hidden doc. set_among name protected hidden doc.body; one = set_at }
