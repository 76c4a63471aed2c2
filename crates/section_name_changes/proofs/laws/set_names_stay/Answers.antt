use Rattle.section_name_changes.proofs.Set.{set_follow}
use Rattle.section_name_changes.proofs.laws.set_names_stay.Goals as goal

pub returns : goal.returns
returns c = set_follow
