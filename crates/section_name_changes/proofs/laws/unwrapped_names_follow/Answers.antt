use Rattle.section_name_changes.proofs.Unwrapped.{unwrapped_follow}
use Rattle.section_name_changes.proofs.laws.unwrapped_names_follow.Goals as goal

pub returns : goal.returns
returns c = unwrapped_follow
