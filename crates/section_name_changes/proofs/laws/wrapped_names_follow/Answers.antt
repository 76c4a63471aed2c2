use Rattle.section_name_changes.proofs.Wrapped.{wrapped_follow}
use Rattle.section_name_changes.proofs.laws.wrapped_names_follow.Goals as goal

pub returns : goal.returns
returns c = wrapped_follow
