use Rattle.edit_rules.proofs.Sections.{unwrapped_again}
use Rattle.edit_rules.proofs.laws.wrapped_blocks_are_unwrapped.Goals as goal

pub returns : goal.returns
returns c = unwrapped_again
