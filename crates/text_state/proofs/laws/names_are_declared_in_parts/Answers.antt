use Rattle.text_state.proofs.Declared.{declared}
use Rattle.text_state.proofs.laws.names_are_declared_in_parts.Goals as goal

pub returns : goal.returns
returns c = declared
