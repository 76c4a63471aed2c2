use Rattle.key_parts.proofs.Stated.{found}
use Rattle.key_parts.proofs.laws.displays_say_what_styles_state.Goals as goal

pub returns : goal.returns
returns c = found
