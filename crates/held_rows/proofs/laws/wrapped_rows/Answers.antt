use Rattle.held_rows.proofs.Wrap.{wrap_among}
use Rattle.held_rows.proofs.laws.wrapped_rows.Goals as goal

pub returns : goal.returns
returns c = wrap_among
