use Rattle.section_rows.proofs.Unwrapped.{unwrapped_among}
use Rattle.section_rows.proofs.laws.unwrapped_rows.Goals as goal

pub returns : goal.returns
returns c = unwrapped_among
