use Rattle.back_spaces.proofs.RawLemmas.{spaces_back}
use Rattle.back_spaces.proofs.laws.spaces_are_read_back.Goals as goal

pub returns : goal.returns
returns c = spaces_back
