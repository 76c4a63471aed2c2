use Rattle.back_heads.proofs.Headers.{header_back}
use Rattle.back_heads.proofs.laws.headers_are_read_back.Goals as goal

pub returns : goal.returns
returns c = header_back
