use Rattle.valid_sheets.proofs.Headers.{headers_valid}
use Rattle.valid_sheets.proofs.laws.headers_are_valid.Goals as goal

pub returns : goal.returns
returns c = headers_valid
