use Rattle.plain_doc.proofs.Valid.{IsValid-plain, ArePlainTexts-valid}
use Rattle.plain_doc.proofs.laws.plain_validity.Goals as goal

pub returns-clause-valid : goal.returns-clause-valid
returns-clause-valid c = IsValid-plain

pub returns-clause-limits : goal.returns-clause-limits
returns-clause-limits c = ArePlainTexts-valid
