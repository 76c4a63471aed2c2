use Rattle.plain_doc.proofs.Passed.{first_passed-plain, length-with_changed, plain_passed-changed, ArePlainTexts-not_passed}
use Rattle.plain_doc.proofs.laws.plain_limits.Goals as goal

pub returns-clause-passed : goal.returns-clause-passed
returns-clause-passed c = first_passed-plain

pub returns-clause-changed : goal.returns-clause-changed
returns-clause-changed c = plain_passed-changed

pub returns-clause-within : goal.returns-clause-within
returns-clause-within c = ArePlainTexts-not_passed

pub returns-clause-lengths : goal.returns-clause-lengths
returns-clause-lengths c = length-with_changed
