use Rattle.draft_numbers.proofs.DraftLemmas.{numbers_alike, numbered_alike}
use Rattle.draft_numbers.proofs.laws.alike_drafts_are_numbered_alike.Goals as goal

pub returns-clause-numbers : goal.returns-clause-numbers
returns-clause-numbers c = numbers_alike

pub returns-clause-numbered : goal.returns-clause-numbered
returns-clause-numbered c = numbered_alike
