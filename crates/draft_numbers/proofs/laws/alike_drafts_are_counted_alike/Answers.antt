use Rattle.draft_numbers.proofs.DraftLemmas.{counts_alike}
use Rattle.draft_numbers.proofs.laws.alike_drafts_are_counted_alike.Goals as goal

pub returns : goal.returns
returns c = counts_alike
