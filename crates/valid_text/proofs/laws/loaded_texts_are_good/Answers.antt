use Rattle.valid_text.proofs.Drafts.{drafts_good}
use Rattle.valid_text.proofs.laws.loaded_texts_are_good.Goals as goal

pub returns : goal.returns
returns c = drafts_good
