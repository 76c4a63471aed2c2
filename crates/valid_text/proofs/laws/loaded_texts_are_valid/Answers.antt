use Rattle.valid_text.proofs.Valid.{drafts_valid}
use Rattle.valid_text.proofs.laws.loaded_texts_are_valid.Goals as goal

pub returns : goal.returns
returns c = drafts_valid
