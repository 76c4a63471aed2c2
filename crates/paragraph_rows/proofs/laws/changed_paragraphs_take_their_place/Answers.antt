use Rattle.paragraph_rows.proofs.Located.{located}
use Rattle.paragraph_rows.proofs.laws.changed_paragraphs_take_their_place.Goals as goal

pub returns : goal.returns
returns c = located
