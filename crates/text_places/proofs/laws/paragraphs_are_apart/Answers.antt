use Rattle.text_places.proofs.Apart.{numbers_apart}
use Rattle.text_places.proofs.laws.paragraphs_are_apart.Goals as goal

pub returns : goal.returns
returns c = numbers_apart
