use Rattle.page_style.proofs.Spelled.{spelling_says, enough, least}
use Rattle.page_style.proofs.lengths.spellings_are_read.Goals as goal

pub returns : goal.returns
returns c = record { read = spelling_says; enough = enough; least = least }
