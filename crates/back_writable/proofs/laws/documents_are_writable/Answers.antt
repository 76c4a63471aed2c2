use Rattle.back_writable.proofs.Root.{written_fits}
use Rattle.back_writable.proofs.laws.documents_are_writable.Goals as goal

pub returns : goal.returns
returns c = record { legal = λ doc valid. (written_fits doc valid).0; low = λ doc valid. (written_fits doc valid).1 }
