use Rattle.name_facts.proofs.Found.{bookmark_there, reference_there, note_there}
use Rattle.name_facts.proofs.Sections.{section_there}
use Rattle.name_facts.proofs.laws.names_are_there.Goals as goal

pub returns : goal.returns
returns c = record { bookmark = bookmark_there; section = section_there; reference = reference_there; note = note_there }
