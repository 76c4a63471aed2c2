-- How many items a paragraph has.
use Rattle.std.specs.Prelude.{length}
use Rattle.doc_model.specs.declared.paragraph.Par.{Par}
use Rattle.doc_model.specs.Parts.{items_of}
use Rattle.doc_model.specs.Reading.{number_of}
use Rattle.load_model.specs.Offences.{Counted}

-- a paragraph with the number of its items, which has its number as its place
abbrev pub count_of : Par → Counted
count_of par = record { place = number_of par; items = length (items_of par) }
