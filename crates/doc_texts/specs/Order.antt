-- Paragraphs that come in the order in which they are gathered.
use Rattle.std.specs.Prelude.{List, [], ◌∷◌}
use Rattle.field_model.specs.Gathered.{GatheredPar, events, IsNext}

-- each paragraph may be gathered behind those before it. The last one stands in front
abbrev pub AreNext : List GatheredPar → Type 0
AreNext [] = Unit {0}
AreNext (par ∷ before) = IsNext par.place (events before) × AreNext before
