-- What is left out, as it is shown.
use Rattle.load_model.specs.Left.{Left}
use Rattle.load_model.specs.Loaded.{counted}
use Rattle.element_parts.specs.declared.left.LeftOut.{LeftOut}

-- what is left out, where each count stops at the greatest number of 32 bits
abbrev pub shown : Left → LeftOut
shown left = record { elements = counted left.elements; attributes = counted left.attributes }
