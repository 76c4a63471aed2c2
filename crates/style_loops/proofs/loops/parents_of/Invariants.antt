use Rattle.std.proofs.Common.{◌≡◌, List, map, take}
use Rattle.doc_model.specs.declared.style.Style.{Style}
use Rattle.style_loops.specs.Loops.{parent_in}
use Rattle.style_loops.specs.Places.{Has}
use Rattle.style_loops.proofs.loops.parents_of.Given as goal

abbrev pub invariant-loop-style : goal.invariant-loop-style
invariant-loop-style l = (all : List Style) → Has l.places all → l.parents.items ≡ map (parent_in all) (take l.style-index l.styles)
