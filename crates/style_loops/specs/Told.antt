-- What is told of styles.
use Rattle.std.specs.Prelude.{◌≡◌, List, map}
use Rattle.doc_model.specs.declared.style.Style.{Style}
use Rattle.style_loops.specs.declared.loops.StyleLoops.{StyleLoops}
use Rattle.style_loops.specs.Loops.{loops}
use Rattle.style_loops.specs.Places.{Has}

-- of each style it is told whether it is its own ancestor
pub record Tells (found : StyleLoops) (styles : List Style) : Type 0 where
  pub places : Has found.places styles
  pub flags : found.looped.items ≡ map (loops styles) styles
