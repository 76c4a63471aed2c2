-- What is read of written elements, where all is kept that has a name of its own. Each has the place 0, so its own place is kept.
use Rattle.std.specs.Prelude.{[], ◌∷◌, List}
use Rattle.markup_nodes.specs.declared.tree.Elem.{Elem}
use Rattle.markup_nodes.specs.Node.{Node, Element, Char}
use Rattle.load_model.specs.Blocks.{Known, Gives, ReadContent, gives_of}
use Rattle.load_model.specs.Content.{Raw}
use Rattle.load_model.specs.Left.{nothing}
use Rattle.load_model.specs.Styles.{Names}
use Rattle.back_names.specs.Named.{named}

-- what is known where the names are these, and whatever stands at the place 0 is kept
abbrev pub all_kept : Names → Known
all_kept names = record { names = names; kept = record { sections = 0 ∷ []; marks = 0 ∷ []; notes = 0 ∷ []; references = 0 ∷ [] } }

-- what a written node gives
abbrev pub given : Names → Node Elem → Node Gives
given names (Element elem) = Element (gives_of (all_kept names) (named elem))
given names (Char c) = Char c

-- what is read with nothing left out
abbrev pub whole : List Raw → ReadContent
whole raws = record { raws = raws; left = nothing }
