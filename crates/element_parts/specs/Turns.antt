-- Elements with the characters behind them.
use Rattle.std.specs.Prelude.{List, find, Option, option_map}
use Rattle.markup_nodes.specs.declared.nodes.Turn.{Turn}
use Rattle.load_model.specs.declared.element.Element.{Element}
use Rattle.load_model.specs.declared.names.Tag.{Tag}
use Rattle.load_model.specs.Left.{is}

-- the first element of a tag among them
abbrev pub first_turn : Tag → List (Turn Element) → Option Element
first_turn wanted turns = option_map (λ turn. turn.elem) (find (λ turn. is wanted turn.elem) turns)
