-- What parts of the root hold.
use Rattle.std.specs.Prelude.{Bool, ◌||◌, List, map, filter}
use Rattle.load_model.specs.declared.element.Element.{Element}
use Rattle.load_model.specs.declared.names.Tag.TheVariants as tag
use Rattle.markup_nodes.specs.declared.nodes.Turn.{Turn}
use Rattle.load_model.specs.Left.{is, is_same_tag, tag_of, children, firsts}
use Rattle.load_model.specs.Styles.{InPart}
use Rattle.sheet_kept.specs.declared.held.InPart.{InPart as Lent}

-- an element that a part holds, as it is seen
abbrev pub seen : Lent → InPart
seen one = record { auto = one.auto; element = one.element.now }

-- what a part holds
abbrev pub held_by : Element → List InPart
held_by part = map (λ element. record { auto = is tag.AutomaticStyles part; element = element }) (children part)

-- an element of a part with the characters behind it, as what the part holds
abbrev pub held_turn : Bool → Turn Element → InPart
held_turn is_auto turn = record { auto = is_auto; element = turn.elem }

-- the style parts that are read among some elements: the first one of each kind
abbrev pub parts_of : List Element → List Element
parts_of elements = firsts (λ one other. is_same_tag (tag_of one) (tag_of other)) (filter (λ part. is tag.CommonStyles part || is tag.AutomaticStyles part) elements)
