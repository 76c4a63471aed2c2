-- What is left out in a note.
use Rattle.std.specs.Prelude.{◌+◌, ◌-◌, Bool, List, [], ◌++◌, map, filter, length, option_to_list}
use Rattle.markup_nodes.specs.declared.nodes.Turn.{Turn}
use Rattle.load_model.specs.declared.names.Tag.TheVariants as tag
use Rattle.load_model.specs.declared.element.Element.{Element}
use Rattle.load_model.specs.Blocks.{left_by}
use Rattle.load_model.specs.Left.{Left, only_elements, both, all_of, attributes_of, is, first}

-- the body that is read: the first
abbrev pub bodies : List Element → List Element
bodies elements = option_to_list (first tag.NoteBody elements)

abbrev pub citations : List Element → List Element
citations elements = filter (is tag.NoteCitation) elements

-- whether an element is a citation
abbrev pub is_citation : Turn Element → Bool
is_citation turn = is tag.NoteCitation turn.elem

-- the attributes of elements that have none with a rule
abbrev pub attributes_in : List Element → Left
attributes_in elements = all_of (map (λ element. left_by [] (attributes_of element)) elements)

-- what is left out among the elements of a note: those that aren't read, and the attributes of those that are
abbrev pub left_in : List Element → Left
left_in elements = both (only_elements (length elements - (length (bodies elements) + length (citations elements)))) (attributes_in (bodies elements ++ citations elements))
