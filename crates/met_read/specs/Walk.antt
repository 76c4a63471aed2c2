-- What an element gives where it stands.
use Rattle.std.specs.Prelude.{◌≡◌, ℕ, ◌++◌, Bool, false, not, List, map, Option}
use Rattle.markup_nodes.specs.Nodes.{elems}
use Rattle.load_model.specs.declared.names.Key.{Key}
use Rattle.load_model.specs.declared.names.Tag.{Tag}
use Rattle.load_model.specs.declared.names.Tag.TheVariants as tag
use Rattle.load_model.specs.declared.element.Element.{Element, out-Element}
use Rattle.load_model.specs.Met as met
use Rattle.load_model.specs.Met.{Met, Where, Gives, gives_of, each}
use Rattle.load_model.specs.Values as value
use Rattle.load_model.specs.Values.{stated}
use Rattle.met_read.specs.declared.things.Met.{Met as Read}
use Rattle.met_read.specs.declared.walk.Here.{Here}
use Rattle.met_read.specs.declared.walk.Part.{Part}
use Rattle.met_read.specs.declared.walk.Part.TheVariants as part
use Rattle.met_read.specs.Read.{last, met_of, outlined}

-- the text, the list and the innermost section of a place
pub record Stands (here : Here) (at : Where) : Type 0 where
  pub text : here.text ≡ at.text
  pub in_list : here.in_list ≡ at.in_list
  pub section : here.section ≡ last at.sections

-- what is kept of what is met, and then of more
abbrev pub HasMore : List Read → List Read → List Met → Type 0
HasMore old new more = map met_of new ≡ map met_of old ++ map outlined more

-- the same of what is met here
abbrev pub HasMoreAt : Here → List Read → List Read → (Where → List Met) → Type 0
HasMoreAt here old new more = (at : Where) → Stands here at → HasMore old new (more at)

-- what is given where blocks, entries of lists or the content of paragraphs are read
abbrev pub given : Part → Gives → Where → List Met
given part.Blocks gives = gives.blocks
given part.Entries gives = gives.entry
given part.Content gives = gives.content

-- what an element gives
abbrev pub given_in : Part → Element → Where → List Met
given_in part element = given part (gives_of element)

-- what the elements that an element holds give
abbrev pub held : Element → List Gives
held element = map gives_of (elems (out-Element element).nodes)

-- what they give one after another
abbrev pub inside : Part → Element → Where → List Met
inside part element at = each (given part) at (held element)

-- the name that an attribute of an element states
abbrev pub name_in : Key → Element → Option (List ℕ)
name_in wanted element = stated wanted value.name (out-Element element).attributes

-- whether the content of a paragraph goes on in an element: one without a rule that isn't dropped
abbrev pub is_passed : Tag → Bool
is_passed tag.Spaces = false
is_passed tag.Tab = false
is_passed tag.LineBreak = false
is_passed tag.Chapter = false
is_passed tag.PageNumber = false
is_passed tag.PageCount = false
is_passed tag.BookmarkReference = false
is_passed tag.SequenceReference = false
is_passed tag.NoteReference = false
is_passed other = not (met.is_dropped other)
