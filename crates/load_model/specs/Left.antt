-- What is left out as a file is read, and parts of elements that more than one place asks for.
use Rattle.std.specs.Prelude.{ℕ, ◌+◌, ◌-◌, ◌==◌, not, Bool, List, [], ◌∷◌, filter, find, fold, length, Option}
use Rattle.std.specs.List.{list_any}
use Rattle.std.specs.Str.{bytes_eq}
use Rattle.markup_nodes.specs.Nodes.{elems}
use Rattle.load_model.specs.declared.names.Tag.{Tag}
use Rattle.load_model.specs.declared.names.Tag.TheVariants as tag
use Rattle.load_model.specs.declared.element.Element.{Element, out-Element}
use Rattle.load_model.specs.declared.element.Attribute.{Attribute}

-- how many elements and attributes are left out
pub record Left : Type 0 where
  pub elements : ℕ
  pub attributes : ℕ

-- nothing is left out
abbrev pub nothing : Left
nothing = record { elements = 0; attributes = 0 }

-- so many elements alone are left out
abbrev pub only_elements : ℕ → Left
only_elements count = record { elements = count; attributes = 0 }

-- so many attributes alone are left out
abbrev pub only_attributes : ℕ → Left
only_attributes count = record { elements = 0; attributes = count }

-- what is left out in two places
abbrev pub both : Left → Left → Left
both one other = record { elements = one.elements + other.elements; attributes = one.attributes + other.attributes }

-- what is left out in some places
abbrev pub all_of : List Left → Left
all_of lefts = fold both nothing lefts

-- the elements that an element holds
abbrev pub children : Element → List Element
children element = elems (out-Element element).nodes

-- what an element is
abbrev pub tag_of : Element → Tag
tag_of element = (out-Element element).tag

-- the attributes of an element
abbrev pub attributes_of : Element → List Attribute
attributes_of element = (out-Element element).attributes

-- whether two tags are the same
abbrev pub is_same_tag : Tag → Tag → Bool
is_same_tag one other = number_of one == number_of other where
  number_of : Tag → ℕ
  number_of tag.Document = 0
  number_of tag.CommonStyles = 1
  number_of tag.AutomaticStyles = 2
  number_of tag.MasterStyles = 3
  number_of tag.Body = 4
  number_of tag.Text = 5
  number_of tag.DefaultStyle = 6
  number_of tag.Style = 7
  number_of tag.ParagraphProperties = 8
  number_of tag.TextProperties = 9
  number_of tag.PageLayout = 10
  number_of tag.PageLayoutProperties = 11
  number_of tag.MasterPage = 12
  number_of tag.Header = 13
  number_of tag.Footer = 14
  number_of tag.ListStyle = 15
  number_of tag.OutlineStyle = 16
  number_of tag.NumberLevel = 17
  number_of tag.BulletLevel = 18
  number_of tag.OutlineLevel = 19
  number_of tag.VariableDeclarations = 20
  number_of tag.VariableDeclaration = 21
  number_of tag.SequenceDeclarations = 22
  number_of tag.SequenceDeclaration = 23
  number_of tag.Paragraph = 24
  number_of tag.Heading = 25
  number_of tag.List = 26
  number_of tag.ListItem = 27
  number_of tag.ListHeader = 28
  number_of tag.Section = 29
  number_of tag.SectionSource = 30
  number_of tag.Index = 31
  number_of tag.Span = 32
  number_of tag.Spaces = 33
  number_of tag.Tab = 34
  number_of tag.LineBreak = 35
  number_of tag.Note = 36
  number_of tag.NoteCitation = 37
  number_of tag.NoteBody = 38
  number_of tag.Sequence = 39
  number_of tag.VariableSet = 40
  number_of tag.VariableGet = 41
  number_of tag.Chapter = 42
  number_of tag.PageNumber = 43
  number_of tag.PageCount = 44
  number_of tag.BookmarkReference = 45
  number_of tag.SequenceReference = 46
  number_of tag.NoteReference = 47
  number_of tag.Bookmark = 48
  number_of tag.BookmarkStart = 49
  number_of tag.BookmarkEnd = 50
  number_of tag.RubyText = 51
  number_of tag.Table = 52
  number_of tag.Foreign = 53
  number_of tag.Other = 54

-- whether an element is of a tag
abbrev pub is : Tag → Element → Bool
is wanted element = is_same_tag (tag_of element) wanted

-- the first element of a tag among some
abbrev pub first : Tag → List Element → Option Element
first wanted elements = find (is wanted) elements

-- of things that may be the same, the first ones
abbrev pub firsts : {X : Type 0} → (X → X → Bool) → List X → List X
firsts same [] = []
firsts same (x ∷ xs) = x ∷ filter (λ other. not (same x other)) (firsts same xs)

-- so many elements, of which so many are read: the others are left out
abbrev pub all_but : ℕ → List Element → Left
all_but read elements = only_elements (length elements - read)

-- an element in which no other has a rule
abbrev pub leaf_left : Element → Left
leaf_left element = all_but 0 (children element)

-- whether a name is one of these
abbrev pub is_one_of : List (List ℕ) → List ℕ → Bool
is_one_of names name = list_any (λ other. bytes_eq other name) names
