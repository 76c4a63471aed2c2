-- What stands in a text where it is read: marks and sections have names, and sections stand outside of lists and notes.
use Rattle.std.specs.Prelude.{Bool, true, false, ◌&&◌, ◌||◌, not, if◌then◌else◌, List, [], ◌∷◌, is_some}
use Rattle.std.specs.List.{list_all}
use Rattle.markup_nodes.specs.Nodes.{elems}
use Rattle.load_model.specs.declared.names.Key.{Key}
use Rattle.load_model.specs.declared.names.Key.TheVariants as key
use Rattle.load_model.specs.declared.names.Tag.{Tag}
use Rattle.load_model.specs.declared.names.Tag.TheVariants as tag
use Rattle.load_model.specs.declared.element.Attribute.{Attribute}
use Rattle.load_model.specs.declared.element.Element.{Element}
use Rattle.load_model.specs.declared.element.Element.TheOpen.{Element-F}
use Rattle.load_model.specs.declared.element.Element.TheFolds.{fold-Element}
use Rattle.load_model.specs.Left.{is_same_tag}
use Rattle.load_model.specs.Values as value
use Rattle.load_model.specs.Values.{is_same_key, stated}

-- whether an element is in place with all in it: where the content of a paragraph is read, where entries of a list are, and where blocks are, by whether sections are read there
pub record Standing : Type 0 where
  pub tag : Tag
  pub content : Bool
  pub entry : Bool
  pub blocks : Bool → Bool
  pub inside : Bool → Bool

-- whether a name is stated
abbrev pub has_name : Key → List Attribute → Bool
has_name wanted attributes = is_some (stated wanted value.name attributes)

-- whether a name is stated, or no attribute could state it
abbrev pub has_name_or_none : Key → List Attribute → Bool
has_name_or_none wanted attributes = has_name wanted attributes || list_all (λ attribute. not (is_same_key attribute.key wanted)) attributes

-- the first of a tag
abbrev pub first_standing : Tag → List Standing → List Standing
first_standing wanted [] = []
first_standing wanted (one ∷ more) = if is_same_tag one.tag wanted then one ∷ [] else first_standing wanted more

-- where the content of a paragraph is read
abbrev pub content_stands : Tag → List Attribute → List Standing → Bool
content_stands tag.Note attributes held = has_name_or_none key.Id attributes && list_all (λ one. one.inside false) (first_standing tag.NoteBody held)
content_stands tag.Bookmark attributes held = has_name key.TextName attributes
content_stands tag.BookmarkStart attributes held = has_name key.TextName attributes
content_stands tag.BookmarkEnd attributes held = has_name key.TextName attributes
content_stands tag.Sequence attributes held = has_name_or_none key.ReferenceName attributes
content_stands _ attributes held = list_all (λ one. one.content) held

-- where blocks are read, and sections or not
abbrev pub blocks_stand : Tag → List Attribute → List Standing → Bool → Bool
blocks_stand tag.Paragraph attributes held sections = list_all (λ one. one.content) held
blocks_stand tag.Heading attributes held sections = list_all (λ one. one.content) held
blocks_stand tag.List attributes held sections = list_all (λ one. one.entry) held
blocks_stand tag.Section attributes held sections = sections && (has_name key.TextName attributes && list_all (λ one. one.blocks sections) held)
blocks_stand tag.Index attributes held sections = list_all (λ one. one.blocks sections) held
blocks_stand _ attributes held sections = true

-- an element
abbrev pub standing : Element → Standing
standing = fold-Element Standing of_element where
  of_element : Element-F Standing → Standing
  of_element element = record {
    tag = element.tag;
    content = content_stands element.tag element.attributes (elems element.nodes);
    entry = list_all (λ one. one.blocks false) (elems element.nodes);
    blocks = blocks_stand element.tag element.attributes (elems element.nodes);
    inside = λ sections. list_all (λ one. one.blocks sections) (elems element.nodes);
  }
