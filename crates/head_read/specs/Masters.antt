-- Masters as they were read.
use Rattle.std.specs.Prelude.{◌≡◌, ℕ, List, [], ◌++◌, map, option_to_list}
use Rattle.std.specs.List.{flat_map}
use Rattle.doc_model.specs.declared.page_layout.Master.{Master}
use Rattle.load_model.specs.declared.element.Element.{Element}
use Rattle.load_model.specs.declared.names.Tag.TheVariants as tag
use Rattle.load_model.specs.Headers as header
use Rattle.load_model.specs.Headers.{head_elements, head_of, head_paragraphs, master_left, masters_left}
use Rattle.load_model.specs.Left.{Left, both, all_of, all_but, only_attributes, attributes_of, children}
use Rattle.load_model.specs.Offences.{Counted, counted_heads, too_long}
use Rattle.load_model.specs.Styles.{Names, name_of, names_of}
use Rattle.load_model.specs.Values.{attributes_left}
use Rattle.element_parts.specs.Shown.{shown}
use Rattle.head_read.specs.declared.kept_masters.ReadMasters.{ReadMasters}
use Rattle.head_read.specs.Heads.{counted}
use Rattle.head_read.specs.Rules.{master_by}

-- what is left out in a part of masters, of which so many are kept: its attributes and other elements
abbrev pub part_left : ℕ → Element → Left
part_left kept part = both (only_attributes (attributes_left [] (attributes_of part))) (all_but kept (children part))

-- the master that an element is, if it has a name
abbrev pub masters_in : Names → Element → List Master
masters_in names element = map (λ name. master_by names.layouts names.masters element (head_paragraphs names tag.Header element) (head_paragraphs names tag.Footer element) name) (option_to_list (name_of element))

-- how many items the paragraphs of its header and its footer have
abbrev pub counted_in : Names → Element → List Counted
counted_in names element = flat_map (λ header. map (counted names) (head_elements header)) (option_to_list (head_of tag.Header element) ++ option_to_list (head_of tag.Footer element))

-- the masters of elements were read
pub record KeptAre (read : ReadMasters) (names : Names) (kept : List Element) : Type 0 where
  pub masters_are : read.masters ≡ flat_map (masters_in names) kept
  pub left_is : read.left ≡ shown (all_of (map (master_left names) kept))
  pub too_long_are : read.too_long.items ≡ too_long (flat_map (counted_in names) kept)

-- the masters of a tree were read, with what is left out in their part and the places of the paragraphs that are too long
pub record AreMasters (read : ReadMasters) (root : Element) : Type 0 where
  pub masters_are : read.masters ≡ header.masters (names_of root) root
  pub left_is : read.left ≡ shown (masters_left (names_of root) root)
  pub too_long_are : read.too_long.items ≡ too_long (counted_heads root)
