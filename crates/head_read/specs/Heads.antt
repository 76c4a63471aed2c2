-- The paragraphs of headers and footers as they were read.
use Rattle.std.specs.Prelude.{◌≡◌, List, map, length}
use Rattle.std.specs.List.{flat_map}
use Rattle.load_model.specs.declared.element.Element.{Element}
use Rattle.load_model.specs.Headers.{head_elements, head_left, head_paragraph, header_left}
use Rattle.load_model.specs.Left.{all_of}
use Rattle.load_model.specs.Offences.{Counted, place_of, too_long}
use Rattle.load_model.specs.Styles.{Names}
use Rattle.element_parts.specs.Shown.{shown}
use Rattle.head_read.specs.declared.paragraphs.Heads.{Heads}

-- how many items a paragraph of a header has, with its place
abbrev pub counted : Names → Element → Counted
counted names element = record { place = place_of element; items = length (head_paragraph names element).items }

-- the paragraphs that elements are were read, with what is left out in them and the places of those that are too long
pub record ParagraphsAre (read : Heads) (names : Names) (elements : List Element) : Type 0 where
  pub pars_are : read.pars ≡ map (head_paragraph names) elements
  pub left_is : read.left ≡ shown (all_of (map (head_left names) elements))
  pub too_long_are : read.too_long.items ≡ too_long (map (counted names) elements)

-- the paragraphs of headers were read, with what is left out in the headers and the places of those that are too long
pub record HeadersAre (read : Heads) (names : Names) (headers : List Element) : Type 0 where
  pub pars_are : read.pars ≡ flat_map (λ header. map (head_paragraph names) (head_elements header)) headers
  pub left_is : read.left ≡ shown (all_of (map (header_left names) headers))
  pub too_long_are : read.too_long.items ≡ too_long (flat_map (λ header. map (counted names) (head_elements header)) headers)
