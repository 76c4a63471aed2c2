-- The texts of bodies.
use Rattle.std.specs.Prelude.{◌≡◌, ℕ, ◌++◌, Bool, List, map, filter}
use Rattle.std.specs.List.{list_any}
use Rattle.load_model.specs.declared.element.Element.{Element}
use Rattle.load_model.specs.declared.names.Tag.{Tag}
use Rattle.load_model.specs.declared.names.Tag.TheVariants as tag
use Rattle.load_model.specs.Left.{is, children}
use Rattle.load_model.specs.Offences.{further, place_of}

-- whether one of the bodies among elements has a text
abbrev pub has_text : List Element → Bool
has_text elements = list_any (λ body. list_any (is tag.Text) (children body)) (filter (is tag.Body) elements)

-- the places of further elements of a tag behind others, and whether one is met
pub record Goes (wanted : Tag) (elements : List Element) (old new : List ℕ) (met : Bool) : Type 0 where
  pub places : new ≡ old ++ map place_of (further wanted elements)
  pub any : met ≡ list_any (is wanted) elements
