-- The rules of a style and what it states, by the names that can be referred to: those of the styles of its family, and those of masters.
use Rattle.std.specs.Prelude.{ℕ, Bool, if◌then◌else◌, List, [], ◌∷◌, Option, Some}
use Rattle.std.specs.Str.{bytes_eq}
use Rattle.doc_model.specs.declared.style.Family.{Family}
use Rattle.doc_model.specs.declared.style.Style.{Style}
use Rattle.load_model.specs.declared.names.Key.TheVariants as key
use Rattle.load_model.specs.declared.element.Element.{Element}
use Rattle.load_model.specs.Left.{Left, both, only_attributes, attributes_of}
use Rattle.load_model.specs.Styles.{reference, style_properties, properties_left}
use Rattle.load_model.specs.Values as value
use Rattle.load_model.specs.Values.{Rule, rule, stated, stated_or, attributes_left}

-- the master that a style states
abbrev pub master_among : List (List ℕ) → List ℕ → Option (List ℕ)
master_among masters text = if bytes_eq text [] then Some [] else reference masters text

-- the rules of a style
abbrev pub rules_by : List (List ℕ) → List (List ℕ) → List Rule
rules_by styles masters =
    rule key.Name value.name ∷ rule key.Family value.family_of_text ∷ rule key.Parent (reference styles)
    ∷ rule key.Next (reference styles) ∷ rule key.Master (master_among masters) ∷ rule key.DefaultOutlineLevel value.level ∷ []

-- a style, with its family and name
abbrev pub style_by : List (List ℕ) → List (List ℕ) → Bool → Family → List ℕ → Element → Style
style_by styles masters auto of name element = record {
  family = of;
  name = name;
  auto = auto;
  parent = stated_or key.Parent (reference styles) [] (attributes_of element);
  next = stated_or key.Next (reference styles) [] (attributes_of element);
  master = stated key.Master (master_among masters) (attributes_of element);
  outline = stated_or key.DefaultOutlineLevel value.level 0 (attributes_of element);
  props = style_properties of element;
}

-- what is left out in a style of a family
abbrev pub left_by : List (List ℕ) → List (List ℕ) → Family → Element → Left
left_by styles masters of element = both (only_attributes (attributes_left (rules_by styles masters) (attributes_of element))) (properties_left of element)
