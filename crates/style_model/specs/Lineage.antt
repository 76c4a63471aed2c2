-- A style with its ancestors, and the place of a style in the list of styles.
use Rattle.std.specs.Prelude.{◌≡◌, ℕ, ◌&&◌, Bool, true, false, List, [], ◌∷◌, map, length, find, slice_get, Option, Some, zero, suc}
use Rattle.std.specs.List.{list_any}
use Rattle.std.specs.Option.{option_map, option_map_or}
use Rattle.std.specs.Str.{bytes_eq}
use Rattle.doc_model.specs.declared.style.Family.{Family}
use Rattle.doc_model.specs.declared.style.Family.TheVariants as family
use Rattle.doc_model.specs.declared.style.Style.{Style}

-- whether two families are the same
abbrev pub is_same_family : Family → Family → Bool
is_same_family family.Paragraph family.Paragraph = true
is_same_family family.Text family.Text = true
is_same_family family.Section family.Section = true
is_same_family _ _ = false

-- whether a style has this family and name
abbrev pub is_named : Family → List ℕ → Style → Bool
is_named of name style = is_same_family style.family of && bytes_eq style.name name

-- the style of a family and name, if there is one
abbrev pub style_named : List Style → Family → List ℕ → Option Style
style_named styles of name = find (is_named of name) styles

-- at this place of the list, counted from 0, stands a style of this family and name
abbrev pub StandsAt : List Style → Family → List ℕ → ℕ → Type 0
StandsAt styles of name place = option_map (is_named of name) (slice_get styles place) ≡ Some true

-- a style and its ancestors, at most so many
abbrev pub lineage_of : ℕ → List Style → Family → List ℕ → List Style
lineage_of zero styles of name = []
lineage_of (suc most) styles of name = option_map_or (λ style. style ∷ lineage_of most styles of style.parent) (style_named styles of name) []

-- a style and its ancestors, the nearest first. No style is its own ancestor, so they are at most as many as there are styles
abbrev pub lineage : List Style → Family → List ℕ → List Style
lineage styles of name = lineage_of (length styles) styles of name

-- the names that are met from a name on, each being the parent that the style of the name before has
abbrev pub names_met : List Style → Family → List ℕ → List (List ℕ)
names_met styles of name = name ∷ map (λ style. style.parent) (lineage styles of name)

-- whether a style of this family and name that has this parent would be its own ancestor
abbrev pub would_loop : List Style → Family → List ℕ → List ℕ → Bool
would_loop styles of name parent = list_any (λ met. bytes_eq met name) (names_met styles of parent)
