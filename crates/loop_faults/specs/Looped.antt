-- Styles of a part that are their own ancestors.
use Rattle.std.specs.Prelude.{ℕ, Bool, false, List}
use Rattle.std.specs.List.{list_any}
use Rattle.std.specs.Option.{option_map_or}
use Rattle.doc_model.specs.declared.style.Style.{Style}
use Rattle.load_model.specs.Offences.{place_if, place_of}
use Rattle.load_model.specs.Styles.{InPart, style_name}
use Rattle.style_loops.specs.Loops.{loops}
use Rattle.style_model.specs.Lineage.{style_named}

-- whether the style of the family and name that an element states is its own ancestor
abbrev pub is_looped : List Style → InPart → Bool
is_looped styles in_part = list_any (λ one. option_map_or (loops styles) (style_named styles one.family one.name) false) (style_name in_part.element)

-- its place, if it is
abbrev pub looped_at : List Style → InPart → List ℕ
looped_at styles in_part = place_if (is_looped styles in_part) (place_of in_part.element)
