-- Styles that are their own ancestors.
use Rattle.std.specs.Prelude.{ℕ, ◌≤◌, Bool, List, Option, position, length, filter}
use Rattle.doc_model.specs.declared.style.Family.{Family}
use Rattle.doc_model.specs.declared.style.Style.{Style}
use Rattle.style_model.specs.Lineage.{is_named, would_loop}

-- no two styles have one family and name
abbrev pub AreDistinct : List Style → Type 0
AreDistinct styles = (of : Family) (name : List ℕ) → length (filter (is_named of name) styles) ≤ 1

-- the place of a style's parent among some styles
abbrev pub parent_in : List Style → Style → Option ℕ
parent_in styles style = position (is_named style.family style.parent) styles

-- whether a style is its own ancestor
abbrev pub loops : List Style → Style → Bool
loops styles style = would_loop styles style.family style.name style.parent
