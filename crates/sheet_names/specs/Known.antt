-- The names that can be referred to.
use Rattle.std.specs.Prelude.{◌≡◌, ℕ, if◌then◌else◌, List, [], ◌∷◌, ◌++◌, map, filter}
use Rattle.doc_model.specs.declared.style.Family.{Family}
use Rattle.doc_model.specs.declared.style.Family.TheVariants as family
use Rattle.style_model.specs.Lineage.{is_same_family}
use Rattle.load_model.specs.Left.{is_one_of}
use Rattle.load_model.specs.Styles.{StyleName, Names}
use Rattle.sheet_names.specs.declared.names.Names.{Names as Kept}
use Rattle.sheet_names.specs.declared.style_names.StyleNames.{StyleNames}

-- the names of the styles of a family
abbrev pub of_family : StyleNames → Family → List (List ℕ)
of_family names family.Paragraph = names.paragraph
of_family names family.Text = names.text
of_family names family.Section = names.section

-- names with one more, where it isn't there yet
abbrev pub with_name : List (List ℕ) → List ℕ → List (List ℕ)
with_name names name = if is_one_of names name then names else names ++ name ∷ []

-- the names among those of styles that are of a family
abbrev pub names_with : Family → List StyleName → List (List ℕ)
names_with of styles = map (λ style. style.name) (filter (λ style. is_same_family style.family of) styles)

-- these are the names that can be referred to: of styles in each family by itself
pub record Knows (kept : Kept) (names : Names) : Type 0 where
  pub styles_are : (of : Family) → of_family kept.styles of ≡ names_with of names.styles
  pub lists_are : kept.lists ≡ names.lists
  pub layouts_are : kept.layouts ≡ names.layouts
  pub masters_are : kept.masters ≡ names.masters
