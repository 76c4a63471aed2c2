-- Styles by their places.
use Rattle.std.proofs.Common.{◌≡◌, ◌<◌, ℕ, Bool, true, List, length, refl, sym, ap, ◌∙◌, Option, Some, None}
use Rattle.std.specs.Prelude.{slice_get}
use Rattle.std.specs.Option.{option_map}
use Rattle.std.proofs.lemmas.Option.{none-some, slice_get_within}
use Rattle.doc_model.specs.declared.style.Family.{Family}
use Rattle.doc_model.specs.declared.style.Style.{Style}
use Rattle.style_model.specs.Lineage.{is_named, StandsAt}

-- a place at which a style stands is one of the list
pub stands_within : (styles : List Style) (of : Family) (name : List ℕ) (place : ℕ) → StandsAt styles of name place → place < length styles
stands_within styles of name place stands = by (slice_get styles place) refl where
  by : (given : Option Style) → slice_get styles place ≡ given → place < length styles
  by None none = absurd (none-some true (sym (ap (option_map (is_named of name)) none) ∙ stands))
  by (Some style) some = slice_get_within styles place style some
