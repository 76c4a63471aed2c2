-- What is found among the text styles that state whether they are shown.
use Rattle.std.proofs.Common.{◌≡◌, ℕ, zero, suc, Bool, true, false, cond, List, [], ◌∷◌, length, refl, ap, sym, ◌∙◌, ◌⊎◌, inl, inr, Option, Some, None}
use Rattle.std.specs.Prelude.{map, find, filter_map, ◌&&◌, if◌then◌else◌, option_map}
use Rattle.std.specs.List.{cons_option}
use Rattle.std.specs.Option.{option_map_or}
use Rattle.std.specs.Str.{bytes_eq}
use Rattle.std.proofs.lemmas.Slice.Eq.{bytes_eq-Decides}
use Rattle.doc_model.specs.declared.style.Family.TheVariants as family
use Rattle.doc_model.specs.declared.style.Style.{Style}
use Rattle.style_model.specs.Lineage.{is_same_family, is_named, style_named, lineage_of}
use Rattle.style_model.specs.Effective.{stated, stated_along}
use Rattle.key_parts.specs.declared.parts.SpanDisplay.{SpanDisplay}
use Rattle.key_parts.specs.Shows.{stated_display}
use Rattle.key_parts.specs.Displays.{said_by, displays_of}

module _ (says : List ℕ → Option Bool) (name : List ℕ) where
  -- what a style says, if it is a text style
  abbrev said : Style → Option SpanDisplay
  said style = if is_same_family style.family family.Text then option_map (said_by style.name) (says style.name) else None

  -- the text style of the name among some
  abbrev named : List Style → Option Style
  named styles = find (is_named family.Text name) styles

  -- what is said of the name is found, or nothing is said and there is no text style of the name
  abbrev Tells : List SpanDisplay → Option Style → Type 0
  Tells displays style = (stated_display displays name ≡ says name) ⊎ ((stated_display displays name ≡ None) × (style ≡ None))

  -- the same of others that are equal
  tells_too : (displays others : List SpanDisplay) (style other : Option Style) → displays ≡ others → style ≡ other → Tells others other → Tells displays style
  tells_too displays others style other e f (inl found) = inl (ap (λ (list : List SpanDisplay). stated_display list name) e ∙ found)
  tells_too displays others style other e f (inr none) = inr (ap (λ (list : List SpanDisplay). stated_display list name) e ∙ none.0, f ∙ none.1)

  -- a style of another name is passed
  passed : (style : Style) (some : List Style) (text : Bool) → bytes_eq style.name name ≡ false → cond (text && bytes_eq style.name name) (Some style) (named some) ≡ named some
  passed style some true other = ap (λ (same : Bool). cond same (Some style) (named some)) other
  passed style some false other = refl

  -- one text style more, by what it says and whether it has the name
  by_name : (style : Style) (some : List Style) (text : Bool) (saying : Option Bool) (same : Bool) → says style.name ≡ saying → bytes_eq style.name name ≡ same
      → Tells (filter_map said some) (named some)
      → Tells (cons_option (option_map (said_by style.name) saying) (filter_map said some)) (cond (text && bytes_eq style.name name) (Some style) (named some))
  by_name style some text (Some shown) true e is_same tells =
      inl (ap (λ (same : Bool). option_map (λ (display : SpanDisplay). display.is_shown) (cond same (Some (said_by style.name shown)) (find (λ display. bytes_eq display.style name) (filter_map said some)))) is_same
      ∙ sym e ∙ ap says ((bytes_eq-Decides style.name name).0 is_same))
  by_name style some text (Some shown) false e is_same (inl found) =
      inl (ap (λ (same : Bool). option_map (λ (display : SpanDisplay). display.is_shown) (cond same (Some (said_by style.name shown)) (find (λ display. bytes_eq display.style name) (filter_map said some)))) is_same ∙ found)
  by_name style some text (Some shown) false e is_same (inr none) =
      inr (
        ap (λ (same : Bool). option_map (λ (display : SpanDisplay). display.is_shown) (cond same (Some (said_by style.name shown)) (find (λ display. bytes_eq display.style name) (filter_map said some)))) is_same ∙ none.0,
        passed style some text is_same ∙ none.1,
      )
  by_name style some text None true e is_same (inl found) = inl found
  by_name style some text None true e is_same (inr none) = inl (none.0 ∙ sym e ∙ ap says ((bytes_eq-Decides style.name name).0 is_same))
  by_name style some text None false e is_same (inl found) = inl found
  by_name style some text None false e is_same (inr none) = inr (none.0, passed style some text is_same ∙ none.1)

  -- one style more, by whether it is a text style
  by_family : (style : Style) (some : List Style) (text : Bool) → Tells (filter_map said some) (named some)
      → Tells (cons_option (if text then option_map (said_by style.name) (says style.name) else None) (filter_map said some)) (cond (text && bytes_eq style.name name) (Some style) (named some))
  by_family style some true tells = by_name style some true (says style.name) (bytes_eq style.name name) refl refl tells
  by_family style some false tells = tells

  tells_all : (some : List Style) → Tells (filter_map said some) (named some)
  tells_all [] = inr (refl, refl)
  tells_all (style ∷ some) = by_family style some (is_same_family style.family family.Text) (tells_all some)

-- nothing is stated along the style of a name that is none's
none_stated : (most : ℕ) (styles : List Style) (name : List ℕ) → style_named styles family.Text name ≡ None
    → (stated_along (map (λ style. style.props) (lineage_of most styles family.Text name))).display ≡ None
none_stated zero styles name none = refl
none_stated (suc most) styles name none =
    ap (λ (style : Option Style). (stated_along (map (λ each. each.props) (option_map_or (λ style. style ∷ lineage_of most styles family.Text style.parent) style []))).display) none

pub found : (styles : List Style) (name : List ℕ) → stated_display (displays_of styles) name ≡ (stated styles family.Text name).display
found styles name = by (tells_all (λ other. (stated styles family.Text other).display) name styles) where
  by : Tells (λ other. (stated styles family.Text other).display) name (displays_of styles) (style_named styles family.Text name) → stated_display (displays_of styles) name ≡ (stated styles family.Text name).display
  by (inl same) = same
  by (inr none) = none.0 ∙ sym (none_stated (length styles) styles name none.1)
