-- One more style behind those that were read.
use Rattle.std.proofs.Common.{◌≡◌, Bool, true, false, cond, not, List, [], ◌∷◌, ◌++◌, map, refl, ap, ap₂, ◌∙◌, chars}
use Rattle.std.specs.List.{flat_map, filter}
use Rattle.std.specs.Option.{option_to_list}
use Rattle.std.proofs.lemmas.Grind.{flat_map-append}
use Rattle.std.proofs.lemmas.List.{append-nil}
use Rattle.std.proofs.lemmas.List.Elements.{filter-append}
use Rattle.load_model.specs.declared.element.Element.{Element}
use Rattle.load_model.specs.Styles.{InPart, style_name}
use Rattle.sheet_names.specs.Keys.{States}
use Rattle.sheet_names.specs.declared.family.StyleKey.{StyleKey}
use Rattle.sheet_names.specs.declared.names.Names.{Names}
use Rattle.sheet_styles.specs.Read.{has_auto, style_at, styles_with}

pub with_behind : (names : Names) (is_auto : Bool) (kept : List InPart) (one : InPart) → styles_with names is_auto (kept ++ one ∷ []) ≡ styles_with names is_auto kept ++ styles_with names is_auto (one ∷ [])
with_behind names is_auto kept one =
    ap (flat_map (style_at names)) (filter-append (has_auto is_auto) kept (one ∷ [])) ∙ flat_map-append (style_at names) (filter (has_auto is_auto) kept) (filter (has_auto is_auto) (one ∷ []))

same_auto : (is_auto : Bool) (one : InPart) → one.auto ≡ is_auto → has_auto is_auto one ≡ true
same_auto true one e = e
same_auto false one e = ap not e

other_auto : (is_auto : Bool) (one : InPart) → (one.auto ≡ is_auto → ⊥) → has_auto is_auto one ≡ false
other_auto true one differs = by_auto one.auto refl where
  by_auto : (auto : Bool) → one.auto ≡ auto → one.auto ≡ false
  by_auto true e = absurd (differs e)
  by_auto false e = e
other_auto false one differs = by_auto one.auto refl where
  by_auto : (auto : Bool) → one.auto ≡ auto → not one.auto ≡ false
  by_auto true e = ap not e
  by_auto false e = absurd (differs e)

pub with_same : (names : Names) (is_auto : Bool) (one : InPart) → one.auto ≡ is_auto → styles_with names is_auto (one ∷ []) ≡ style_at names one
with_same names is_auto one e = ap (λ b. flat_map (style_at names) (cond b (one ∷ []) [])) (same_auto is_auto one e) ∙ append-nil (style_at names one)

pub with_other : (names : Names) (is_auto : Bool) (one : InPart) → (one.auto ≡ is_auto → ⊥) → styles_with names is_auto (one ∷ []) ≡ []
with_other names is_auto one differs = ap (λ b. flat_map (style_at names) (cond b (one ∷ []) [])) (other_auto is_auto one differs)

-- an element that states a family and a name has just these
pub named_one : (key : StyleKey) (element : Element) → States key element → style_name element ≡ record { family = key.family; name = chars key.name.now } ∷ []
named_one key element states =
    ap₂ (λ own name. flat_map (λ of. map (λ text. record { family = of; name = text }) (option_to_list name)) (option_to_list own)) states.family_is states.name_is
