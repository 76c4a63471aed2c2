-- What styles are where names are known.
use Rattle.std.proofs.Common.{◌≡◌, List, [], ◌∷◌, ◌++◌, map, length, refl, sym, ap, ap₂, ◌∙◌}
use Rattle.std.specs.List.{flat_map}
use Rattle.std.proofs.lemmas.List.{length-map}
use Rattle.load_model.specs.declared.element.Element.{Element}
use Rattle.load_model.specs.Left.{all_of}
use Rattle.load_model.specs.Styles.{InPart, Names, style_name, style_of, style_in, style_left}
use Rattle.sheet_names.specs.Known.{of_family, names_with, Knows}
use Rattle.sheet_names.specs.declared.names.Names.{Names as Kept}
use Rattle.sheet_styles.specs.Rules.{style_by, left_by}
use Rattle.sheet_styles.specs.Read.{style_at, left_at}

map_same : {X Y : Type 0} (f g : X → Y) → ((x : X) → f x ≡ g x) → (xs : List X) → map f xs ≡ map g xs
map_same f g same [] = refl
map_same f g same (x ∷ xs) = ap₂ (λ y ys. y ∷ ys) (same x) (map_same f g same xs)

flat_same : {X Y : Type 0} (f g : X → List Y) → ((x : X) → f x ≡ g x) → (xs : List X) → flat_map f xs ≡ flat_map g xs
flat_same f g same [] = refl
flat_same f g same (x ∷ xs) = ap₂ (λ ys more. ys ++ more) (same x) (flat_same f g same xs)

module _ (kept : Kept) (known : Names) (knows : Knows kept known) where
  style_known : (in_part : InPart) → style_at kept in_part ≡ style_in known in_part
  style_known in_part = map_same (λ style. style_by (of_family kept.styles style.family) kept.masters in_part.auto style.family style.name in_part.element) (λ style. style_of known in_part.auto style.family style.name in_part.element)
      (λ style. ap₂ (λ styles masters. style_by styles masters in_part.auto style.family style.name in_part.element) (knows.styles_are style.family) knows.masters_are) (style_name in_part.element)

  pub styles_known : (held : List InPart) → flat_map (style_at kept) held ≡ flat_map (style_in known) held
  styles_known held = flat_same (style_at kept) (style_in known) style_known held

  left_known : (element : Element) → left_at kept element ≡ style_left known element
  left_known element =
      ap all_of (map_same (λ style. left_by (of_family kept.styles style.family) kept.masters style.family element) (λ style. left_by (names_with style.family known.styles) known.masters style.family element)
      (λ style. ap₂ (λ styles masters. left_by styles masters style.family element) (knows.styles_are style.family) knows.masters_are) (style_name element))

  pub lefts_known : (held : List InPart) → all_of (map (λ in_part. left_at kept in_part.element) held) ≡ all_of (map (λ in_part. style_left known in_part.element) held)
  lefts_known held = ap all_of (map_same (λ in_part. left_at kept in_part.element) (λ in_part. style_left known in_part.element) (λ in_part. left_known in_part.element) held)

-- how many there are, as they are lent
pub count_lent : {X Y : Type 0} (f : X → Y) (lent items : List X) (ys : List Y) → lent ≡ items → map f items ≡ ys → length lent ≡ length ys
count_lent f lent items ys as_lent are = ap length as_lent ∙ sym (length-map items f) ∙ ap length are
