-- Rules in another order.
use Rattle.std.proofs.Common.{◌≡◌, ℕ, Bool, true, false, cond, List, [], ◌∷◌, map, length, refl, sym, ap, ◌∙◌, not, ◌&&◌, ◌==◌}
use Rattle.std.specs.List.{filter}
use Rattle.load_model.specs.declared.names.Key.{Key}
use Rattle.load_model.specs.declared.names.Key.TheVariants as key
use Rattle.load_model.specs.declared.element.Attribute.{Attribute}
use Rattle.load_model.specs.Blocks.{left_by}
use Rattle.load_model.specs.Left.{only_attributes}
use Rattle.load_model.specs.Styles.{reference}
use Rattle.load_model.specs.Values as value
use Rattle.load_model.specs.Values.{Rule, rule, is_read, is_same_key, attributes_left}

filter_same : {X : Type 0} (p q : X → Bool) → ((x : X) → p x ≡ q x) → (xs : List X) → filter p xs ≡ filter q xs
filter_same p q same [] = refl
filter_same p q same (x ∷ xs) = ap (λ b. cond b (x ∷ filter p xs) (filter p xs)) (same x) ∙ ap (λ more. cond (q x) (x ∷ more) more) (filter_same p q same xs)

abbrev pub section_beside : List (List ℕ) → List Rule
section_beside names = rule key.StyleName (reference names) ∷ rule key.TextName value.name ∷ rule key.Protected value.truth ∷ rule key.Display value.display ∷ []

abbrev pub section_first : List (List ℕ) → List Rule
section_first names = rule key.TextName value.name ∷ rule key.StyleName (reference names) ∷ rule key.Protected value.truth ∷ rule key.Display value.display ∷ []

module _ (names : List (List ℕ)) where
  by_key : (own : Key) (text : List ℕ) → is_read (section_beside names) (record { key = own; text = text }) ≡ is_read (section_first names) (record { key = own; text = text })
  by_key key.Uncounted text = refl
  by_key key.Mimetype text = refl
  by_key key.Global text = refl
  by_key key.Name text = refl
  by_key key.Family text = refl
  by_key key.Parent text = refl
  by_key key.Next text = refl
  by_key key.Master text = refl
  by_key key.DefaultOutlineLevel text = refl
  by_key key.Margin text = refl
  by_key key.MarginLeft text = refl
  by_key key.MarginRight text = refl
  by_key key.MarginTop text = refl
  by_key key.MarginBottom text = refl
  by_key key.Indent text = refl
  by_key key.Align text = refl
  by_key key.BreakBefore text = refl
  by_key key.BreakAfter text = refl
  by_key key.KeepNext text = refl
  by_key key.KeepTogether text = refl
  by_key key.Widows text = refl
  by_key key.Orphans text = refl
  by_key key.PageNumber text = refl
  by_key key.Display text = refl
  by_key key.PageWidth text = refl
  by_key key.PageHeight text = refl
  by_key key.Layout text = refl
  by_key key.Level text = refl
  by_key key.NumberFormat text = refl
  by_key key.NumberPrefix text = refl
  by_key key.NumberSuffix text = refl
  by_key key.StartValue text = refl
  by_key key.DisplayLevels text = refl
  by_key key.BulletChar text = refl
  by_key key.TextName text = refl
  by_key key.StyleName text = refl
  by_key key.OutlineLevel text = refl
  by_key key.Protected text = refl
  by_key key.Href text = refl
  by_key key.SectionName text = refl
  by_key key.Id text = refl
  by_key key.NoteClass text = refl
  by_key key.ReferenceName text = refl
  by_key key.ReferenceFormat text = refl
  by_key key.Count text = refl
  by_key key.ContinueNumbering text = refl
  by_key key.SelectPage text = refl
  by_key key.PageAdjust text = refl
  by_key key.Other text = refl

  pub section_swapped : (attributes : List Attribute) → attributes_left (section_beside names) attributes ≡ attributes_left (section_first names) attributes
  section_swapped attributes = ap length (filter_same (λ (attribute : Attribute). not (is_read (section_beside names) attribute) && not (is_same_key attribute.key key.Uncounted)) (λ (attribute : Attribute). not (is_read (section_first names) attribute) && not (is_same_key attribute.key key.Uncounted))
      (λ attribute. ap (λ b. not b && not (is_same_key attribute.key key.Uncounted)) (by_key attribute.key attribute.text)) attributes)
