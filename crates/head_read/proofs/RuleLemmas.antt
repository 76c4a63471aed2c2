-- The rules of a master.
use Rattle.std.proofs.Common.{◌≡◌, ℕ, Bool, true, false, cond, List, [], ◌∷◌, map, refl, ap, ◌∙◌, Some, None, is_some}
use Rattle.load_model.specs.declared.names.Key.{Key}
use Rattle.load_model.specs.declared.names.Key.TheVariants as key
use Rattle.load_model.specs.declared.element.Attribute.{Attribute}
use Rattle.load_model.specs.Left.{is_one_of}
use Rattle.load_model.specs.Styles.{reference}
use Rattle.load_model.specs.Values.{is_read}
use Rattle.read_values.specs.Readings.{rule_of}
use Rattle.read_values.specs.declared.readings.Reading.TheVariants as reading
use Rattle.head_read.specs.Rules.{rules_by}

reference_is : (names : List (List ℕ)) (text : List ℕ) → is_some (reference names text) ≡ is_one_of names text
reference_is names text = by_test (is_one_of names text) where
  by_test : (b : Bool) → is_some (cond b (Some text) None) ≡ b
  by_test true = refl
  by_test false = refl

module _ (layouts masters : List (List ℕ)) where
  pub read_layout : (attribute : Attribute) → attribute.key ≡ key.Layout → is_read (rules_by layouts masters) attribute ≡ is_one_of layouts attribute.text
  read_layout attribute e = ap (λ own. is_read (rules_by layouts masters) (record { key = own; text = attribute.text })) e ∙ reference_is layouts attribute.text

  pub read_next : (attribute : Attribute) → attribute.key ≡ key.Next → is_read (rules_by layouts masters) attribute ≡ is_one_of masters attribute.text
  read_next attribute e = ap (λ own. is_read (rules_by layouts masters) (record { key = own; text = attribute.text })) e ∙ reference_is masters attribute.text

  pub read_plain : (own : Key) (text : List ℕ) → (own ≡ key.Layout → ⊥) → (own ≡ key.Next → ⊥)
      → is_read (map rule_of ((key.Name, reading.Name) ∷ [])) (record { key = own; text = text }) ≡ is_read (rules_by layouts masters) (record { key = own; text = text })
  read_plain key.Layout text l n = absurd (l refl)
  read_plain key.Next text l n = absurd (n refl)
  read_plain _ text l n = refl
