-- The rules of a style that name nothing else.
use Rattle.std.proofs.Common.{◌≡◌, ℕ, Bool, true, false, cond, ◌||◌, List, [], ◌∷◌, map, refl, sym, ap, ◌∙◌, Some, None, is_some}
use Rattle.std.specs.Str.{bytes_eq}
use Rattle.load_model.specs.declared.names.Key.{Key}
use Rattle.load_model.specs.declared.names.Key.TheVariants as key
use Rattle.load_model.specs.declared.element.Attribute.{Attribute}
use Rattle.load_model.specs.Left.{is_one_of}
use Rattle.load_model.specs.Styles.{reference}
use Rattle.load_model.specs.Values.{is_read}
use Rattle.read_values.specs.Readings.{rule_of}
use Rattle.read_values.specs.declared.readings.Reading.TheVariants as reading
use Rattle.sheet_styles.specs.Rules.{rules_by, master_among}

pub reference_is : (names : List (List ℕ)) (text : List ℕ) → is_some (reference names text) ≡ is_one_of names text
reference_is names text = by_test (is_one_of names text) where
  by_test : (b : Bool) → is_some (cond b (Some text) None) ≡ b
  by_test true = refl
  by_test false = refl

pub master_is : (masters : List (List ℕ)) (text : List ℕ) → is_some (master_among masters text) ≡ (bytes_eq text [] || is_one_of masters text)
master_is masters text = by_test (bytes_eq text []) where
  by_test : (b : Bool) → is_some (cond b (Some []) (reference masters text)) ≡ (b || is_one_of masters text)
  by_test true = refl
  by_test false = reference_is masters text

module _ (styles masters : List (List ℕ)) where
  pub read_parent : (attribute : Attribute) → attribute.key ≡ key.Parent → is_read (rules_by styles masters) attribute ≡ is_one_of styles attribute.text
  read_parent attribute e = ap (λ own. is_read (rules_by styles masters) (record { key = own; text = attribute.text })) e ∙ reference_is styles attribute.text

  pub read_next : (attribute : Attribute) → attribute.key ≡ key.Next → is_read (rules_by styles masters) attribute ≡ is_one_of styles attribute.text
  read_next attribute e = ap (λ own. is_read (rules_by styles masters) (record { key = own; text = attribute.text })) e ∙ reference_is styles attribute.text

  pub read_master : (attribute : Attribute) → attribute.key ≡ key.Master → is_read (rules_by styles masters) attribute ≡ (bytes_eq attribute.text [] || is_one_of masters attribute.text)
  read_master attribute e = ap (λ own. is_read (rules_by styles masters) (record { key = own; text = attribute.text })) e ∙ master_is masters attribute.text

  pub read_plain : (own : Key) (text : List ℕ) → (own ≡ key.Parent → ⊥) → (own ≡ key.Next → ⊥) → (own ≡ key.Master → ⊥)
      → is_read (map rule_of ((key.Name, reading.Name) ∷ (key.Family, reading.Family) ∷ (key.DefaultOutlineLevel, reading.Level) ∷ [])) (record { key = own; text = text })
      ≡ is_read (rules_by styles masters) (record { key = own; text = text })
  read_plain key.Uncounted text p n m = refl
  read_plain key.Mimetype text p n m = refl
  read_plain key.Global text p n m = refl
  read_plain key.Name text p n m = refl
  read_plain key.Family text p n m = refl
  read_plain key.Parent text p n m = absurd (p refl)
  read_plain key.Next text p n m = absurd (n refl)
  read_plain key.Master text p n m = absurd (m refl)
  read_plain key.DefaultOutlineLevel text p n m = refl
  read_plain key.Margin text p n m = refl
  read_plain key.MarginLeft text p n m = refl
  read_plain key.MarginRight text p n m = refl
  read_plain key.MarginTop text p n m = refl
  read_plain key.MarginBottom text p n m = refl
  read_plain key.Indent text p n m = refl
  read_plain key.Align text p n m = refl
  read_plain key.BreakBefore text p n m = refl
  read_plain key.BreakAfter text p n m = refl
  read_plain key.KeepNext text p n m = refl
  read_plain key.KeepTogether text p n m = refl
  read_plain key.Widows text p n m = refl
  read_plain key.Orphans text p n m = refl
  read_plain key.PageNumber text p n m = refl
  read_plain key.Display text p n m = refl
  read_plain key.PageWidth text p n m = refl
  read_plain key.PageHeight text p n m = refl
  read_plain key.Layout text p n m = refl
  read_plain key.Level text p n m = refl
  read_plain key.NumberFormat text p n m = refl
  read_plain key.NumberPrefix text p n m = refl
  read_plain key.NumberSuffix text p n m = refl
  read_plain key.StartValue text p n m = refl
  read_plain key.DisplayLevels text p n m = refl
  read_plain key.BulletChar text p n m = refl
  read_plain key.TextName text p n m = refl
  read_plain key.StyleName text p n m = refl
  read_plain key.OutlineLevel text p n m = refl
  read_plain key.Protected text p n m = refl
  read_plain key.Href text p n m = refl
  read_plain key.SectionName text p n m = refl
  read_plain key.Id text p n m = refl
  read_plain key.NoteClass text p n m = refl
  read_plain key.ReferenceName text p n m = refl
  read_plain key.ReferenceFormat text p n m = refl
  read_plain key.Count text p n m = refl
  read_plain key.ContinueNumbering text p n m = refl
  read_plain key.SelectPage text p n m = refl
  read_plain key.PageAdjust text p n m = refl
  read_plain key.Other text p n m = refl

-- the master among some, by whether it is the empty text
pub empty_master : (masters : List (List ℕ)) (text : List ℕ) → bytes_eq text [] ≡ true → Some [] ≡ master_among masters text
empty_master masters text e = sym (ap (λ b. cond b (Some []) (reference masters text)) e)

pub some_master : (masters : List (List ℕ)) (text : List ℕ) → bytes_eq text [] ≡ false → is_one_of masters text ≡ true → Some text ≡ master_among masters text
some_master masters text e f = sym (ap (λ b. cond b (Some []) (reference masters text)) e ∙ ap (λ b. cond b (Some text) None) f)

pub no_master : (masters : List (List ℕ)) (text : List ℕ) → bytes_eq text [] ≡ false → is_one_of masters text ≡ false → None ≡ master_among masters text
no_master masters text e f = sym (ap (λ b. cond b (Some []) (reference masters text)) e ∙ ap (λ b. cond b (Some text) None) f)
