-- The texts that plain documents have.
use Rattle.std.specs.Prelude.{◌≡◌, ◌≢◌, ℕ, ◌≤◌, ◌⊎◌, List, length}
use Rattle.std.specs.List.{AllByRecursion as Each}
use Rattle.doc_model.specs.Chars.{IsPlainChar}
use Rattle.plain_doc.specs.PlainParts.{ArePlainTexts}

-- a plain character that stands for itself between any others: neither & nor <
abbrev pub IsUnmarked : ℕ → Type 0
IsUnmarked c = IsPlainChar c × (c ≢ 0x26) × (c ≢ 0x3c)

-- a character that is written as an entity
abbrev pub IsEntity : ℕ → Type 0
IsEntity c = (c ≡ 0x26) ⊎ (c ≡ 0x3c) ⊎ (c ≡ 0x3e)

-- the text of a paragraph of a plain document
pub record IsPlainText (text : List ℕ) : Type 0 where
  pub characters : Each IsPlainChar text
  pub most : length text ≤ 32768

-- the texts of the paragraphs of a plain document
pub record ArePlain (texts : List (List ℕ)) : Type 0 where
  pub characters : Each (Each IsPlainChar) texts
  pub within : ArePlainTexts texts
