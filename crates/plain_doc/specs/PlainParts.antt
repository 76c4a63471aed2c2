-- The paragraphs of plain documents, and the limits that they may pass.
use Rattle.std.specs.Prelude.{◌≡◌, ◌≢◌, ℕ, ◌+◌, ◌≤◌, ◌==◌, if◌then◌else◌, List, [], ◌∷◌, length, map, nat_lt, sum_by, Option, Some, None}
use Rattle.std.specs.List.{AllByRecursion as Each}
use Rattle.doc_model.specs.declared.paragraph.Par.{Par}
use Rattle.doc_model.specs.declared.refusal.Limit.{Limit}
use Rattle.doc_model.specs.declared.refusal.Limit.TheVariants.{Paragraphs, ItemsOfParagraph, Items}
use Rattle.doc_model.specs.Limits.{greatest}
use Rattle.doc_model.specs.Plain.{plain_paragraph}

-- the paragraphs of these texts, numbered from the given number on
abbrev pub plain_pars : ℕ → List (List ℕ) → List Par
plain_pars number [] = []
plain_pars number (text ∷ texts) = plain_paragraph number text ∷ plain_pars (number + 1) texts

-- what keeps a plain document within the limits: it has a paragraph, and neither too many paragraphs nor too many characters
pub record ArePlainTexts (texts : List (List ℕ)) : Type 0 where
  pub some : texts ≢ []
  pub paragraphs : length texts ≤ 65536
  pub items_of_paragraph : Each (λ text. length text ≤ 32768) texts
  pub items : sum_by length texts ≤ 4194304

-- the texts of paragraphs that are numbered from the given number on, with one of them changed
abbrev pub with_changed : ℕ → (List ℕ → List ℕ) → ℕ → List (List ℕ) → List (List ℕ)
with_changed number new here [] = []
with_changed number new here (text ∷ texts) = (if here == number then new text else text) ∷ with_changed number new (here + 1) texts

-- the text of the paragraph with this number, where the paragraphs are numbered from the given number on
abbrev pub text_numbered : ℕ → ℕ → List (List ℕ) → Option (List ℕ)
text_numbered number here [] = None
text_numbered number here (text ∷ texts) = if here == number then Some text else text_numbered number (here + 1) texts

-- the first limit that a plain document of these texts passes
abbrev pub plain_passed : List (List ℕ) → Option Limit
plain_passed texts =
    if nat_lt 65536 (length texts) then Some Paragraphs
    else if nat_lt 32768 (greatest (map length texts)) then Some ItemsOfParagraph
    else if nat_lt 4194304 (sum_by length texts) then Some Items
    else None
