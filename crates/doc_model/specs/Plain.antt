-- Plain documents: paragraphs of printable ASCII characters in the body, and nothing else.
use Rattle.std.specs.Prelude.{◌≡◌, ℕ, ◌+◌, List, [], ◌∷◌, map, None}
use Rattle.std.specs.List.{AllByRecursion as Each}
use Rattle.doc_model.specs.declared.block.Block.{Block, roll-Block}
use Rattle.doc_model.specs.declared.block.Block.TheOpen.{Block-F}
use Rattle.doc_model.specs.declared.paragraph.Par.{Par, roll-Par}
use Rattle.doc_model.specs.declared.paragraph.Item.{Item, roll-Item}
use Rattle.doc_model.specs.declared.paragraph.What.{roll-What}
use Rattle.doc_model.specs.declared.paragraph.What.TheOpen.{What-F}
use Rattle.doc_model.specs.declared.document.Document.{Document}
use Rattle.doc_model.specs.Empty.{only_body}
use Rattle.doc_model.specs.Chars.{IsPlainChar}
use Rattle.doc_model.specs.Valid.{IsValid}

-- a character without spans
abbrev pub plain_item : ℕ → Item
plain_item c = roll-Item (record { spans = []; what = roll-What (What-F.Char c) })

-- a paragraph of this number and text, without a style, a heading level and a list place
abbrev pub plain_paragraph : ℕ → List ℕ → Par
plain_paragraph number text = roll-Par (record { id = record { 0 = number }; style = []; level = 0; list = None; items = map plain_item text })

-- paragraphs of these texts, numbered from the given number on
abbrev pub plain_blocks : ℕ → List (List ℕ) → List Block
plain_blocks number [] = []
plain_blocks number (text ∷ texts) = roll-Block (Block-F.Par (plain_paragraph number text)) ∷ plain_blocks (number + 1) texts

-- the document of paragraphs of these texts, numbered from 1, in which all else is empty or unstated
unfoldable pub plain_document : List (List ℕ) → Document
plain_document texts = only_body (plain_blocks 1 texts)

-- a valid document that has paragraphs of these texts, of U+20 to U+7E, and nothing else
pub record IsPlainOf (texts : List (List ℕ)) (doc : Document) : Type 0 where
  pub alone : doc ≡ plain_document texts
  pub characters : Each (Each IsPlainChar) texts
  pub valid : IsValid doc

-- a plain document: a valid one that has paragraphs of some texts, and nothing else
abbrev pub IsPlain : Document → Type 0
IsPlain doc = (texts : List (List ℕ)) × IsPlainOf texts doc
