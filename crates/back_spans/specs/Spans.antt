-- What a node is read as in its spans.
use Rattle.std.specs.Prelude.{◌≡◌, ℕ, ◌+◌, ◌≤◌, List, ◌++◌, length, Some}
use Rattle.std.specs.List.{AllByRecursion as Each}
use Rattle.doc_model.specs.declared.style.Family.TheVariants as family
use Rattle.load_model.specs.Blocks.{Around, ReadContent, node_content}
use Rattle.load_model.specs.Left.{nothing}
use Rattle.load_model.specs.Styles.{Names, style_reference}
use Rattle.written_model.specs.Content.{Spanned}
use Rattle.back_fields.specs.Given.{given}

-- within more spans
abbrev pub deeper : Around → List (List ℕ) → Around
deeper around spans = record around { spans = around.spans ++ spans }

-- what a node is read as in its spans
abbrev pub read_in : Names → Around → Spanned → ReadContent
read_in names around node = node_content (deeper around node.spans) (given names node.node)

-- the name of a text style that is there
abbrev pub IsTextStyle : Names → List ℕ → Type 0
IsTextStyle names name = style_reference names family.Text name ≡ Some name

-- a node whose spans have styles that are there, in at most eight of them, of which nothing is left out
pub record IsIn (names : Names) (around : Around) (node : Spanned) : Type 0 where
  pub styles : Each (IsTextStyle names) node.spans
  pub few : length around.spans + length node.spans ≤ 8
  pub none : (read_in names around node).left ≡ nothing
