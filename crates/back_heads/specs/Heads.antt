-- Paragraphs of headers and footers that can be read back.
use Rattle.std.specs.Prelude.{◌≡◌, ℕ, ◌≤◌, List, [], map, length}
use Rattle.std.specs.List.{AllByRecursion as Each}
use Rattle.doc_model.specs.declared.field.Field.{Field}
use Rattle.doc_model.specs.declared.field.Field.TheVariants.{PageNumber}
use Rattle.doc_model.specs.declared.page_layout.HeadPar.{HeadPar}
use Rattle.doc_model.specs.declared.paragraph.Item.{Item}
use Rattle.doc_model.specs.declared.paragraph.Note.{Note}
use Rattle.doc_model.specs.declared.paragraph.Par.{Par}
use Rattle.doc_model.specs.declared.paragraph.What.{What, out-What}
use Rattle.doc_model.specs.declared.paragraph.What.TheOpen.{What-F}
use Rattle.doc_model.specs.Ranges.{IsPageAdjust}
use Rattle.doc_model.specs.Valid.{IsOfHeader}
use Rattle.load_model.specs.declared.element.Element.{Element}
use Rattle.load_model.specs.Headers.{head_elements, head_left, head_paragraph, header_left}
use Rattle.load_model.specs.Left.{nothing}
use Rattle.load_model.specs.Styles.{Names}
use Rattle.written_model.specs.Elements.{element}
use Rattle.written_model.specs.Styles as written
use Rattle.back_styles.specs.Shown.{shown}

-- a page number field adds as many pages as its type has
abbrev pub IsAdjusted : What → Type 0
IsAdjusted what = of_what (out-What what) where
  of_field : Field → Type 0
  of_field (PageNumber select adjust format) = IsPageAdjust adjust
  of_field _ = Unit {0}

  of_what : What-F What Item Note Par → Type 0
  of_what (What-F.Field field) = of_field field
  of_what _ = Unit {0}

-- a paragraph that holds what stands in headers
pub record IsReadableHead (par : HeadPar) : Type 0 where
  pub each_item : Each IsOfHeader par.items
  pub adjusts : Each IsAdjusted par.items
  pub few : length par.items ≤ 4294967295

-- a paragraph as it is written, named
abbrev pub paragraph_read : HeadPar → Element
paragraph_read par = shown (written.head_paragraph par)

-- a paragraph is read as itself, and nothing is left out
pub record IsHeadBack (names : Names) (par : HeadPar) : Type 0 where
  pub value : head_paragraph names (paragraph_read par) ≡ par
  pub left : head_left names (paragraph_read par) ≡ nothing

-- an element of this name with these paragraphs as it is written, named
abbrev pub header_read : List ℕ → List HeadPar → Element
header_read name pars = shown (element name [] (map written.head_paragraph pars))

-- all its paragraphs are read, each as itself, and nothing is left out
pub record IsHeaderBack (names : Names) (name : List ℕ) (pars : List HeadPar) : Type 0 where
  pub value : map (head_paragraph names) (head_elements (header_read name pars)) ≡ pars
  pub left : header_left names (header_read name pars) ≡ nothing
