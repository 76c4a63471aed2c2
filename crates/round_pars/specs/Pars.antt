-- What rounds read of a paragraph whatever its page is.
use Rattle.std.specs.Prelude.{◌≡◌, ◌≢◌, List, map, AllPairs}
use Rattle.doc_model.specs.declared.style.Family.TheVariants as family
use Rattle.doc_model.specs.declared.paragraph.Par.{out-Par}
use Rattle.doc_model.specs.declared.document.Document.{Document}
use Rattle.doc_model.specs.Reading.{paragraphs, number_of}
use Rattle.doc_model.specs.Parts.{items_of}
use Rattle.style_model.specs.Changes.{StyleSheet}
use Rattle.style_model.specs.Effective.{effective, stated_master}
use Rattle.field_model.specs.Labels.{head_of}
use Rattle.format_model.specs.Standing.{props_of}
use Rattle.format_model.specs.Keys.{Standing, par_of, gathered_at, label_of}
use Rattle.doc_texts.specs.declared.texts.ParText.{ParText}
use Rattle.round_pars.specs.declared.pars.RoundPar.{RoundPar}
use Rattle.round_pars.specs.Pairs.{Pairwise}

-- no number is that of two paragraphs
abbrev pub AreNumbersDistinct : Document → Type 0
AreNumbersDistinct doc = AllPairs (λ left right. left ≢ right) (map number_of (paragraphs doc))

-- these are the default style and the styles of a document
abbrev pub AreStylesOf : Document → StyleSheet → Type 0
AreStylesOf doc sheet = (sheet.defaults ≡ doc.defaults) × (sheet.styles ≡ doc.styles)

-- a paragraph, as it is gathered where it stands
pub record IsTextOf (doc : Document) (one : Standing) (text : ParText) : Type 0 where
  pub place : text.place ≡ gathered_at one
  pub head : text.head ≡ head_of (par_of one)
  pub label : text.label ≡ label_of doc (par_of one)
  pub items : text.items ≡ items_of (par_of one)

-- a paragraph has the properties and the master of its style
pub record HasProps (sheet : StyleSheet) (par : RoundPar) : Type 0 where
  pub props : par.props ≡ effective sheet.defaults sheet.styles par.text.now.head.style
  pub master : par.master ≡ stated_master sheet.styles family.Paragraph par.text.now.head.style

-- what is read of a paragraph where it stands
pub record IsRoundPar (doc : Document) (one : Standing) (par : RoundPar) : Type 0 where
  pub text : IsTextOf doc one par.text.now
  pub props : par.props ≡ props_of doc (par_of one)
  pub master : par.master ≡ stated_master doc.styles family.Paragraph (out-Par (par_of one)).style

-- what is read of paragraphs where they stand
abbrev pub AreRoundPars : Document → List Standing → List RoundPar → Type 0
AreRoundPars doc = Pairwise (IsRoundPar doc)
