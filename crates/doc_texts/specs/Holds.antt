-- What is read of a document.
use Rattle.std.specs.Prelude.{◌≡◌, List, [], map, reverse}
use Rattle.doc_model.specs.declared.list_style.ListStyle.{ListStyle}
use Rattle.doc_model.specs.declared.document.Document.{Document}
use Rattle.field_model.specs.Gathered.{GatheredPar}
use Rattle.list_num.specs.Counts.{HaveCounted}
use Rattle.format_model.specs.Keys.{gathered_from, standing}
use Rattle.doc_texts.specs.declared.texts.ParText.{ParText}
use Rattle.doc_texts.specs.declared.reader.Reader.{Reader}
use Rattle.doc_texts.specs.Behind.{heads_of}
use Rattle.doc_texts.specs.Order.{AreNext}

-- a paragraph as it is gathered
abbrev pub gathered_par : ParText → GatheredPar
gathered_par text = record { place = text.place; head = text.head; label = text.label; items = text.items }

-- these paragraphs were read, the last of which stands in front
pub record HasRead (lists : List ListStyle) (before : List GatheredPar) (reader : Reader) : Type 0 where
  pub counted : HaveCounted lists (heads_of before) reader.counts
  pub texts : map gathered_par reader.texts.items ≡ reverse before

-- all paragraphs of a document, as they are gathered, and in an order in which they may be
pub record AreTexts (doc : Document) (texts : List ParText) : Type 0 where
  pub all : map gathered_par texts ≡ reverse (gathered_from doc 0 [] (standing doc))
  pub ordered : AreNext (gathered_from doc 0 [] (standing doc))
