-- Paragraphs with the properties and the master of their styles.
use Rattle.std.proofs.Common.{◌≡◌, List, [], ◌∷◌, map, ap, ◌∙◌}
use Rattle.std.specs.List.{AllByRecursion as Each}
use Rattle.doc_model.specs.declared.style.Family.TheVariants as family
use Rattle.doc_model.specs.declared.style.Props.{Props}
use Rattle.doc_model.specs.declared.style.Style.{Style}
use Rattle.doc_model.specs.declared.paragraph.Par.{out-Par}
use Rattle.doc_model.specs.declared.paragraph.ParHead.{ParHead}
use Rattle.doc_model.specs.declared.document.Document.{Document}
use Rattle.style_model.specs.Changes.{StyleSheet}
use Rattle.style_model.specs.Effective.{effective, stated_master}
use Rattle.format_model.specs.Keys.{Standing, par_of}
use Rattle.doc_texts.specs.declared.texts.ParText.{ParText}
use Rattle.round_pars.specs.declared.pars.RoundPar.{RoundPar}
use Rattle.round_pars.specs.Pairs.{Pairwise}
use Rattle.round_pars.specs.Pars.{AreStylesOf, AreRoundPars, HasProps, IsRoundPar, IsTextOf}

abbrev pub text_of : RoundPar → ParText
text_of par = par.text.now

-- one of them
stated : (doc : Document) (sheet : StyleSheet) (one : Standing) (par : RoundPar) → AreStylesOf doc sheet → IsTextOf doc one par.text.now → HasProps sheet par → IsRoundPar doc one par
stated doc sheet one par of text has =
    let style : par.text.now.head.style ≡ (out-Par (par_of one)).style = ap (λ (head : ParHead). head.style) text.head in
    record {
      text = text;
      props = has.props ∙ ap (λ (defaults : Props). effective defaults sheet.styles par.text.now.head.style) of.0
          ∙ ap (λ (styles : List Style). effective doc.defaults styles par.text.now.head.style) of.1 ∙ ap (effective doc.defaults doc.styles) style;
      master = has.master ∙ ap (λ (styles : List Style). stated_master styles family.Paragraph par.text.now.head.style) of.1 ∙ ap (stated_master doc.styles family.Paragraph) style;
    }

-- all of them
pub all_stated : (doc : Document) (sheet : StyleSheet) (ones : List Standing) (pars : List RoundPar) → AreStylesOf doc sheet → Pairwise (IsTextOf doc) ones (map text_of pars) → Each (HasProps sheet) pars → AreRoundPars doc ones pars
all_stated doc sheet [] [] of texts has = tt
all_stated doc sheet [] (par ∷ pars) of texts has = texts
all_stated doc sheet (one ∷ ones) [] of texts has = texts
all_stated doc sheet (one ∷ ones) (par ∷ pars) of texts has = (stated doc sheet one par of texts.0 has.0, all_stated doc sheet ones pars of texts.1 has.1)
