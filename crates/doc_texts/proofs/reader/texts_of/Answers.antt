use Rattle.std.proofs.Common.{◌≡◌, List, [], map, reverse, ap, ap₂, subst, ◌∙◌}
use Rattle.std.specs.List.{flat_map}
use Rattle.doc_model.specs.declared.list_style.ListStyle.{ListStyle}
use Rattle.doc_model.specs.Reading.{block_paragraphs}
use Rattle.format_model.specs.Keys.{gathered_from, standing}
use Rattle.format_model.specs.Standing.{body_pars_in}
use Rattle.doc_texts.specs.declared.places.BodyPlace.{BodyPlace}
use Rattle.doc_texts.specs.Places.{with_notes}
use Rattle.doc_texts.specs.Behind.{all_behind}
use Rattle.doc_texts.specs.Holds.{gathered_par}
use Rattle.doc_texts.specs.Order.{AreNext}
use Rattle.doc_texts.proofs.Whole.{all_gathered, lent_ordered}
use Rattle.doc_texts.proofs.reader.texts_of.Goals as goal

pub returns : goal.returns
returns c =
    let doc = c.args.doc.now in
    let lists = c.get-2.result.now in
    let places = c.as_slice.result.now in
    let read = c.in_ok-read_all.ensures [] (c.new-reader.ensures lists) in
    let all : all_behind lists doc.outline [] (flat_map (λ (lent : BodyPlace). with_notes lent.par.now) places) ≡ gathered_from doc 0 [] (standing doc) =
    ap₂ (λ (lists : List ListStyle) (places : List BodyPlace). all_behind lists doc.outline [] (flat_map (λ (lent : BodyPlace). with_notes lent.par.now) places)) c.get-2.ensures c.as_slice.ensures.value
    ∙ all_gathered doc c.in_ok-places.places.items (c.in_ok-places.ensures.placed ∙ ap (flat_map body_pars_in) c.get.ensures) (c.in_ok-places.ensures.read ∙ ap (flat_map block_paragraphs) c.get.ensures) in
    record {
      all = ap (map gathered_par) c.into_texts.ensures ∙ read.texts ∙ ap reverse all;
      ordered = subst AreNext all (lent_ordered lists doc.outline places);
    }
