use Rattle.std.proofs.Common.{◌+◌, ◌++◌, List, ap, ap₂, ◌∙◌, take}
use Rattle.doc_model.specs.declared.paragraph.Par.{Par}
use Rattle.doc_model.specs.Reading.{block_paragraphs}
use Rattle.format_model.specs.Standing.{BodyPar, body_pars_in}
use Rattle.doc_texts.proofs.Blocks.{within_none}
use Rattle.doc_texts.proofs.Steps.{flat_more, take_item}
use Rattle.doc_texts.proofs.places.body_places.Goals as goal

pub loop-block-preserved : goal.loop-block-preserved
loop-block-preserved c =
    let body = c.args.body.now in
    let index = c.loop-block.block-index in
    let block = c.block-item.result in
    let more = take_item body index block c.block-item.is c.loop-block-test.true in (
      c.in_ok-push_block.ensures.placed ∙ ap₂ (λ (front back : List BodyPar). front ++ back) c.loop-block.invariant.0 (within_none (body_pars_in block))
          ∙ flat_more body_pars_in (take index body) (take (index + 1) body) block more,
      c.in_ok-push_block.ensures.read ∙ ap (λ (front : List Par). front ++ block_paragraphs block) c.loop-block.invariant.1
          ∙ flat_more block_paragraphs (take index body) (take (index + 1) body) block more,
    )
