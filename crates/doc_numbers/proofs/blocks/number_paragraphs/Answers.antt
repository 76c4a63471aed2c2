use Rattle.std.proofs.Common.{List, length, map, ap, subst, arith}
use Rattle.doc_model.specs.declared.block.Block.{Block}
use Rattle.doc_model.specs.declared.paragraph.Par.{Par}
use Rattle.doc_model.specs.Reading.{paragraphs, number_of, with_notes, block_paragraphs}
use Rattle.doc_numbers.specs.Numbering.{Follow}
use Rattle.doc_numbers.proofs.BlockLemmas.{flat_flat}
use Rattle.doc_numbers.proofs.ParLemmas.{distinct_follow}
use Rattle.doc_numbers.proofs.blocks.number_paragraphs.Goals as goal

pub number_body-requires : goal.number_body-requires
number_body-requires c =
    let size = ap (λ (pars : List Par). length pars) (flat_flat with_notes block_paragraphs c.args.doc.body) in
    let few = c.requires in
    omega (arith, size, few)

pub returns : goal.returns
returns c = λ distinct.
    let doc = c.args.doc in
    let numbers = map number_of (paragraphs doc) in
    ap (λ (body : List Block). record doc { body = body })
    (c.in_ok-body.ensures numbers (subst (Follow numbers 0) (flat_flat with_notes block_paragraphs doc.body) (distinct_follow (paragraphs doc) distinct)))
