use Rattle.std.proofs.Common.{◌∙◌, ap, sym, arith, ℕ, ◌+◌, length}
use Rattle.doc_model.specs.declared.block.Block.{Block}
use Rattle.edit_ops.proofs.Blocks.{sum_more, sum_front, sum_whole, body_of}
use Rattle.edit_ops.proofs.Changes.{within_limits}
use Rattle.edit_ops.proofs.draft.item_total.Goals as goal

pub overflow_add-total : goal.overflow_add-total
overflow_add-total c =
    let texts = c.requires.0 in
    let body = body_of c.args.document.now c.requires in
    omega (
      arith,
      c.summing.invariant texts body,
      sum_more texts c.get-block-items.result.now c.summing.block-index c.block-item.result c.block_items-total.result (c.get-block-items.ensures ∙ body) (omega arith) c.block-item.is c.block_items-total.ensures,
      sum_front (c.summing.block-index + 1) texts,
      (within_limits c.args.document.now c.requires).items,
    )

pub summing-preserved : goal.summing-preserved
summing-preserved c = λ texts e.
    ap (λ (n : ℕ). n + c.block_items-total.result) (c.summing.invariant texts e)
    ∙ sym (sum_more texts c.get-block-items.result.now c.summing.block-index c.block-item.result c.block_items-total.result (c.get-block-items.ensures ∙ e) (omega arith) c.block-item.is c.block_items-total.ensures)

pub returns : goal.returns
returns c =
    sum_whole c.args.document.now c.requires c.summing.block-index c.summing.total (omega (arith, ap (length {A = Block}) c.get-block-items.ensures))
    (c.summing.invariant c.requires.0 (body_of c.args.document.now c.requires))
