use Rattle.std.proofs.Common.{◌∙◌, ap, sym, Some}
use Rattle.doc_model.specs.declared.block.Block.{Block}
use Rattle.edit_ops.proofs.Blocks.{slice_get-get_or}
use Rattle.edit_ops.proofs.draft.swap_block.Goals as goal

pub returns-clause-taken : goal.returns-clause-taken
returns-clause-taken c =
    slice_get-get_or c.args.blocks.now.items c.args.place c.index_mut.result.now c.requires
    ∙ ap (λ (b : Block). Some b) (sym (c.replace.ensures.value ∙ c.index_mut.ensures.value))
