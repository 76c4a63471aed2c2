use Rattle.std.proofs.Common.{List, ap, ◌∙◌}
use Rattle.std.specs.List.{splice}
use Rattle.std.proofs.lemmas.List.{append-nil}
use Rattle.doc_model.specs.declared.block.Block.{Block}
use Rattle.node_array.specs.Rows.{rows_of}
use Rattle.node_array.proofs.OneBody.{rows_known}
use Rattle.text_state.proofs.body_rows.array_of.Goals as goal

pub returns : goal.returns
returns c =
    rows_known _ c.args.body.now
    (c.in_ok-splice_rows.ensures.ok ∙ ap (λ (body : List Block). splice (rows_of body) 0 0 c.as_slice.result.now) c.new-array.ensures
    ∙ append-nil c.as_slice.result.now ∙ c.as_slice.ensures.value ∙ c.in_ok-rows.ensures)
