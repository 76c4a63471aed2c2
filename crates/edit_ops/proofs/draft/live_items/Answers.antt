use Rattle.std.proofs.Common.{◌∙◌, ap, sym, arith, List, ◌-◌}
use Rattle.std.specs.Prelude.{slice_get}
use Rattle.std.specs.Option.{option_copied}
use Rattle.doc_model.specs.declared.block.Block.{Block}
use Rattle.edit_ops.proofs.Blocks.{live-zero, live-none, live-some}
use Rattle.edit_ops.proofs.draft.live_items.Goals as goal

pub returns-then-par-eq0 : goal.returns-then-par-eq0
returns-then-par-eq0 c = live-zero c.args.document.now c.requires c.args.par c.if-par-eq0.true

pub returns-in_err-block : goal.returns-in_err-block
returns-in_err-block c =
    c.from_residual.ensures
    ∙ live-none c.args.document.now c.requires c.args.par (omega arith)
    (ap option_copied (sym c.in_err-block.was) ∙ c.at.ensures ∙ ap (λ (blocks : List Block). slice_get blocks (c.args.par.0 - 1)) c.get.ensures)

pub returns : goal.returns
returns c =
    live-some c.args.document.now c.requires c.args.par c.in_ok-block.block.now c.block_items.result (omega arith)
    (ap option_copied (sym c.in_ok-block.was) ∙ c.at.ensures ∙ ap (λ (blocks : List Block). slice_get blocks (c.args.par.0 - 1)) c.get.ensures)
    c.block_items.ensures
