use Rattle.std.proofs.Common.{◌∙◌, ap, sym, arith}
use Rattle.node_array.specs.Rows.{rows_of}
use Rattle.node_array.specs.Body.{blocks_of}
use Rattle.row_body.proofs.Read.{read_more, read_all}
use Rattle.row_body.proofs.body.body_of.Goals as goal

pub loop-at-preserved : goal.loop-at-preserved
loop-at-preserved c = read_more (rows_of c.args.rows.now) c.loop-at.at c.row.result.now _ _ (omega arith) c.row.ensures c.loop-at.invariant c.in_ok-read_row.ensures

pub returns-in-Some : goal.returns-in-Some
returns-in-Some c =
    c.from_list.ensures ∙ c.into_blocks.ensures ∙ ap blocks_of (sym c.in-Some.ensures)
    ∙ read_all c.args.rows.now c.loop-at.at c.loop-at.levels (omega arith) c.loop-at.invariant

pub returns : goal.returns
returns c =
    c.new-in-None.ensures ∙ ap blocks_of (sym c.in-None.ensures.0) ∙ read_all c.args.rows.now c.loop-at.at c.loop-at.levels (omega arith) c.loop-at.invariant
