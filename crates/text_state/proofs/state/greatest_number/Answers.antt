use Rattle.std.proofs.Common.{arith}
use Rattle.node_array.specs.Rows.{rows_of}
use Rattle.text_state.proofs.Numbers.{greatest_more}
use Rattle.text_state.proofs.state.greatest_number.Goals as goal

pub loop-at-preserved : goal.loop-at-preserved
loop-at-preserved c =
    greatest_more (rows_of c.args.rows.now) c.loop-at.at c.row.result.now c.loop-at.greatest c.greater-greatest.result (omega (arith, c.loop-at-test.true, c.len-at-end.ensures)) c.row.ensures
    c.loop-at.invariant c.greater-greatest.ensures
