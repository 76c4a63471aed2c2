use Rattle.std.proofs.Common.{sym, ◌∙◌, arith}
use Rattle.node_array.specs.Rows.{rows_of}
use Rattle.row_ends.proofs.EndRows.{passed, all_passed}
use Rattle.row_ends.proofs.ends.behind_ends.Goals as goal

pub loop-at-preserved : goal.loop-at-preserved
loop-at-preserved c =
    passed (rows_of c.args.rows.now) c.args.from c.loop-at.at c.args.count c.loop-at.left c.left_behind-left.result c.row.result.now c.row.ensures c.loop-at.invariant c.left_behind-left.ensures

pub returns-clause-place : goal.returns-clause-place
returns-clause-place c =
    c.len.ensures
    ∙ sym (c.loop-at.invariant ∙ all_passed (rows_of c.args.rows.now) c.loop-at.at c.loop-at.left (omega (arith, c.loop-at-test.false, c.loop-at.auto.at-end, c.requires.in_range, c.len-at-end.ensures)))
