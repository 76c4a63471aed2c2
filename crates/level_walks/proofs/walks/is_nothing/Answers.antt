use Rattle.std.proofs.Common.{◌+◌, arith, drop}
use Rattle.level_rows.specs.Level.{held_in}
use Rattle.level_walks.specs.Walks.{is_nothing}
use Rattle.node_array.specs.Rows.{rows_of}
use Rattle.level_walks.proofs.Steps.{nothing_came, nothing_comes, something_comes, something_may_come}
use Rattle.level_walks.proofs.walks.is_nothing.Goals as goal

pub depth_behind-requires : goal.depth_behind-requires
depth_behind-requires c = record { fits = omega (arith, c.loop-at.invariant.1, c.loop-at-test.true, c.len-end.ensures) }

pub returns-then-is_one_held : goal.returns-then-is_one_held
returns-then-is_one_held c =
    something_comes (rows_of c.args.rows.now) c.loop-at.at c.loop-at.depth (is_nothing (held_in 0 (drop (c.args.place + 1) (rows_of c.args.rows.now)))) c.loop-at.invariant.0
    c.row-row.result.now c.row-row.ensures c.is_one_held.result c.is_one_held.ensures c.if-is_one_held.true

pub returns-in-None : goal.returns-in-None
returns-in-None c =
    nothing_comes (rows_of c.args.rows.now) c.loop-at.at c.loop-at.depth (is_nothing (held_in 0 (drop (c.args.place + 1) (rows_of c.args.rows.now)))) c.loop-at.invariant.0
    c.row-row.result.now c.row-row.ensures c.is_one_held.result c.is_one_held.ensures c.if-is_one_held.false c.in-None.ensures.is

pub loop-at-preserved : goal.loop-at-preserved
loop-at-preserved c = (
  something_may_come (rows_of c.args.rows.now) c.loop-at.at c.loop-at.depth (is_nothing (held_in 0 (drop (c.args.place + 1) (rows_of c.args.rows.now)))) c.loop-at.invariant.0
      c.row-row.result.now c.row-row.ensures c.is_one_held.result c.is_one_held.ensures c.if-is_one_held.false c.in-Some.behind c.in-Some.ensures.is,
  omega (arith, c.loop-at.invariant.1, c.in-Some.ensures.most),
)

pub returns : goal.returns
returns c =
    nothing_came (rows_of c.args.rows.now) c.loop-at.at c.loop-at.depth (is_nothing (held_in 0 (drop (c.args.place + 1) (rows_of c.args.rows.now)))) c.loop-at.invariant.0
    (omega (arith, c.loop-at-test.false, c.len-end.ensures))
