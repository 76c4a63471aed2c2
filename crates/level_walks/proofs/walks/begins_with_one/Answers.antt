use Rattle.std.proofs.Common.{◌+◌, arith, drop}
use Rattle.level_rows.specs.Level.{held_in}
use Rattle.level_walks.specs.Walks.{begins_with_one}
use Rattle.node_array.specs.Rows.{rows_of}
use Rattle.level_walks.proofs.Steps.{none_came, none_comes, one_comes, one_may_come}
use Rattle.level_walks.proofs.walks.begins_with_one.Goals as goal

pub depth_behind-requires : goal.depth_behind-requires
depth_behind-requires c = record { fits = omega (arith, c.loop-at.invariant.1, c.loop-at-test.true, c.len-end.ensures) }

pub returns-then-is_held_here : goal.returns-then-is_held_here
returns-then-is_held_here c =
    one_comes (rows_of c.args.rows.now) c.loop-at.at c.loop-at.depth (begins_with_one (held_in 0 (drop (c.args.place + 1) (rows_of c.args.rows.now)))) c.loop-at.invariant.0
    c.row-row.result.now c.row-row.ensures c.is_held_here.result c.is_held_here.ensures c.if-is_held_here.true

pub returns-in-None : goal.returns-in-None
returns-in-None c =
    none_comes (rows_of c.args.rows.now) c.loop-at.at c.loop-at.depth (begins_with_one (held_in 0 (drop (c.args.place + 1) (rows_of c.args.rows.now)))) c.loop-at.invariant.0
    c.row-row.result.now c.row-row.ensures c.is_held_here.result c.is_held_here.ensures c.if-is_held_here.false c.in-None.ensures.is

pub loop-at-preserved : goal.loop-at-preserved
loop-at-preserved c = (
  one_may_come (rows_of c.args.rows.now) c.loop-at.at c.loop-at.depth (begins_with_one (held_in 0 (drop (c.args.place + 1) (rows_of c.args.rows.now)))) c.loop-at.invariant.0
      c.row-row.result.now c.row-row.ensures c.is_held_here.result c.is_held_here.ensures c.if-is_held_here.false c.in-Some.behind c.in-Some.ensures.is,
  omega (arith, c.loop-at.invariant.1, c.in-Some.ensures.most),
)

pub returns : goal.returns
returns c =
    none_came (rows_of c.args.rows.now) c.loop-at.at c.loop-at.depth (begins_with_one (held_in 0 (drop (c.args.place + 1) (rows_of c.args.rows.now)))) c.loop-at.invariant.0
    (omega (arith, c.loop-at-test.false, c.len-end.ensures))
