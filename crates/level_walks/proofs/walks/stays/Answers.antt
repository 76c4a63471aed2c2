use Rattle.std.proofs.Common.{arith}
use Rattle.std.specs.List.{between}
use Rattle.level_walks.specs.Walks.{stays}
use Rattle.node_array.specs.Rows.{rows_of}
use Rattle.level_walks.proofs.Steps.{arrives, goes_on, stops}
use Rattle.level_walks.proofs.walks.stays.Goals as goal

pub depth_behind-requires : goal.depth_behind-requires
depth_behind-requires c = record { fits = omega (arith, c.loop-at.invariant.1, c.loop-at-test.true, c.ranges.to) }

pub loop-at-preserved : goal.loop-at-preserved
loop-at-preserved c = (
  goes_on c.args.sections (rows_of c.args.rows.now) c.loop-at.at c.args.to c.loop-at.depth (stays c.args.sections 0 (between c.args.from c.args.to (rows_of c.args.rows.now))) c.loop-at.invariant.0
      c.row-row.result.now c.row-row.ensures c.loop-at-test.true c.in-Some.behind c.in-Some.ensures.is,
  omega (arith, c.loop-at.invariant.1, c.in-Some.ensures.most),
)

pub returns-in-None : goal.returns-in-None
returns-in-None c =
    stops c.args.sections (rows_of c.args.rows.now) c.loop-at.at c.args.to c.loop-at.depth (stays c.args.sections 0 (between c.args.from c.args.to (rows_of c.args.rows.now))) c.loop-at.invariant.0
    c.row-row.result.now c.row-row.ensures c.loop-at-test.true c.in-None.ensures.is

pub returns : goal.returns
returns c =
    arrives c.args.sections (rows_of c.args.rows.now) c.loop-at.at c.args.to c.loop-at.depth (stays c.args.sections 0 (between c.args.from c.args.to (rows_of c.args.rows.now))) c.loop-at.invariant.0
    c.loop-at-test.false
