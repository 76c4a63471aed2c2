use Rattle.std.proofs.Common.{sym}
use Rattle.node_array.specs.Rows.{rows_of}
use Rattle.level_walks.proofs.Ordered.{last_before, no_last, walk_tells}
use Rattle.level_walks.proofs.order.comes_from.Goals as goal

pub returns-in-None : goal.returns-in-None
returns-in-None c = no_last c.args.sections (rows_of c.args.rows.now) c.args.from c.args.last (sym c.in-None.ensures)

pub returns-then-to-from : goal.returns-then-to-from
returns-then-to-from c = last_before c.args.sections (rows_of c.args.rows.now) c.args.from c.args.last c.in-Some.to c.requires.apart (sym c.in-Some.ensures) c.if-to-from.true

pub returns-else-to-from : goal.returns-else-to-from
returns-else-to-from c =
    walk_tells c.args.sections (rows_of c.args.rows.now) c.args.from c.args.last c.in-Some.to c.stays.result c.requires.apart (sym c.in-Some.ensures) c.if-to-from.false c.stays.ensures
