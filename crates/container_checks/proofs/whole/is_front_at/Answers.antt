use Rattle.std.proofs.Common.{◌<◌, ◌∙◌, arith, sym, length}
use Rattle.node_array.specs.Rows.{rows_of}
use Rattle.edit_checks.proofs.Rows.{place_within}
use Rattle.container_checks.proofs.Fronts.{front_behind, front_first}
use Rattle.container_checks.proofs.whole.is_front_at.Goals as goal

pub row-requires : goal.row-requires
row-requires c =
    let within : c.args.at < length (rows_of c.args.rows.now) = place_within c.args.par (rows_of c.args.rows.now) c.args.at (sym c.requires.found) in
    record { in_range = omega (arith, within) }

pub returns-then-at-eq0 : goal.returns-then-at-eq0
returns-then-at-eq0 c = front_first c.args.par (rows_of c.args.rows.now) c.args.at c.requires.apart c.requires.found c.if-at-eq0.true

pub returns : goal.returns
returns c = c.begins.ensures ∙ front_behind c.args.par (rows_of c.args.rows.now) c.args.at c.requires.apart c.requires.found c.if-at-eq0.false c.row.result.now c.row.ensures
