use Rattle.std.proofs.Common.{arith}
use Rattle.break_units.proofs.Columns.{str_width-le}
use Rattle.break_units.proofs.clusters.unit_at.Goals as goal

pub overflow_cast-result-2 : goal.overflow_cast-result-2
overflow_cast-result-2 c = omega (arith, str_width-le c.args.cluster.now c.utf8.cluster, c.width.ensures.value)
