use Rattle.desk_laws.proofs.Staleness.{stale_lines, fresh_lines}
use Rattle.desk_laws.proofs.laws.no_stale_line_enters.Goals as goal

pub returns-clause-stale : goal.returns-clause-stale
returns-clause-stale c = stale_lines

pub returns-clause-fresh : goal.returns-clause-fresh
returns-clause-fresh c = λ state job commands past told fresh. fresh_lines state job commands told fresh
