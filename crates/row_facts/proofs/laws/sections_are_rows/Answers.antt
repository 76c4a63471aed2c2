use Rattle.row_facts.proofs.EachSection.{each_section}
use Rattle.row_facts.proofs.EachNested.{each_nested}
use Rattle.row_facts.proofs.laws.sections_are_rows.Goals as goal

pub returns-clause-each : goal.returns-clause-each
returns-clause-each c = each_section

pub returns-clause-nested : goal.returns-clause-nested
returns-clause-nested c = each_nested
