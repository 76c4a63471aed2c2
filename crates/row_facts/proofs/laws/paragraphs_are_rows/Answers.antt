use Rattle.row_facts.proofs.EachParagraph.{each_paragraph}
use Rattle.row_facts.proofs.EachPlaced.{each_placed}
use Rattle.row_facts.proofs.laws.paragraphs_are_rows.Goals as goal

pub returns-clause-each : goal.returns-clause-each
returns-clause-each c = each_paragraph

pub returns-clause-placed : goal.returns-clause-placed
returns-clause-placed c = each_placed
