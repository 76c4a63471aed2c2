use Rattle.block_facts.proofs.Blocks.{par_changes, section_changes}
use Rattle.block_facts.proofs.laws.paragraphs_are_changed.Goals as goal

pub returns-clause-par : goal.returns-clause-par
returns-clause-par c = par_changes

pub returns-clause-section : goal.returns-clause-section
returns-clause-section c = section_changes
