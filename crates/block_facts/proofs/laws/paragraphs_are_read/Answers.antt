use Rattle.block_facts.proofs.Blocks.{par_reads, section_reads}
use Rattle.block_facts.proofs.laws.paragraphs_are_read.Goals as goal

pub returns-clause-par : goal.returns-clause-par
returns-clause-par c = par_reads

pub returns-clause-section : goal.returns-clause-section
returns-clause-section c = section_reads
