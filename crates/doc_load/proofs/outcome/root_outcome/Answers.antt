use Rattle.doc_load.proofs.outcome.root_outcome.Goals as goal

pub outcome_of_parts-requires-clause-parts : goal.outcome_of_parts-requires-clause-parts
outcome_of_parts-requires-clause-parts c = c.in_ok-parts.ensures c.in_ok-sheet.ensures

pub outcome_of_parts-requires-clause-text : goal.outcome_of_parts-requires-clause-text
outcome_of_parts-requires-clause-text c = c.in_ok-text.ensures c.requires c.in_ok-sheet.ensures.names_are
