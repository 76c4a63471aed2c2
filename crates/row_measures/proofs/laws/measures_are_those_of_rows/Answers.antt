use Rattle.row_measures.proofs.Sections.{sections_counted}
use Rattle.row_measures.proofs.Counts.{paragraphs_counted, items_counted, most_counted}
use Rattle.row_measures.proofs.Names.{names_measured}
use Rattle.row_measures.proofs.laws.measures_are_those_of_rows.Goals as goal

pub returns : goal.returns
returns c = record { paragraphs = paragraphs_counted; items = items_counted; most = most_counted; sections = sections_counted; names = names_measured }
