use Rattle.row_measures.proofs.Sections.{sections_left, count_left, depth_left}
use Rattle.row_measures.proofs.laws.changes_of_paragraphs_leave_sections.Goals as goal

pub returns : goal.returns
returns c = record { sections = sections_left; count = count_left; depth = depth_left }
