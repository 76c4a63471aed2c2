use Rattle.back_parts.proofs.Sheets.{styles_back, defaults_back, lists_back, outline_back, layouts_back, sheets_left}
use Rattle.back_parts.proofs.laws.sheets_are_read_back.Goals as goal

pub returns-clause-styles : goal.returns-clause-styles
returns-clause-styles c = styles_back

pub returns-clause-defaults : goal.returns-clause-defaults
returns-clause-defaults c = defaults_back

pub returns-clause-lists : goal.returns-clause-lists
returns-clause-lists c = lists_back

pub returns-clause-outline : goal.returns-clause-outline
returns-clause-outline c = outline_back

pub returns-clause-layouts : goal.returns-clause-layouts
returns-clause-layouts c = layouts_back

pub returns-clause-left : goal.returns-clause-left
returns-clause-left c = sheets_left
