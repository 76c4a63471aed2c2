use Rattle.back_parts.proofs.Styles.{each_style_back, default_style_back, each_list_back, outline_style_back, each_layout_back}
use Rattle.back_parts.proofs.laws.valid_styles_are_read_back.Goals as goal

pub returns-clause-styles : goal.returns-clause-styles
returns-clause-styles c = each_style_back

pub returns-clause-defaults : goal.returns-clause-defaults
returns-clause-defaults c = default_style_back

pub returns-clause-lists : goal.returns-clause-lists
returns-clause-lists c = each_list_back

pub returns-clause-outline : goal.returns-clause-outline
returns-clause-outline c = outline_style_back

pub returns-clause-layouts : goal.returns-clause-layouts
returns-clause-layouts c = each_layout_back
