use Rattle.back_sheet_places.proofs.Kept.{names_bare}
use Rattle.back_sheet_places.proofs.Lefts.{styles_count, lists_count, layouts_count, parts_left_bare}
use Rattle.back_sheet_places.proofs.Values.{styles_bare, defaults_bare, lists_bare, outline_bare, layouts_bare}
use Rattle.back_sheet_places.proofs.laws.sheets_need_no_places.Goals as goal

pub returns : goal.returns
returns c = record {
  names = names_bare;
  styles = styles_bare;
  defaults = defaults_bare;
  lists = lists_bare;
  outline = outline_bare;
  layouts = layouts_bare;
  left = parts_left_bare;
  kept_styles = styles_count;
  kept_lists = lists_count;
  kept_layouts = layouts_count;
}
