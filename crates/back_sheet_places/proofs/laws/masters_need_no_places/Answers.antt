use Rattle.back_sheet_places.proofs.Heads.{masters_bare, masters_left_bare, masters_count}
use Rattle.back_sheet_places.proofs.laws.masters_need_no_places.Goals as goal

pub returns : goal.returns
returns c = record { masters = masters_bare; left = masters_left_bare; kept = masters_count }
