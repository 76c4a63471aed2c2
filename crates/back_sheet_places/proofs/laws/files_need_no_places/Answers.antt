use Rattle.back_sheet_places.proofs.Files.{global_bare, root_left_bare, body_left_bare}
use Rattle.back_sheet_places.proofs.laws.files_need_no_places.Goals as goal

pub returns : goal.returns
returns c = record { global = global_bare; root = root_left_bare; body = body_left_bare }
