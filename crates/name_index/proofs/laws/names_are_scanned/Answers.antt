use Rattle.name_index.proofs.Placed.{placed_are_items}
use Rattle.name_index.proofs.Scanned.{found_is_scanned}
use Rattle.name_index.proofs.laws.names_are_scanned.Goals as goal

pub returns : goal.returns
returns c = record { found = found_is_scanned; items = placed_are_items }
