use Rattle.back_names.proofs.Root.{root_resolved, root_names}
use Rattle.back_names.proofs.laws.names_are_read_back.Goals as goal

pub returns : goal.returns
returns c = record { resolved = root_resolved; good = root_names }
