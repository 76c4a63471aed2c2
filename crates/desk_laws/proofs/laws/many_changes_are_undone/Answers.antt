use Rattle.desk_laws.proofs.UndoneAll.{undone_all}
use Rattle.desk_laws.proofs.laws.many_changes_are_undone.Goals as goal

pub returns : goal.returns
returns c = undone_all
