use Rattle.desk_laws.proofs.Undone.{undone_edit, redone_undo}
use Rattle.desk_laws.proofs.laws.changes_are_undone.Goals as goal

pub returns-clause-edit : goal.returns-clause-edit
returns-clause-edit c = undone_edit

pub returns-clause-again : goal.returns-clause-again
returns-clause-again c = redone_undo
