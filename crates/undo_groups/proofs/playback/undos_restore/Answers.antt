use Rattle.undo_groups.proofs.Restoring.{runs-undone}
use Rattle.undo_groups.proofs.playback.undos_restore.Goals as goal

pub returns : goal.returns
returns g c = λ start middle end n few runs undos. runs-undone start middle end n few runs undos
