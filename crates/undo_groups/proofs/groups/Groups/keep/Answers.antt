use Rattle.std.proofs.Common.{sym, subst}
use Rattle.undo_groups.specs.Lists.{Moves}
use Rattle.undo_groups.proofs.groups.Groups.keep.Goals as goal

pub returns-in-Run-clause-moves : goal.returns-in-Run-clause-moves
returns-in-Run-clause-moves g c = λ prims next. subst (λ w. Moves w prims c.args.kept c.args.self.now c.append.new.self) (sym c.in-Run.is) (c.append.ensures.moves prims tt)
