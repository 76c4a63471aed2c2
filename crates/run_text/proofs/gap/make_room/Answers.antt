-- What stands before the gap stands before its end.
use Rattle.run_text.proofs.Gaps.{take-shorter}
use Rattle.run_text.proofs.gap.make_room.Goals as goal

pub returns-clause-front : goal.returns-clause-front
returns-clause-front g c = take-shorter _ _ c.args.start c.args.end c.in_ok-widen.ensures.front c.requires.ordered
