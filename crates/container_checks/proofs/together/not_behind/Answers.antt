use Rattle.container_checks.proofs.Moves.{bad_target, good_target}
use Rattle.container_checks.proofs.together.not_behind.Goals as goal

pub returns-then-is_bad_target : goal.returns-then-is_bad_target
returns-then-is_bad_target c = λ doc same apart named together.
    bad_target doc c.args.first c.args.last c.args.after c.is_bad_target.result named together (c.is_bad_target.ensures doc same apart) c.if-is_bad_target.true

pub returns-else-is_bad_target : goal.returns-else-is_bad_target
returns-else-is_bad_target c = λ doc same apart named together.
    good_target doc c.args.first c.args.last c.args.after c.is_bad_target.result named together (c.is_bad_target.ensures doc same apart) c.if-is_bad_target.false
