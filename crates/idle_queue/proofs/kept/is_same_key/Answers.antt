use Rattle.idle_queue.proofs.SameKeys.{same_tells}
use Rattle.idle_queue.proofs.kept.is_same_key.Goals as goal

pub returns : goal.returns
returns c = same_tells c.is_same.result c.args.key.now c.args.other.now c.is_same.ensures
