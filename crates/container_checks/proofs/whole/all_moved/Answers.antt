use Rattle.std.proofs.Common.{[], ◌∷◌}
use Rattle.level_walks.proofs.Live.{first_live, rest_live}
use Rattle.container_checks.proofs.Moves.{all_refused, some_left}
use Rattle.container_checks.proofs.whole.all_moved.Goals as goal

pub returns-then-is_whole : goal.returns-then-is_whole
returns-then-is_whole c = λ doc after same apart named stand.
    all_refused doc c.args.first c.args.last after stand apart c.is_whole.result
    (c.is_whole.ensures doc same apart (first_live doc c.args.first (c.args.last ∷ after ∷ []) named) (first_live doc c.args.last (after ∷ []) (rest_live doc c.args.first (c.args.last ∷ after ∷ []) named)))
    c.if-is_whole.true

pub returns-else-is_whole : goal.returns-else-is_whole
returns-else-is_whole c = λ doc after same apart named stand.
    some_left doc c.args.first c.args.last after stand apart c.is_whole.result
    (c.is_whole.ensures doc same apart (first_live doc c.args.first (c.args.last ∷ after ∷ []) named) (first_live doc c.args.last (after ∷ []) (rest_live doc c.args.first (c.args.last ∷ after ∷ []) named)))
    c.if-is_whole.false
