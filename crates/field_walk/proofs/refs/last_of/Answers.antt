use Rattle.std.proofs.Common.{◌∙◌}
use Rattle.field_walk.proofs.PartLemmas.{last_whole}
use Rattle.field_walk.proofs.refs.last_of.Goals as goal

pub returns : goal.returns
returns g c = c.at.ensures ∙ last_whole c.args.list.now c.count_of-count.result c.count_of-count.ensures c.if-count-eq0.false
