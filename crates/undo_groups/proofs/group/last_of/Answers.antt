use Rattle.undo_groups.proofs.Splits.{last-cases}
use Rattle.undo_groups.proofs.group.last_of.Goals as goal

pub returns : goal.returns
returns g c = last-cases c.args.groups.now.items _ c.back.result c.args.groups.now.ok.0 c.back.ensures.variant c.back.ensures.lookup
