use Rattle.std.proofs.Common.{◌∙◌}
use Rattle.std.specs.Arc.{arc_value}
use Rattle.index_steps.proofs.Ranges.{parted}
use Rattle.index_steps.proofs.names.split_names.Goals as goal

pub returns : goal.returns
returns c =
    parted c.args.items.now c.args.at c.len.result c.args.from c.args.to (arc_value c.args.names.now) c.in_ok-index.index c.redirect_range.new.index c.redirect_range-2.new.index (arc_value c.in_ok-new.field-0)
    c.len.ensures (c.in_ok-index.ensures ∙ c.deref.ensures) c.in_ok-new.ensures.ok c.requires.new c.in_ok-redirect_range.ensures c.in_ok-redirect_range-2.ensures
