use Rattle.std.proofs.Common.{sym, ◌∙◌}
use Rattle.list_num.specs.Counters.{count_in}
use Rattle.list_num.proofs.Labelling.{numbered}
use Rattle.list_num.proofs.labels.item_label.Goals as goal

pub returns-in_ok-plain-in-Number : goal.returns-in_ok-plain-in-Number
returns-in_ok-plain-in-Number c =
    numbered c.numbered_label.result c.args.levels.now (count_in c.args.counters.now) c.args.own c.in-Some.level.now c.in-Number.format c.in-Number.prefix c.in-Number.suffix c.in_ok-plain-in-Number.plain c.in-Number.start c.in-Number.display
    c.in-Some.ensures c.in-Number.is (sym c.is_empty.ensures ∙ c.if-is_empty.false) c.in_ok-plain-in-Number.ensures c.numbered_label.ensures.full c.numbered_label.ensures.plain
