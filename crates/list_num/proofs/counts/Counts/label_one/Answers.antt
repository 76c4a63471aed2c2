use Rattle.std.proofs.Common.{sym, ◌∙◌}
use Rattle.list_num.proofs.Placing.{label-none, have-none, place-unnamed, place-named, place-text, name_none, name_some}
use Rattle.list_num.proofs.counts.Counts.label_one.Goals as goal

pub returns-then-is_empty-clause-label : goal.returns-then-is_empty-clause-label
returns-then-is_empty-clause-label c before counted =
    let empty = name_none c.get.result.now c.in-Some.place.style c.get.ensures (sym c.is_empty.ensures ∙ c.if-is_empty.true) in
    c.no_label.ensures ∙ label-none c.args.lists.now c.args.outline.now before c.args.head.now (place-unnamed c.args.head.now c.in-Some.place c.in-Some.is empty)

pub returns-then-is_empty-clause-counted : goal.returns-then-is_empty-clause-counted
returns-then-is_empty-clause-counted c before counted =
    let empty = name_none c.get.result.now c.in-Some.place.style c.get.ensures (sym c.is_empty.ensures ∙ c.if-is_empty.true) in
    have-none c.args.lists.now before c.args.head.now c.args.self.now (place-unnamed c.args.head.now c.in-Some.place c.in-Some.is empty) counted

pub label_in_list-requires-clause-named : goal.label_in_list-requires-clause-named
label_in_list-requires-clause-named c = name_some c.get.result.now c.in-Some.place.style c.get.utf8 c.get.ensures (sym c.is_empty.ensures ∙ c.if-is_empty.false)

pub returns-then-head-eq0-clause-counted : goal.returns-then-head-eq0-clause-counted
returns-then-head-eq0-clause-counted c before counted = have-none c.args.lists.now before c.args.head.now c.args.self.now (place-text c.args.head.now c.in-None.is c.if-head-eq0.true) counted

pub returns-else-is_empty-clause-label : goal.returns-else-is_empty-clause-label
returns-else-is_empty-clause-label c before counted =
    let named = name_some c.get.result.now c.in-Some.place.style c.get.utf8 c.get.ensures (sym c.is_empty.ensures ∙ c.if-is_empty.false) in
    c.label_in_list.ensures.label c.args.outline.now before c.args.head.now (place-named c.args.head.now c.in-Some.place c.in-Some.is named) counted

pub returns-else-is_empty-clause-counted : goal.returns-else-is_empty-clause-counted
returns-else-is_empty-clause-counted c before counted =
    let named = name_some c.get.result.now c.in-Some.place.style c.get.utf8 c.get.ensures (sym c.is_empty.ensures ∙ c.if-is_empty.false) in
    c.label_in_list.ensures.counted before c.args.head.now (place-named c.args.head.now c.in-Some.place c.in-Some.is named) counted
