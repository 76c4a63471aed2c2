use Rattle.std.proofs.Common.{arith}
use Rattle.edit_ops.proofs.Changes.{refuses-paragraph, refuses-items, refuses-nothing, count_within, few_items}
use Rattle.edit_ops.proofs.draft.Draft.change_refusal.Goals as goal

pub overflow_sub-count-2 : goal.overflow_sub-count-2
overflow_sub-count-2 c = omega (arith, count_within c.args.self.now.document c.requires.plain c.args.par c.in-Some.count c.in-Some.ensures)

pub overflow_sub-self : goal.overflow_sub-self
overflow_sub-self c = omega (arith, count_within c.args.self.now.document c.requires.plain c.args.par c.in-Some.count c.in-Some.ensures, c.requires.counted)

pub overflow_sub-self-2 : goal.overflow_sub-self-2
overflow_sub-self-2 c = omega (arith, few_items c.args.self.now.document c.requires.plain, c.requires.counted)

pub returns-then-added-count : goal.returns-then-added-count
returns-then-added-count c =
    refuses-paragraph c.args.self.now.document c.requires.plain c.args.par c.args.from c.args.to c.args.added c.in-Some.count
    c.in-Some.ensures (omega arith) c.if-from-to.false c.if-added-count.true

pub returns-then-added-self : goal.returns-then-added-self
returns-then-added-self c =
    refuses-items c.args.self.now.document c.requires.plain c.args.par c.args.from c.args.to c.args.added c.in-Some.count c.args.self.now.items
    c.in-Some.ensures c.requires.counted (omega arith) c.if-from-to.false c.if-added-count.false c.if-added-self.true

pub returns : goal.returns
returns c =
    refuses-nothing c.args.self.now.document c.requires.plain c.args.par c.args.from c.args.to c.args.added c.in-Some.count c.args.self.now.items
    c.in-Some.ensures c.requires.counted (omega arith) c.if-from-to.false c.if-added-count.false c.if-added-self.false
