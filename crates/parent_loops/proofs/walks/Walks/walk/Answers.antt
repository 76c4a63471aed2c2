use Rattle.std.proofs.Common.{◌≡◌, ◌<◌, ◌+◌, ◌-◌, ℕ, List, Bool, length, ap, subst, inl, inr, arith}
use Rattle.std.proofs.lemmas.List.{get_or_read}
use Rattle.parent_loops.specs.Walked.{met_at, AreMarked}
use Rattle.parent_loops.proofs.WalkLemmas.{decided_straight, decided_round, inside_round}
use Rattle.parent_loops.proofs.walks.Walks.walk.Goals as goal

pub returns-then-at-parents-clause-decided : goal.returns-then-at-parents-clause-decided
returns-then-at-parents-clause-decided c =
    let end = c.meet-at.new.self in
    rw c.meet-at.ensures.kept
    (decided_straight c.args.parents.now c.args.from c.args.self.now.count c.args.self.now.order.items end.order.items c.args.self.now.loops.items end.count c.meet-at.result
    c.requires.decided c.meet-at.ensures.walked (inl c.if-at-parents.true))

pub returns-then-met-first-clause-decided : goal.returns-then-met-first-clause-decided
returns-then-met-first-clause-decided c =
    let end = c.meet-at.new.self in
    let at = c.meet-at.result in
    let order = end.order.items in
    let orders = c.meet-at.ensures.walked.orders in
    let within = c.if-at-parents.false in
    let inside : at < length order = omega (arith, orders, within) in
    let met : c.index-met.result.now ≡ met_at order at = get_or_read order at c.index-met.result.now inside c.index-met.ensures 0 in
    let before = c.if-met-first.true in
    rw c.meet-at.ensures.kept
    (decided_straight c.args.parents.now c.args.from c.args.self.now.count c.args.self.now.order.items order c.args.self.now.loops.items end.count at
    c.requires.decided c.meet-at.ensures.walked
    (elim c.meet-at.ensures.ended [ inl past ↦ inl past | inr there ↦ inr (there, omega (arith, met, before)) ]))

pub overflow_sub-self : goal.overflow_sub-self
overflow_sub-self c =
    let order = c.meet-at.new.self.order.items in
    let orders = c.meet-at.ensures.walked.orders in
    let within = c.if-at-parents.false in
    let inside : c.meet-at.result < length order = omega (arith, orders, within) in
    let met : c.index-met.result.now ≡ met_at order c.meet-at.result = get_or_read order c.meet-at.result c.index-met.result.now inside c.index-met.ensures 0 in
    let counted = c.meet-at.ensures.walked.counted c.meet-at.result in
    omega (arith, met, counted)

pub mark-requires-clause-within : goal.mark-requires-clause-within
mark-requires-clause-within c = λ steps few.
    let end = c.meet-at.new.self in
    let at = c.meet-at.result in
    let order = end.order.items in
    let orders = c.meet-at.ensures.walked.orders in
    let within = c.if-at-parents.false in
    let inside : at < length order = omega (arith, orders, within) in
    let met : c.index-met.result.now ≡ met_at order at = get_or_read order at c.index-met.result.now inside c.index-met.ensures 0 in
    let after = c.if-met-first.false in
    let later : c.args.self.now.count < met_at order at = omega (arith, met, after) in
    inside_round c.args.parents.now c.args.from c.args.self.now.count c.args.self.now.order.items order c.args.self.now.loops.items end.count at
    c.requires.decided c.meet-at.ensures.walked later steps (omega (arith, few, met))

pub returns-clause-decided : goal.returns-clause-decided
returns-clause-decided c =
    let end = c.meet-at.new.self in
    let at = c.meet-at.result in
    let order = end.order.items in
    let loops = c.args.self.now.loops.items in
    let marked = c.mark.new.self.loops.items in
    let orders = c.meet-at.ensures.walked.orders in
    let within = c.if-at-parents.false in
    let inside : at < length order = omega (arith, orders, within) in
    let met : c.index-met.result.now ≡ met_at order at = get_or_read order at c.index-met.result.now inside c.index-met.ensures 0 in
    let after = c.if-met-first.false in
    let later : c.args.self.now.count < met_at order at = omega (arith, met, after) in
    let was : end.loops.items ≡ loops = ap (λ v. v.items) c.meet-at.ensures.kept in
    let m : AreMarked c.args.parents.now at ((end.count - met_at order at) + 1) loops marked =
    subst (λ (old : List Bool). AreMarked c.args.parents.now at ((end.count - met_at order at) + 1) old marked) was
    (subst (λ (n : ℕ). AreMarked c.args.parents.now at ((end.count - n) + 1) end.loops.items marked) met c.mark.ensures.marked) in
    rw (c.mark.ensures.kept.0, c.mark.ensures.kept.1)
    (decided_round c.args.parents.now c.args.from c.args.self.now.count c.args.self.now.order.items order loops end.count at
    c.requires.decided c.meet-at.ensures.walked later marked m)
