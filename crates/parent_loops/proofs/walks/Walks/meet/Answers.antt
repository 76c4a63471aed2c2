use Rattle.std.proofs.Common.{◌≡◌, ◌<◌, ◌+◌, ℕ, length, ◌∙◌, set, sym, subst, arith}
use Rattle.std.proofs.lemmas.List.{get_or_read}
use Rattle.parent_loops.specs.Walked.{met_at, IsWalked}
use Rattle.parent_loops.proofs.WalkLemmas.{walked_more}
use Rattle.parent_loops.proofs.walks.Walks.meet.Goals as goal

pub steps-preserved : goal.steps-preserved
steps-preserved c =
    let parents = c.args.parents.now in
    let first = c.args.self.now.count in
    let old = c.args.self.now.order.items in
    let new = c.steps.self.order.items in
    let count = c.steps.self.count in
    let at = c.steps.at in
    let known = c.steps.invariant.walked in
    let orders = known.orders in
    let within = c.steps-test.true in
    let inside : at < length new = omega (arith, orders, within) in
    let unmet : met_at new at ≡ 0 = sym (get_or_read new at c.index.result.now inside c.index.ensures 0) ∙ c.if-index-ne0.false in
    record {
      walked = subst (λ (next : ℕ). IsWalked parents c.args.from first old (set new at (count + 1)) (count + 1) next) (sym c.parent_of-at.ensures)
          (walked_more parents c.args.from first old new count at known within unmet);
      kept = c.steps.invariant.kept;
    }
