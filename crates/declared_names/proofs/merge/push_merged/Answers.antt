use Rattle.std.proofs.Common.{◌+◌, ℕ, List, get_or, sym, subst}
use Rattle.std.proofs.lemmas.List.{get_or_default}
use Rattle.declared_names.proofs.MergeLemmas.{Goes, goes_more}
use Rattle.declared_names.proofs.merge.push_merged.Goals as goal

pub other-preserved : goal.other-preserved
other-preserved c = λ rising.
    let one = c.args.one.now in
    let other = c.args.other.now in
    let old = c.args.places.now.items in
    let at = c.other.place-index in
    let place = get_or other at 0 in
    subst (λ (left : List ℕ). Goes one other old c.push.new.self.items left (at + 1)) (sym c.in_ok-left.ensures.rest)
    (goes_more one other old c.other.places.items c.other.left.now c.push_below.new.places.items c.push.new.self.items at place (c.other.invariant rising) c.other-test.true
    (get_or_default other at 0 place c.other-test.true) c.in_ok-left.ensures.added c.in_ok-push.ensures.items)
