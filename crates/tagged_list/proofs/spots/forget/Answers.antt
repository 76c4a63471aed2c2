use Rattle.std.proofs.Common.{ℕ, List, sym, ap, ◌∙◌, arith, subst}
use Rattle.std.specs.List.Sorted.{IsNonDecreasing}
use Rattle.tagged_list.specs.Keeps.{times}
use Rattle.tagged_list.proofs.Parts.{times_more, one_spot, no_spot, spot_in}
use Rattle.tagged_list.proofs.spots.forget.Goals as goal
use Rattle.tagged_list.proofs.spots.forget.Goals.{in-None, in-Some+in_ok-take_out-in-Some}

pub take_out-requires-clause-there : goal.take_out-requires-clause-there
take_out-requires-clause-there g c =
    let spot = c.in-Some.spot in
    omega (arith, c.requires.there spot, c.loop-at.invariant.left spot, spot_in c.args.items.now c.args.from c.loop-at.at c.args.to c.get.result.now spot (omega arith) (omega arith) c.get.ensures (sym c.spot.ensures ∙ c.in-Some.is))

pub loop-at-preserved : goal.loop-at-preserved
loop-at-preserved g c =
    elim c.match-spot.branch [
      | in-None w ↦ record {
        sorted = subst (λ (xs : List ℕ). IsNonDecreasing xs) (sym w.spots-is) c.loop-at.invariant.sorted;
        left = λ x. omega (arith, ap (times x) w.spots-is, c.loop-at.invariant.left x, times_more x c.args.items.now c.args.from c.loop-at.at c.get.result.now (omega arith) c.get.ensures, no_spot x c.get.result.now (sym c.spot.ensures ∙ w.in-None.is));
      }
      | in-Some+in_ok-take_out-in-Some w ↦ record {
        sorted = subst (λ (xs : List ℕ). IsNonDecreasing xs) (sym w.spots-is) w.in_ok-take_out-in-Some.ensures.sorted;
        left = λ x. omega (arith, ap (times x) w.spots-is, c.loop-at.invariant.left x, w.in_ok-take_out-in-Some.ensures.left x, times_more x c.args.items.now c.args.from c.loop-at.at c.get.result.now (omega arith) c.get.ensures, one_spot x c.get.result.now w.in-Some.spot (sym c.spot.ensures ∙ w.in-Some.is));
      }
    ]
