use Rattle.std.proofs.Common.{ℕ, List, sym, ap, ◌∙◌, arith, subst}
use Rattle.std.specs.List.Sorted.{IsNonDecreasing}
use Rattle.tagged_list.specs.Keeps.{times}
use Rattle.tagged_list.proofs.Parts.{times_taken, one_spot, no_spot}
use Rattle.tagged_list.proofs.spots.remember.Goals as goal
use Rattle.tagged_list.proofs.spots.remember.Goals.{in-None, in-Some+in_ok-put_in-in-Some}

pub loop-entry-preserved : goal.loop-entry-preserved
loop-entry-preserved g c =
    elim c.match-spot.branch [
      | in-None w ↦ record {
        sorted = subst (λ (xs : List ℕ). IsNonDecreasing xs) (sym w.spots-is) c.loop-entry.invariant.sorted;
        more = λ x. omega (arith, ap (times x) w.spots-is, c.loop-entry.invariant.more x, times_taken x c.args.entries.now c.loop-entry.entry-index c.entry-item.result c.loop-entry-test.true c.entry-item.is, no_spot x c.entry-item.result (sym c.spot.ensures ∙ w.in-None.is));
      }
      | in-Some+in_ok-put_in-in-Some w ↦ record {
        sorted = subst (λ (xs : List ℕ). IsNonDecreasing xs) (sym w.spots-is) w.in_ok-put_in-in-Some.ensures.sorted;
        more = λ x. omega (arith, ap (times x) w.spots-is, c.loop-entry.invariant.more x, w.in_ok-put_in-in-Some.ensures.more x, times_taken x c.args.entries.now c.loop-entry.entry-index c.entry-item.result c.loop-entry-test.true c.entry-item.is, one_spot x c.entry-item.result w.in-Some.spot (sym c.spot.ensures ∙ w.in-Some.is));
      }
    ]
