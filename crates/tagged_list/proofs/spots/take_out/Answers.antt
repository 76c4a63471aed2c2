use Rattle.std.proofs.Common.{ℕ, ◌+◌, List, [], ◌∷◌, sym, ap, ◌∙◌, subst}
use Rattle.std.specs.List.Sorted.{IsNonDecreasing}
use Rattle.tagged_list.specs.Keeps.{times}
use Rattle.tagged_list.proofs.Counts.{place_holds, times_remove, sorted_remove}
use Rattle.tagged_list.proofs.spots.take_out.Goals as goal

pub remove-requires-clause-in_range : goal.remove-requires-clause-in_range
remove-requires-clause-in_range c =
    (place_holds c.args.spots.now c.args.spot.now c.place_of-place.result c.requires.sorted c.place_of-place.ensures.within c.place_of-place.ensures.below c.place_of-place.ensures.above c.requires.there).0

pub returns-clause-sorted : goal.returns-clause-sorted
returns-clause-sorted c =
    let holds = place_holds c.args.spots.now c.args.spot.now c.place_of-place.result c.requires.sorted c.place_of-place.ensures.within c.place_of-place.ensures.below c.place_of-place.ensures.above c.requires.there in
    subst (λ (xs : List ℕ). IsNonDecreasing xs) (sym c.in_ok-remove.ensures.ok) (sorted_remove c.args.spots.now c.place_of-place.result holds.0 c.requires.sorted)

pub returns-clause-left : goal.returns-clause-left
returns-clause-left c = λ x.
    let holds = place_holds c.args.spots.now c.args.spot.now c.place_of-place.result c.requires.sorted c.place_of-place.ensures.within c.place_of-place.ensures.below c.place_of-place.ensures.above c.requires.there in
    ap (λ (xs : List ℕ). times x xs + times x (c.args.spot.now ∷ [])) c.in_ok-remove.ensures.ok ∙ times_remove x c.args.spots.now c.place_of-place.result c.args.spot.now holds.0 holds.1
