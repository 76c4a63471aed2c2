use Rattle.std.proofs.Common.{ℕ, ◌<◌, length, get_or, sym, ap, ◌∙◌, arith}
use Rattle.std.specs.Prelude.{position}
use Rattle.std.proofs.lemmas.Option.{get_or_from_slice_get, slice_get_within}
use Rattle.tagged_list.specs.Tags.{has_tag, spot_at, rank_of}
use Rattle.tagged_list.proofs.Finds.{none_behind, none_at, first_at}
use Rattle.tagged_list.proofs.tagged_list.TaggedList.first.Goals as goal

pub returns-then-place-len : goal.returns-then-place-len
returns-then-place-len g c =
    let spots = c.self.inside.spots in
    let at : (k : ℕ) → k < length spots → get_or spots k 0 < spot_at (rank_of c.args.tag) 0 =
    λ k h. omega (arith, c.place_of-place.ensures.below k (omega arith), c.new-spot.ensures) in
    sym (ap (position (has_tag c.args.tag)) (sym c.self.view_is) ∙ none_behind c.self.inside.items spots c.args.tag c.self.invariant at)

pub returns-in-None : goal.returns-in-None
returns-in-None g c =
    let spots = c.self.inside.spots in
    let place = c.place_of-place.result in
    let within = slice_get_within spots place c.get.result.now c.get.ensures in
    let is = get_or_from_slice_get spots place c.get.result.now 0 c.get.ensures in
    let below : (k : ℕ) → k < place → get_or spots k 0 < spot_at (rank_of c.args.tag) 0 =
    λ k h. omega (arith, c.place_of-place.ensures.below k h, c.new-spot.ensures) in
    sym (ap (position (has_tag c.args.tag)) (sym c.self.view_is) ∙ none_at c.self.inside.items spots c.args.tag place c.self.invariant below (omega (arith, c.place_of-place.ensures.above place (omega arith) within, c.new-spot.ensures)) (λ key small same. c.in-None.ensures.none key small (sym is ∙ same)))

pub returns-in-Some : goal.returns-in-Some
returns-in-Some g c =
    let spots = c.self.inside.spots in
    let place = c.place_of-place.result in
    let within = slice_get_within spots place c.get.result.now c.get.ensures in
    let is = get_or_from_slice_get spots place c.get.result.now 0 c.get.ensures in
    let below : (k : ℕ) → k < place → get_or spots k 0 < spot_at (rank_of c.args.tag) 0 =
    λ k h. omega (arith, c.place_of-place.ensures.below k h, c.new-spot.ensures) in
    sym (ap (position (has_tag c.args.tag)) (sym c.self.view_is) ∙ first_at c.self.inside.items spots c.args.tag place c.in-Some.key c.place_of_key.result c.self.invariant below within c.in-Some.ensures.some.1 (is ∙ c.in-Some.ensures.some.0) c.place_of_key.ensures.below c.place_of_key.ensures.above)
