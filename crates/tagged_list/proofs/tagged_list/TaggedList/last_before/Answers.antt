use Rattle.std.proofs.Common.{◌≡◌, ℕ, ◌-◌, ◌^◌, ◌<◌, ◌≤◌, length, get_or, take, sym, ap, ◌∙◌, arith}
use Rattle.std.proofs.lemmas.List.{length-map}
use Rattle.std.proofs.lemmas.Option.{get_or_from_slice_get}
use Rattle.tagged_list.specs.Tags.{has_tag, spot_at, rank_of}
use Rattle.tagged_list.specs.Entries.{keys_of}
use Rattle.tagged_list.specs.Last.{last_position}
use Rattle.tagged_list.proofs.Lasts.{last_at, last_at_none}
use Rattle.tagged_list.proofs.tagged_list.TaggedList.last_before.Goals as goal

pub returns-then-place-eq0 : goal.returns-then-place-eq0
returns-then-place-eq0 g c =
    let items = c.self.inside.items in
    let spots = c.self.inside.spots in
    let tag = c.args.tag in
    let at = c.args.at in
    let place = c.place_of-place.result in
    let inside : at < length items = omega (arith, c.requires.in_range, ap length c.self.view_is, length-map items (λ entry. entry.tagged)) in
    let small : get_or (keys_of items) at 0 < 2 ^ 64 = c.self.invariant.bounded at 0 (omega (arith, length-map items (λ entry. entry.key))) in
    let spot : c.new-spot.result ≡ spot_at (rank_of tag) (get_or (keys_of items) at 0) = c.new-spot.ensures ∙ ap (λ (key : ℕ). spot_at (rank_of tag) key) c.key_at.ensures in
    let above : (k : ℕ) → place ≤ k → k < length spots → spot_at (rank_of tag) (get_or (keys_of items) at 0) ≤ get_or spots k 0 = λ k h inner. omega (arith, c.place_of-place.ensures.above k h inner, spot) in
    sym (ap (λ hs. last_position (has_tag tag) (take at hs)) (sym c.self.view_is) ∙ last_at_none items spots tag at place c.self.invariant inside small above c.place_of-place.ensures.within (λ some. absurd (omega arith)) (λ some key h is. omega arith))

pub returns-in-None : goal.returns-in-None
returns-in-None g c =
    let items = c.self.inside.items in
    let spots = c.self.inside.spots in
    let tag = c.args.tag in
    let at = c.args.at in
    let place = c.place_of-place.result in
    let inside : at < length items = omega (arith, c.requires.in_range, ap length c.self.view_is, length-map items (λ entry. entry.tagged)) in
    let small : get_or (keys_of items) at 0 < 2 ^ 64 = c.self.invariant.bounded at 0 (omega (arith, length-map items (λ entry. entry.key))) in
    let spot : c.new-spot.result ≡ spot_at (rank_of tag) (get_or (keys_of items) at 0) = c.new-spot.ensures ∙ ap (λ (key : ℕ). spot_at (rank_of tag) key) c.key_at.ensures in
    let above : (k : ℕ) → place ≤ k → k < length spots → spot_at (rank_of tag) (get_or (keys_of items) at 0) ≤ get_or spots k 0 = λ k h inner. omega (arith, c.place_of-place.ensures.above k h inner, spot) in
    let below : get_or spots (place - 1) 0 < spot_at (rank_of tag) (get_or (keys_of items) at 0) = omega (arith, c.place_of-place.ensures.below (place - 1) (omega arith), spot) in
    let is = get_or_from_slice_get spots (place - 1) c.get.result.now 0 c.get.ensures in
    sym (ap (λ hs. last_position (has_tag tag) (take at hs)) (sym c.self.view_is) ∙ last_at_none items spots tag at place c.self.invariant inside small above c.place_of-place.ensures.within (λ some. below) (λ some key h same. c.in-None.ensures.none key h (sym is ∙ same)))

pub returns-in-Some : goal.returns-in-Some
returns-in-Some g c =
    let items = c.self.inside.items in
    let spots = c.self.inside.spots in
    let tag = c.args.tag in
    let at = c.args.at in
    let place = c.place_of-place.result in
    let inside : at < length items = omega (arith, c.requires.in_range, ap length c.self.view_is, length-map items (λ entry. entry.tagged)) in
    let spot : c.new-spot.result ≡ spot_at (rank_of tag) (get_or (keys_of items) at 0) = c.new-spot.ensures ∙ ap (λ (key : ℕ). spot_at (rank_of tag) key) c.key_at.ensures in
    let above : (k : ℕ) → place ≤ k → k < length spots → spot_at (rank_of tag) (get_or (keys_of items) at 0) ≤ get_or spots k 0 = λ k h inner. omega (arith, c.place_of-place.ensures.above k h inner, spot) in
    let below : get_or spots (place - 1) 0 < spot_at (rank_of tag) (get_or (keys_of items) at 0) = omega (arith, c.place_of-place.ensures.below (place - 1) (omega arith), spot) in
    let is = get_or_from_slice_get spots (place - 1) c.get.result.now 0 c.get.ensures in
    sym (ap (λ hs. last_position (has_tag tag) (take at hs)) (sym c.self.view_is) ∙ last_at items spots tag at place c.in-Some.key c.place_of_key.result c.self.invariant inside (omega arith) c.place_of-place.ensures.within above below c.in-Some.ensures.some.1 (is ∙ c.in-Some.ensures.some.0) c.place_of_key.ensures.below c.place_of_key.ensures.above)
