use Rattle.std.proofs.Common.{◌≡◌, ◌∙◌, Some, ◌+◌, suc, length, ap, sym, slice_get, arith}
use Rattle.indexmap.specs.IndexMap.{set_value_at}
use Rattle.style_tree.proofs.Shifts.{shifted_first, next-shifted_first, set-shifted_first, length-shifted_first, all-shifted_first}
use Rattle.style_tree.proofs.places.shift_all.Goals as goal

pub pair_mut-place-requires : goal.pair_mut-place-requires
pair_mut-place-requires c =
    let long : length c.entries.places.entries ≡ length c.args.places.now.entries = ap length c.entries.invariant.0 ∙ length-shifted_first c.args.shift c.entries.next c.args.places.now.entries in
    omega (arith, long, c.entries.invariant.1, c.entries-test.true)

pub entries-preserved : goal.entries-preserved
entries-preserved c =
    let initial = c.args.places.now.entries in
    let next = c.entries.next in
    let at : slice_get initial next ≡ Some (c.pair_mut-place.result.0.now, c.pair_mut-place.result.1.now) = sym (next-shifted_first c.args.shift next initial) ∙ sym (ap (λ entries. slice_get entries next) c.entries.invariant.0) ∙ c.pair_mut-place.ensures.value in
    let after : suc next ≡ next + 1 = omega arith in
    let here = ap (λ entries. set_value_at entries next c.place.result) c.entries.invariant.0 in
    let there = ap (λ place. set_value_at (shifted_first c.args.shift next initial) next place) c.place.ensures in
    (here ∙ there ∙ set-shifted_first c.args.shift next initial c.pair_mut-place.result.0.now c.pair_mut-place.result.1.now at ∙ ap (λ count. shifted_first c.args.shift count initial) after, c.entries.invariant.1, omega (arith, c.entries-test.true))

pub returns : goal.returns
returns c =
    let all : c.entries.next ≡ length c.args.places.now.entries = omega (arith, c.entries.invariant.1, c.entries.invariant.2, c.entries-test.false) in
    c.entries.invariant.0 ∙ ap (λ count. shifted_first c.args.shift count c.args.places.now.entries) all ∙ all-shifted_first c.args.shift c.args.places.now.entries
