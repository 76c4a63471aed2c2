use Rattle.std.proofs.Common.{◌≡◌, ℕ, ◌+◌, ◌<◌, ◌≢◌, length, get_or, below_more, get_or-set_other, get_or-set_same, ◌∙◌, arith, rules}
use Rattle.std.specs.List.{slice_set}
use Rattle.std.proofs.lemmas.List.{length-set}
use Rattle.list_num.specs.Counters.{count_behind, place_of}
use Rattle.list_num.proofs.Counting.{counted_all}
use Rattle.list_num.proofs.counters.counters_behind.Goals as goal

pub levels-preserved : goal.levels-preserved
levels-preserved c = record {
  whole = length-set c.levels.next c.levels.index c.in_ok-next.field-0 ∙ c.levels.invariant.whole;
  counted = below_more (λ (k : ℕ). get_or (slice_set c.levels.next c.levels.index c.in_ok-next.field-0) k 0 ≡ count_behind (k + 1) (place_of c.args.step) (get_or c.args.counters.now k 0)) c.levels.index
      (λ k h. let ne : k ≢ c.levels.index = omega arith in rw get_or-set_other (c.levels.invariant.counted k h))
      (let lt : c.levels.index < length c.levels.next = omega (arith, c.levels.invariant.whole, c.levels-test.true) in rw get_or-set_same (c.in_ok-next.ensures));
}

pub returns : goal.returns
returns c =
    let old : length c.args.counters.now ≡ 10 = search rules in
    counted_all c.args.counters.now c.levels.next (place_of c.args.step) c.requires.least c.requires.most old c.levels.invariant.whole
    (λ index below. let done : index < c.levels.index = omega arith in c.levels.invariant.counted index done)
