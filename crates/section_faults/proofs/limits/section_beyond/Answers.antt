use Rattle.std.proofs.Common.{◌∙◌, List, ℕ, ap, arith, take, drop, ◌-◌}
use Rattle.section_faults.proofs.KeptLemmas.{passed_here, counted_here, found_here, none_left, places_by}
use Rattle.section_faults.proofs.limits.section_beyond.Goals as goal
use Rattle.section_faults.proofs.limits.section_beyond.Goals.{in-Some+else-before-eq8192, in_default}

pub met-preserved : goal.met-preserved
met-preserved c =
    elim c.match-kept_place.branch [
      | in-Some+else-before-eq8192 w ↦
          let few = c.met.invariant.few in
          let other = w.if-before-eq8192.false in
          let is = w.before-is in
          rw w.before-is (record {
            few = omega (arith, few, other);
            rest = counted_here 8192 c.args.kept.now.sections c.args.met.now c.met.one-index _ c.met.before _ c.met-test.true c.met.invariant.rest w.in-Some.place w.in-Some.ensures (omega (arith, few, other));
          })
      | in_default w ↦
          rw w.before-is (record {
            few = c.met.invariant.few;
            rest = passed_here 8192 c.args.kept.now.sections c.args.met.now c.met.one-index _ c.met.before _ c.met-test.true c.met.invariant.rest w.in_default.ensures;
          })
    ]

pub returns-then-before-eq8192 : goal.returns-then-before-eq8192
returns-then-before-eq8192 c = λ all alike same apart.
    found_here 8192 c.args.kept.now.sections c.args.met.now c.met.one-index _ c.met.before _ c.met-test.true c.met.invariant.rest c.in-Some.place c.in-Some.ensures c.if-before-eq8192.true
    ∙ ap (λ (places : List ℕ). take 1 (drop 8192 places)) (places_by c.args.kept.now.sections c.args.met.now all alike same.sections apart)

pub returns : goal.returns
returns c = λ all alike same apart.
    none_left (8192 - c.met.before) c.args.kept.now.sections c.args.met.now c.met.one-index _ c.met-test.false c.met.invariant.rest
    ∙ ap (λ (places : List ℕ). take 1 (drop 8192 places)) (places_by c.args.kept.now.sections c.args.met.now all alike same.sections apart)
