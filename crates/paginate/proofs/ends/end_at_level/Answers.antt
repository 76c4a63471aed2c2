use Rattle.std.proofs.Common.{◌≡◌, true, false, ap, sym, ◌∙◌, arith, List, ◌-◌}
use Rattle.page_model.specs.declared.row.Row.{Row}
use Rattle.page_model.specs.Breaking.{may_end_at}
use Rattle.paginate.proofs.EndLemmas.{from_on, greatest-here, greatest-less}
use Rattle.paginate.proofs.ends.end_at_level.Goals as goal

pub returns-then-may_end_first : goal.returns-then-may_end_first
returns-then-may_end_first c =
    let here : may_end_at c.args.level c.args.rows.now c.places.place ≡ true =
    sym (ap (λ (rest : List Row). may_end_at c.args.level rest 1) (from_on (c.places.place - 1) c.args.rows.now)) ∙ sym c.may_end_first.ensures ∙ c.if-may_end_first.true in
    sym (greatest-here (may_end_at c.args.level c.args.rows.now) c.places.place c.places-test.true here) ∙ c.places.invariant.same

pub places-preserved : goal.places-preserved
places-preserved c =
    let here : may_end_at c.args.level c.args.rows.now c.places.place ≡ false =
    sym (ap (λ (rest : List Row). may_end_at c.args.level rest 1) (from_on (c.places.place - 1) c.args.rows.now)) ∙ sym c.may_end_first.ensures ∙ c.if-may_end_first.false in
    record {
      within = omega arith;
      same = greatest-less (may_end_at c.args.level c.args.rows.now) c.places.place c.places-test.true here ∙ c.places.invariant.same;
    }
