use Rattle.std.proofs.Common.{◌≡◌, true, sym, ◌∙◌}
use Rattle.field_model.specs.Labels.{is_shown, shown_level}
use Rattle.list_num.specs.Counters.{count_in}
use Rattle.list_num.proofs.Joining.{shown_more, shown_some}
use Rattle.list_num.proofs.labels.shown_levels.Goals as goal

pub levels-preserved : goal.levels-preserved
levels-preserved c =
    let test : is_shown c.args.own c.args.display c.level-item.result ≡ true = sym c.is_shown.ensures ∙ c.if-not-is_shown.false in
    record {
      out = shown_more (is_shown c.args.own c.args.display) (shown_level (count_in c.args.counters.now)) c.args.levels.now c.levels.level-index c.level-item.result c.levels.is_first c.levels.out c.push_next.new.out c.levels-test.true c.level-item.is test c.levels.invariant.first c.levels.invariant.out c.in_ok-push_next.ensures;
      first = shown_some (is_shown c.args.own c.args.display) c.args.levels.now c.levels.level-index c.level-item.result c.levels-test.true c.level-item.is test;
    }
