use Rattle.std.proofs.Common.{◌≡◌, map}
use Rattle.std.specs.List.{join_with_byte}
use Rattle.field_model.specs.Cut.{cut}
use Rattle.field_model.specs.Labels.{is_shown, shown_level}
use Rattle.list_num.specs.Counters.{count_in}
use Rattle.list_num.proofs.Joining.{is_nil, passed}
use Rattle.list_num.proofs.labels.shown_levels.Given as goal

abbrev pub invariant-levels : goal.invariant-levels
invariant-levels l = record {
  out : l.out ≡ cut (join_with_byte 46 (map (shown_level (count_in l.counters)) (passed (is_shown l.own l.display) l.levels l.level-index)));
  first : l.is_first ≡ is_nil (passed (is_shown l.own l.display) l.levels l.level-index);
}
