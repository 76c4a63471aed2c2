use Rattle.std.proofs.Common.{◌≡◌, ◌≤◌}
use Rattle.page_model.specs.Breaking.{greatest_to, may_end_at}
use Rattle.paginate.proofs.ends.end_at_level.Given as goal

abbrev pub invariant-places : goal.invariant-places
invariant-places l = record {
  within : l.place ≤ l.reach;
  same : greatest_to l.place (may_end_at l.level l.rows) ≡ greatest_to l.reach (may_end_at l.level l.rows);
}

abbrev pub decreases-places : goal.decreases-places
decreases-places l = l.place
