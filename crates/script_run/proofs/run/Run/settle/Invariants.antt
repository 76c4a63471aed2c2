-- The turns that are left, after those that were made, are the turns that settle.
use Rattle.std.proofs.Common.{◌≡◌, ◌+◌, ◌-◌, ◌<◌, ◌≤◌, ◌^◌}
use Rattle.desk_model.specs.Runs.{turns, settle}
use Rattle.script_run.proofs.run.Run.settle.Given as goal

abbrev pub invariant-turns : goal.invariant-turns
invariant-turns l = record {
  owed : l.count + l.self.state.idle.debt ≤ l.fn.self.state.idle.debt;
  none_made : l.count ≡ 0 → l.self.state.idle.debt ≡ l.fn.self.state.idle.debt;
  fits : 0 < l.count → l.fn.self.state.idle.debt < 2 ^ 32;
  settles : ((turns (l.fn.self.state.idle.debt - l.count) l.self.state).0 + l.count, (turns (l.fn.self.state.idle.debt - l.count) l.self.state).1) ≡ settle l.fn.self.state;
  jobs : l.self.jobs ≡ l.fn.self.jobs;
}

abbrev pub decreases-turns : goal.decreases-turns
decreases-turns l = l.self.state.idle.debt
