use Rattle.desk_laws.specs.Steps.{after_all}
use Rattle.desk_laws.proofs.Runs.{IsKept-all, ShowSame-past}
use Rattle.desk_laws.proofs.laws.nothing_else_is_saved.Goals as goal

pub returns-clause-past : goal.returns-clause-past
returns-clause-past c = λ state commands none. (IsKept-all state commands none).past

pub returns-clause-version : goal.returns-clause-version
returns-clause-version c = λ state commands none. (IsKept-all state commands none).version

pub returns-clause-same : goal.returns-clause-same
returns-clause-same c = λ state commands none. ShowSame-past state (after_all state commands) (IsKept-all state commands none).past
