use Rattle.desk_model.specs.Desk.{present, start_at}
use Rattle.desk_laws.specs.Steps.{after_all}
use Rattle.desk_laws.proofs.LastRound.{last_round_kept}
use Rattle.desk_laws.proofs.ReachedStates.{reached_states}
use Rattle.desk_laws.proofs.laws.reached_states_hold.Goals as goal

pub returns-clause-reached : goal.returns-clause-reached
returns-clause-reached c = reached_states

pub returns-clause-done : goal.returns-clause-done
returns-clause-done c = λ doc version commands done.
    last_round_kept (present (after_all (start_at doc version) commands)) (after_all (start_at doc version) commands).idle (reached_states doc version commands) done
