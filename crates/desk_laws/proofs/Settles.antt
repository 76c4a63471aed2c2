-- Turns lower the debt until none is left.
use Rattle.std.proofs.Common.{◌≡◌, ◌≢◌, ℕ, ◌+◌, ◌≤◌, ◌<◌, Bool, true, false, refl, ap, sym, ◌∙◌, subst, arith, zero, suc, Some}
use Rattle.std.specs.Prelude.{◌==◌, if◌then◌else◌}
use Rattle.std.proofs.lemmas.Bool.{eq-eqb, and_from, eqb-true, eqb-false, cond_both}
use Rattle.doc_model.specs.declared.document.Document.{Document}
use Rattle.line_model.specs.declared.job.Job.{Job}
use Rattle.line_model.specs.declared.job.Stamp.{Stamp}
use Rattle.desk_model.specs.declared.command.Command.TheVariants as command
use Rattle.desk_model.specs.declared.reply.Reply.{Reply}
use Rattle.desk_model.specs.declared.reply.Reply.TheVariants as reply
use Rattle.round_model.specs.declared.turn.Taken.{Taken}
use Rattle.round_model.specs.declared.turn.Published.{Published}
use Rattle.round_model.specs.Rounds.{SetPar}
use Rattle.round_model.specs.Stops.{Stop, stop_at, paragraph_count, debt_behind}
use Rattle.round_model.specs.Idle.{Idle, Live, live_at, set_at, keeps, stamp_of, is_same_stamp, is_form_stop_of}
use Rattle.desk_model.specs.Desk.{State, present, taken_reply, step}
use Rattle.desk_model.specs.Runs.{turn, turns, settle}
use Rattle.line_model.proofs.KeyLemmas.{is_same_key-refl}
use Rattle.round_model.proofs.TakeCases.{TakeCase, take_case}
use Rattle.round_model.proofs.StopLemmas.{debt_behind-lt}
use Rattle.round_model.proofs.PublishCases.{PublishCase, publish_case}

same_stamp : (stamp : Stamp) → is_same_stamp stamp stamp ≡ true
same_stamp stamp = and_from (stamp.revision == stamp.revision) (stamp.epoch == stamp.epoch) (eq-eqb stamp.revision stamp.revision refl) (eq-eqb stamp.epoch stamp.epoch refl)

-- the form stop of a paragraph is that of its own key
own_stop : (doc : Document) (old : Idle) (round place : ℕ) (set : SetPar) → stop_at (paragraph_count doc) old.debt ≡ Stop.Form round place → set_at doc round place ≡ Some set
    → is_form_stop_of doc (stop_at (paragraph_count doc) old.debt) set.par set.key ≡ true
own_stop doc old round place set at is = rw (at, is_form_stop_of) (rw is (and_from _ _ (eq-eqb set.par set.par refl) (is_same_key-refl set.key)))

-- the turn at a stop that is passed
pub turn_passed : (state : State) (debt : ℕ) (new : State) → step state command.Take ≡ (reply.Moved debt, new) → turn state ≡ (reply.Moved debt, new)
turn_passed state debt new e = rw (e, turn)

-- the turn at a form stop with a job
pub turn_asked : (state : State) (job : Job) → step state command.Take ≡ (reply.Job job, state) → turn state ≡ step state (command.Publish job)
turn_asked state job e = rw (e, turn)

same_live : (live other : Live) → Some live ≡ Some other → live ≡ other
same_live live other e = cc

publish_lowers : (state : State) (round place : ℕ) (set : SetPar) (live : Live) (job : Job) → job ≡ record { par = record { 0 = set.par }; stamp = stamp_of state.idle live; key = set.key }
    → state.idle.debt ≢ 0 → stop_at (paragraph_count (present state)) state.idle.debt ≡ Stop.Form round place → set_at (present state) round place ≡ Some set
    → live_at set.par state.idle.live ≡ Some live → keeps live set.key ≡ false → (step state (command.Publish job)).1.idle.debt < state.idle.debt
publish_lowers state round place set live job j some at is lives none = subst (λ (job : Job). (step state (command.Publish job)).1.idle.debt < state.idle.debt) (sym j)
    (lowers (publish_case (present state) state.idle (record { par = record { 0 = set.par }; stamp = stamp_of state.idle live; key = set.key }))) where
      lowers : PublishCase (present state) state.idle (record { par = record { 0 = set.par }; stamp = stamp_of state.idle live; key = set.key })
          → (step state (command.Publish (record { par = record { 0 = set.par }; stamp = stamp_of state.idle live; key = set.key }))).1.idle.debt < state.idle.debt
      lowers (PublishCase.Gone e f) = absurd (let clash = sym e ∙ lives in cc)
      lowers (PublishCase.Outdated other e s f) = absurd (let same : other ≡ live = same_live _ _ (sym e ∙ lives) in
          let clash : false ≡ true = sym (subst (λ (other : Live). is_same_stamp (stamp_of state.idle live) (stamp_of state.idle other) ≡ false) same s) ∙ same_stamp (stamp_of state.idle live) in cc)
      lowers (PublishCase.Kept other e s k f) = absurd (let clash : true ≡ false = sym (subst (λ (other : Live). keeps other set.key ≡ true) (same_live _ _ (sym e ∙ lives)) k) ∙ none in cc)
      lowers (PublishCase.Fresh other e s k f) =
          let debt : (step state (command.Publish (record { par = record { 0 = set.par }; stamp = stamp_of state.idle live; key = set.key }))).1.idle.debt ≡ debt_behind (present state) state.idle.debt =
          ap (λ (t : Published × Idle). t.1.debt) f
          ∙ ap (λ (own : Bool). if own then debt_behind (present state) state.idle.debt else state.idle.debt) (own_stop (present state) state.idle round place set at is) in
          omega (arith, debt, debt_behind-lt (present state) state.idle.debt (omega arith))

pub turn_lowers : (state : State) → state.idle.debt ≢ 0 → (turn state).1.idle.debt < state.idle.debt
turn_lowers state some = elim (take_case (present state) state.idle) [
  | TakeCase.Done e f ↦ absurd (some e)
  | TakeCase.Passed e none f ↦
      let debt = ap (λ (t : Reply × State). t.1.idle.debt) (turn_passed state (debt_behind (present state) state.idle.debt) (record state { idle = record state.idle { debt = debt_behind (present state) state.idle.debt } })
      (ap (λ (t : Taken × Idle). (taken_reply t.0, record state { idle = t.1 })) f)) in
      omega (arith, debt, debt_behind-lt (present state) state.idle.debt (omega arith))
  | TakeCase.Asked round place set live e at is lives none f ↦
      let job : Job = record { par = record { 0 = set.par }; stamp = stamp_of state.idle live; key = set.key } in
      let debt = ap (λ (t : Reply × State). t.1.idle.debt) (turn_asked state (record { par = record { 0 = set.par }; stamp = stamp_of state.idle live; key = set.key })
      (ap (λ (t : Taken × Idle). (taken_reply t.0, record state { idle = t.1 })) f)) in
      omega (arith, debt, publish_lowers state round place set live (record { par = record { 0 = set.par }; stamp = stamp_of state.idle live; key = set.key }) refl some at is lives none)
]

-- as many turns as the debt are enough
one_more : (state : State) (rest : ℕ × State) → (turn state).1.idle.debt < state.idle.debt → (rest.1.idle.debt ≡ 0) × (rest.0 ≤ (turn state).1.idle.debt)
    → (rest.1.idle.debt ≡ 0) × (rest.0 + 1 ≤ state.idle.debt)
one_more state rest lower more = (more.0, omega (arith, lower, more.1))

turns_enough : (most : ℕ) (state : State) → state.idle.debt ≤ most → ((turns most state).1.idle.debt ≡ 0) × ((turns most state).0 ≤ state.idle.debt)
turns_enough zero state few = (omega arith, omega arith)
turns_enough (suc most) state few =
    cond_both (state.idle.debt == 0) (0, state) ((turns most (turn state).1).0 + 1, (turns most (turn state).1).1) (λ (ended : ℕ × State). (ended.1.idle.debt ≡ 0) × (ended.0 ≤ state.idle.debt))
    (λ e. (eqb-true state.idle.debt 0 e, omega arith))
    (λ e. let lower : (turn state).1.idle.debt < state.idle.debt = turn_lowers state (eqb-false state.idle.debt 0 e) in
    one_more state (turns most (turn state).1) lower (turns_enough most (turn state).1 (omega (arith, lower))))

pub settled : (state : State) → (settle state).1.idle.debt ≡ 0
settled state = (turns_enough state.idle.debt state (omega arith)).0

pub turns_made : (state : State) → (settle state).0 ≤ state.idle.debt
turns_made state = (turns_enough state.idle.debt state (omega arith)).1
