use Rattle.std.proofs.Common.{◌≡◌, [], map}
use Rattle.doc_model.specs.Reading.{upwards}
use Rattle.idle_queue.proofs.agenda.fresh.Given as goal

abbrev pub invariant-numbers : goal.invariant-numbers
invariant-numbers l = l.live.items ≡ map (λ number. record { par = number; revision = l.version; keys = [] }) (upwards 1 l.before)
