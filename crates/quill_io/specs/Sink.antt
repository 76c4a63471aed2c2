-- What a put to a sink leaves.
use Rattle.std.specs.Prelude.{ℕ, List, take, Option, Result, MatchResult}
use Rattle.std.specs.Io.KnownBytes.{Appends}
use Rattle.quill_io.specs.declared.sink.SinkFault.{SinkFault}

-- where the bytes held are told, the piece follows them after `Ok`, and a prefix of it after a fault
abbrev pub Puts : Option (List ℕ) → Option (List ℕ) → List ℕ → Result (Unit {0}) SinkFault → Type 0
Puts old new piece result = MatchResult result (λ _. Appends old new piece) (λ _. (taken : ℕ) × Appends old new (take taken piece))
