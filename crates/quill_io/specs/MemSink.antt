-- A sink in memory.
use Rattle.std.specs.Prelude.{ℕ, List}

-- the bytes held, how many there may be, which calls are to fail, and how many calls and faults there were
pub record SinkState : Type 0 where
  pub held : List ℕ
  pub room : ℕ
  pub failing : List ℕ
  pub calls : ℕ
  pub faults : ℕ
