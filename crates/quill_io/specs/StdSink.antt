-- A sink over a writer.
use Rattle.std.specs.Prelude.{ℕ}

-- the writer, and how many faults there were
pub record WriterState (W : Type 0) : Type 0 where
  pub writer : W
  pub faults : ℕ
