pub mod AttemptLemmas
pub mod InstructionLemmas
pub mod TagLemmas
pub mod ValueLemmas
pub mod ValueRunLemmas
