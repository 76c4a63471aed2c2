pub mod CutLemmas
pub mod SpellLemmas
pub mod LineLemmas
pub mod CommandLemmas
pub mod ScriptLemmas
pub mod PrintLemmas
pub mod OperationLemmas
