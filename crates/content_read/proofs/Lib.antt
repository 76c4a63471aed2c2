pub mod AddLemmas
pub mod AloneLemmas
pub mod HeldLemmas
pub mod RoleLemmas
pub mod TurnLemmas
