pub mod DefaultLemmas
pub mod FrontLemmas
pub mod HeldLemmas
pub mod JoinLemmas
pub mod PartLemmas
pub mod ThereLemmas
