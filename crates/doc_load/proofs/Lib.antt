pub mod AnswerLemmas
pub mod BodyLemmas
pub mod FaultLemmas
pub mod KindLemmas
pub mod LeftLemmas
pub mod NameLemmas
pub mod TextLemmas
pub mod ChosenLemmas
