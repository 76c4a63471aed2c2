pub mod Parts
pub mod OfNotes
pub mod OfBodies
