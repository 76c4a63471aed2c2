pub mod Splices
pub mod Distinct
pub mod Kept
pub mod NoteKept
