pub mod OwnRow
pub mod Changes
pub mod Flat
pub mod Standing
pub mod Located
pub mod NoteRows
