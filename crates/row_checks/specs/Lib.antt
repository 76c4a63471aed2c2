pub mod NoteHeld
pub mod Guarded
