pub mod Live
pub mod NoteHeld
pub mod NoteOpen
pub mod Placed
pub mod Guarded
