pub mod Shifts
pub mod Saying
pub mod Moves
pub mod Marks
pub mod Finding
pub mod Noted
pub mod Along
pub mod CommonEnd
