pub mod PlainPast
pub mod PlainCommand
pub mod DeskState
