pub mod HeldRows
pub mod OneBody
pub mod OneStack
pub mod Round
pub mod Stacks
