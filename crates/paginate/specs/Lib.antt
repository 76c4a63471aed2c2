pub mod Uncited
pub mod Neighbours
pub mod Heads
pub mod Standing
pub mod Reached
pub mod Roomy
pub mod Placed
pub mod Marks
